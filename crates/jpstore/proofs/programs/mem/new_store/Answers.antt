use Rattle.std.proofs.Common.{◌∙◌, ap}
use Rattle.sector_device.specs.Memory.{mem_disk}
use Rattle.jpstore.specs.Memory.{new_account}
use Rattle.jpstore.proofs.Memory.{opened_new, seen_left}
use Rattle.jpstore.proofs.programs.mem.new_store.Goals as goal

pub returns : goal.returns
returns c =
    let rides = c.args.rides in
    let disk = c.format_in.new.device in
    let store = c.in_ok-open.field-0 in
    let carries = c.in_ok-format_in.ensures.ok.empty tt (mem_disk disk).seen (seen_left rides disk) in
    opened_new rides (mem_disk disk) (mem_disk store.device) store.account c.images_carry_one.ensures c.one_state_stands.ensures.images tt carries c.in_ok-open.ensures.opened
    ∙ ap (new_account rides) (c.in_ok-format_in.ensures.same.size ∙ c.in_ok-disk.ensures.sectors)
