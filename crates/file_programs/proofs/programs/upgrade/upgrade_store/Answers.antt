use Rattle.std.proofs.Common.{inl}
use Rattle.sector_device.proofs.Moments.{leaves_weaker}
use Rattle.file_device.specs.File.{file_disk}
use Rattle.store_journal.specs.Models.{model}
use Rattle.doc_store.specs.Formats.{IsImageOf}
use Rattle.file_programs.specs.Upgrades.{MayTurn}
use Rattle.file_programs.proofs.Chosen.{some_chosen}
use Rattle.file_programs.proofs.programs.upgrade.upgrade_store.Goals as goal

-- nothing was done yet
pub returns-in_err-identity-clause-any_moment : goal.returns-in_err-identity-clause-any_moment
returns-in_err-identity-clause-any_moment g c = λ honest.
    let store = c.args.store.now in
    let disk = model store.account.rides (file_disk store.device) in
    let chosen = some_chosen c.args.asked in
    leaves_weaker disk disk (IsImageOf store.account) (MayTurn store.account c.args.format c.args.asked) (λ image is. (chosen.0, chosen.1, inl is)) (c.know_images.ensures.still honest c.requires.works)

pub returns-in_err-identity-clause-standing : goal.returns-in_err-identity-clause-standing
returns-in_err-identity-clause-standing g c = c.know_images.ensures.standing
