use Rattle.std.proofs.Common.{ℕ, ◌<◌, [], ◌∷◌, get_or, length, ◌∙◌, ap, subst, sym, None}
use Rattle.sector_device.specs.Disk.{HasShape}
use Rattle.sector_device.specs.History.{left_after}
use Rattle.sector_device.specs.Kept.{written_to}
use Rattle.sector_device.specs.Pick.{picked_of}
use Rattle.sector_device.proofs.Picks.{crash_left}
use Rattle.sector_device.proofs.memory.MemDisk.crash.Goals as goal

pub restarted-requires-clause-shape : goal.restarted-requires-clause-shape
restarted-requires-clause-shape c =
    let m = c.args.self in
    let image = c.keep_picked.new.settled.items in
    let each = λ (i : ℕ) (lt : i < length m.settled.items). c.keep_picked.ensures.picked i lt ∙ (λ t. picked_of (get_or c.args.picks.now i 0) (get_or m.settled.items i [] ∷ written_to i (c.deref.ensures.value t))) in
    subst (λ (n : ℕ). HasShape n image) (sym (c.keep_picked.ensures.size ∙ m.kept.size)) (m.kept.shape None image (crash_left m.history m.calls.items m.settled.items m.current.items m.unsettled.items m.kept c.args.picks.now image c.keep_picked.ensures.size each))

pub returns-clause-one : goal.returns-clause-one
returns-clause-one c =
    let m = c.args.self in
    let image = c.keep_picked.new.settled.items in
    let each = λ (i : ℕ) (lt : i < length m.settled.items). c.keep_picked.ensures.picked i lt ∙ (λ t. picked_of (get_or c.args.picks.now i 0) (get_or m.settled.items i [] ∷ written_to i (c.deref.ensures.value t))) in
    subst (left_after m.history) (sym c.restarted.ensures.seen) (crash_left m.history m.calls.items m.settled.items m.current.items m.unsettled.items m.kept c.args.picks.now image c.keep_picked.ensures.size each)
