use Rattle.std.proofs.Common.{ℕ, ◌<◌, [], ◌∷◌, get_or, length, ◌∙◌, ap, subst, sym, None, Some}
use Rattle.sector_device.specs.Disk.{HasShape}
use Rattle.sector_device.specs.History.{left_by}
use Rattle.sector_device.specs.Kept.{written_near, written_to}
use Rattle.sector_device.specs.Pick.{picked_of, torn_of}
use Rattle.sector_device.proofs.Picks.{crash_left}
use Rattle.sector_device.proofs.TornPicks.{crash_torn}
use Rattle.sector_device.proofs.memory.MemDisk.crash_torn.Goals as goal

pub restarted-requires-clause-shape : goal.restarted-requires-clause-shape
restarted-requires-clause-shape c =
    let m = c.args.self in
    let image = c.keep_picked.new.settled.items in
    let each = λ (i : ℕ) (lt : i < length m.settled.items). c.keep_picked.ensures.picked i lt ∙ (λ t. picked_of (get_or c.args.picks.now i 0) (get_or m.settled.items i [] ∷ written_to i (c.deref.ensures.value t))) in
    let whole = subst (λ (n : ℕ). HasShape n image) (sym (c.keep_picked.ensures.size ∙ m.kept.size)) (m.kept.shape None image (crash_left m.history m.calls.items m.settled.items m.current.items m.unsettled.items m.kept c.args.picks.now image c.keep_picked.ensures.size each)) in
    subst (λ (n : ℕ). HasShape n c.tear.new.settled.items) (sym c.tear.ensures.size) (c.tear.ensures.shape whole)

pub returns-clause-one : goal.returns-clause-one
returns-clause-one c = λ torn all.
    let m = c.args.self in
    let image = c.keep_picked.new.settled.items in
    let each = λ (i : ℕ) (lt : i < length m.settled.items). c.keep_picked.ensures.picked i lt ∙ (λ t. picked_of (get_or c.args.picks.now i 0) (get_or m.settled.items i [] ∷ written_to i (c.deref.ensures.value t))) in
    let torn_each = λ (i : ℕ) (lt : i < length image). c.tear.ensures.torn i lt ∙ (λ t. torn_of (written_near i (c.deref-2.ensures.value t)) i c.args.damage.now (get_or image i [])) in
    subst (left_by (Some torn) m.history) (sym c.restarted.ensures.seen) (crash_torn torn m.history m.calls.items m.settled.items m.current.items m.unsettled.items m.kept c.args.picks.now c.args.damage.now all image c.tear.new.settled.items c.keep_picked.ensures.size c.tear.ensures.size each torn_each)
