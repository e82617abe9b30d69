use Rattle.std.proofs.Common.{◌≤◌, ℕ, List, sym, subst, ◌∙◌}
use Rattle.commit_slots.specs.Finding.{BeginsAs}
use Rattle.slot_commits.proofs.Survey.{padded, padded_begins, padded_size}
use Rattle.slot_commits.proofs.reading.find.Goals as goal

pub returns-clause-found : goal.returns-clause-found
returns-clause-found g c = λ h.
    let disk = g.D.SectorDevice.disk in
    let old = disk c.args.device.now in
    let was = c.read_slots.ensures.same.honest h in
    let coherent = g.met.D.SectorDevice.coherent c.args.device.now was in
    c.in-Ok-found_in.ensures old.seen ((coherent.shape old.seen coherent.seen).count ∙ sym c.sectors-sectors.ensures) (subst (λ (l : List (List ℕ)). BeginsAs l old.seen) (sym c.deref.ensures.value) (c.in-Ok.ensures.begins h))

pub returns-clause-fits : goal.returns-clause-fits
returns-clause-fits g c =
    let old = g.D.SectorDevice.disk c.args.device.now in
    let slots = c.in-Ok.slots.items in
    let size = padded_size slots c.sectors-sectors.result c.in-Ok.ensures.size (subst (λ (n : ℕ). 128 ≤ n) (sym c.sectors-sectors.ensures) c.requires.room) in
    (padded slots c.sectors-sectors.result, size ∙ c.sectors-sectors.ensures, c.in-Ok-found_in.ensures (padded slots c.sectors-sectors.result) size (subst (λ (l : List (List ℕ)). BeginsAs l (padded slots c.sectors-sectors.result)) (sym c.deref.ensures.value) (padded_begins slots c.sectors-sectors.result)))
