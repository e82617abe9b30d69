use Rattle.std.proofs.Common.{◌≡◌, ◌++◌, ◌-◌, ◌%◌, List, ℕ, take-append-drop, subst, ◌∙◌}
use Rattle.slot_commits.specs.Puts.{Put}
use Rattle.slot_journal.specs.Journaled.{appended}
use Rattle.slot_journal.proofs.appending.append.Goals as goal

pub returns-else-bytes-rest-clause-put : goal.returns-else-bytes-rest-clause-put
returns-else-bytes-rest-clause-put g c = λ torn state told honest knows stands.
    let known = c.args.known.now in
    let both : c.split_at.result.0.now ++ c.split_at.result.1.now ≡ c.args.bytes.now = (λ i. c.split_at.ensures.front i ++ c.split_at.ensures.back i) ∙ take-append-drop (4096 - known.slot.length % 4096) c.args.bytes.now in
    subst (λ (l : List ℕ). Put torn (g.D.SectorDevice.disk c.args.device.now) (g.D.SectorDevice.disk c.append_large.new.device) known.slot.number state (appended state l c.args.adds c.args.opens) c.append_large.result) both
    (c.append_large.ensures.put torn state told honest knows stands)
