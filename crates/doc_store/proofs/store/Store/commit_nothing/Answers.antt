use Rattle.std.proofs.Common.{◌≡◌, ◌∙◌, ◌+◌, ◌≤◌, false, sym}
use Rattle.slot_commits.specs.Loads.{number_end}
use Rattle.store_commits.specs.Copying.{copy_of, target_of}
use Rattle.store_commits.proofs.Modelled.{both_models}
use Rattle.store_commits.proofs.Standing.{held_broke}
use Rattle.doc_store.proofs.Pumps.{seal_failed}
use Rattle.doc_store.proofs.Seals.{only_device, seal_moments, the_fault}
use Rattle.doc_store.proofs.store.Store.commit_nothing.Goals as goal

pub returns-in-Err-clause-moments_err : goal.returns-in-Err-clause-moments_err
returns-in-Err-clause-moments_err g c = λ _. rw (← c.self.view_is) (λ honest works.
    let disk = g.D.SectorDevice.disk in
    let before = c.self.inside.journal in
    let now = c.seal.new.self in
    seal_moments (disk before.device) (disk now.device) before now c.self.inside.machine c.self.invariant.held c.seal.ensures.honest c.seal.ensures.kept honest (c.seal.ensures.any_moment honest works))

pub returns-in-Err-clause-failed : goal.returns-in-Err-clause-failed
returns-in-Err-clause-failed g c = λ _. rw (← c.self.view_is)
    (let disk = g.D.SectorDevice.disk in
    let before = c.self.inside.journal in
    let works : before.broken ≡ false = sym c.is_broken.ensures.broken ∙ c.if-is_broken.false in
    let left : before.next + 2 ≤ number_end = c.has_numbers.ensures.0 c.if-not-has_numbers.false in
    seal_failed disk (both_models disk g.met.D.SectorDevice.coherent g.met.D.SectorDevice.torn_coherent) before c.seal.new.self c.self.inside.machine c.self.invariant.held c.seal.ensures.honest c.seal.ensures.kept (copy_of (target_of c.self.inside.copy))
    (the_fault _ (only_device before _ c.in-Err.ensures.refused works left) c.in-Err.ensures.err) (λ honest. c.seal.ensures.any_moment honest works))

pub invariant_of-self-in-Err : goal.invariant_of-self-in-Err
invariant_of-self-in-Err g c =
    let disk = g.D.SectorDevice.disk in
    let before = c.self.inside.journal in
    let works : before.broken ≡ false = sym c.is_broken.ensures.broken ∙ c.if-is_broken.false in
    let left : before.next + 2 ≤ number_end = c.has_numbers.ensures.0 c.if-not-has_numbers.false in
    let broke = the_fault _ (only_device before _ c.in-Err.ensures.refused works left) c.in-Err.ensures.err in
    record { held = held_broke (disk before.device) (disk c.seal.new.self.device) before c.seal.new.self c.self.inside.machine _ broke c.self.invariant.held c.seal.ensures.honest c.seal.ensures.kept; copied = tt }
