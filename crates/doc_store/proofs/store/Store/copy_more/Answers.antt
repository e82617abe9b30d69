use Rattle.std.proofs.Common.{◌≡◌, ◌∙◌, ◌≤◌, [], length, sym, subst, arith, Option, Bool, true, false}
use Rattle.std.proofs.lemmas.Result.{err_from_is_err_and}
use Rattle.store_journal.specs.Layout.{capacity_of}
use Rattle.store_commits.specs.Account.{with_copy}
use Rattle.store_commits.specs.Copying.{IsBegun, IsCopying, Target, copy_of, target_of, view_of}
use Rattle.store_commits.specs.Inside.{account_of}
use Rattle.store_commits.specs.Batch.{FailedCommit}
use Rattle.store_commits.specs.Run.{to_step}
use Rattle.doc_store.proofs.Pumps.{begun_at, begun_copying, none_runs, step_moments, step_failed, step_stored}
use Rattle.store_commits.proofs.Modelled.{both_models}
use Rattle.store_commits.proofs.Standing.{standing, stays}
use Rattle.doc_store.proofs.store.Store.copy_more.Given.{Over}
use Rattle.doc_store.proofs.store.Store.copy_more.Goals as goal

-- the device was not called
pub returns-then-capacity-len-clause-moments : goal.returns-then-capacity-len-clause-moments
returns-then-capacity-len-clause-moments g c =
    let disk = g.D.SectorDevice.disk in
    let journal = c.self.inside.journal in
    rw (← c.self.view_is)
    (stays (disk journal.device) (account_of journal c.self.inside.machine) [] (both_models g.D.SectorDevice.disk g.met.D.SectorDevice.coherent g.met.D.SectorDevice.torn_coherent journal.rides journal.device) (standing (disk journal.device) journal c.self.inside.machine c.self.invariant.held))

-- no number is left
pub returns-then-not-has_number-clause-memory : goal.returns-then-not-has_number-clause-memory
returns-then-not-has_number-clause-memory g c = λ _. rw (← c.self.view_is)
    (none_runs (g.D.SectorDevice.disk c.self.inside.journal.device) c.self.inside.journal c.self.inside.machine (target_of c.self.inside.copy) c.self.invariant.copied
    (λ fits. (let contrary : true ≡ false = sym (c.has_number.ensures.1 fits) ∙ c.if-not-has_number.true in absurd (cc contrary))))

pub returns-in_err-pump-clause-moments_err : goal.returns-in_err-pump-clause-moments_err
returns-in_err-pump-clause-moments_err g c =
    let disk = g.D.SectorDevice.disk in
    let p = err_from_is_err_and c.from_residual-in_err-pump.result c.from_residual-in_err-pump.ensures.1 in
    let before = c.self.inside.journal in
    let t = view_of c.in_ok-copying.copying in
    let copying = begun_copying (disk before.device) before c.self.inside.machine (target_of c.self.inside.copy) t c.self.invariant (c.has_number.ensures.0 c.if-not-has_number.false) (subst (λ (r : Bool). IsBegun r c.self.inside.machine (target_of c.self.inside.copy) (view_of c.in_ok-copying.copying)) c.rides-rides.ensures c.in_ok-copying.ensures.ok) in
    let step = c.in_err-pump.ensures in
    rw (p.1, p.2) (λ _. rw (← c.self.view_is)
    (λ honest works. step_moments (disk before.device) (disk c.step.new.journal.device) before c.step.new.journal c.self.inside.machine t c.self.invariant.held copying step.honest step.kept honest (step.any_moment honest)))

copying : (g : Over) (c : goal.Joined-self-left g) → IsCopying (g.D.SectorDevice.disk c.self.inside.journal.device) c.self.inside.journal c.self.inside.machine (view_of c.in_ok-copying.copying)
copying g c = begun_copying (g.D.SectorDevice.disk c.self.inside.journal.device) c.self.inside.journal c.self.inside.machine (target_of c.self.inside.copy) (view_of c.in_ok-copying.copying) c.self.invariant (c.has_number.ensures.0 c.if-not-has_number.false) (subst (λ (r : Bool). IsBegun r c.self.inside.machine (target_of c.self.inside.copy) (view_of c.in_ok-copying.copying)) c.rides-rides.ensures c.in_ok-copying.ensures.ok)

pub returns-clause-moments : goal.returns-clause-moments
returns-clause-moments g c = rw (← c.self.view_is) (λ honest works.
    let disk = g.D.SectorDevice.disk in
    let before = c.self.inside.journal in
    let now = c.step.new.journal in
    let step = c.in_ok-pump.ensures in
    step_moments (disk before.device) (disk now.device) before now c.self.inside.machine (view_of c.in_ok-copying.copying) c.self.invariant.held (copying g c) step.honest step.kept honest (step.any_moment honest))

pub invariant_of-self-2 : goal.invariant_of-self-2
invariant_of-self-2 g c =
    let disk = g.D.SectorDevice.disk in
    let before = c.self.inside.journal in
    let now = c.step.new.journal in
    let step = c.in_ok-pump.ensures in
    step_stored (disk before.device) (disk now.device) before now c.self.inside.machine (view_of c.in_ok-copying.copying) c.self.invariant.held (copying g c) step.honest step.kept c.args.max c.in_ok-pump.pump (target_of c.in_ok-pump.left) step.ok

pub returns-clause-standing : goal.returns-clause-standing
returns-clause-standing g c = standing (g.D.SectorDevice.disk c.step.new.journal.device) c.step.new.journal c.self.inside.machine (invariant_of-self-2 g c).held

pub returns-in_err-pump-clause-failed : goal.returns-in_err-pump-clause-failed
returns-in_err-pump-clause-failed g c =
    let disk = g.D.SectorDevice.disk in
    let p = err_from_is_err_and c.from_residual-in_err-pump.result c.from_residual-in_err-pump.ensures.1 in
    let before = c.self.inside.journal in
    let state = c.self.inside.machine in
    let copy = target_of c.self.inside.copy in
    let t = view_of c.in_ok-copying.copying in
    let copying = begun_copying (disk before.device) before state copy t c.self.invariant (c.has_number.ensures.0 c.if-not-has_number.false) (subst (λ (r : Bool). IsBegun r c.self.inside.machine (target_of c.self.inside.copy) (view_of c.in_ok-copying.copying)) c.rides-rides.ensures c.in_ok-copying.ensures.ok) in
    let at = begun_at (disk before.device) before state copy t (subst (λ (r : Bool). IsBegun r c.self.inside.machine (target_of c.self.inside.copy) (view_of c.in_ok-copying.copying)) c.rides-rides.ensures c.in_ok-copying.ensures.ok) in
    let step = c.in_err-pump.ensures in
    let now = c.step.new.journal in
    let fits : length t.bytes ≤ capacity_of before.rides before.sectors = omega (arith, c.if-capacity-len.false, c.capacity.ensures, c.len.ensures, c.in_ok-copying.copying.target.ok) in
    rw (p.1, p.2) (λ _. rw (← c.self.view_is)
    (subst (λ (l : Option Target). FailedCommit disk before.device now.device (to_step (with_copy (account_of before state) (copy_of copy)) c.args.max) (with_copy (account_of now state) (copy_of l))) (sym c.in_ok-copying.ensures.taken)
    (step_failed disk (both_models disk g.met.D.SectorDevice.coherent g.met.D.SectorDevice.torn_coherent) before now state c.self.invariant.held step.honest step.kept (copy_of copy) c.args.max t step.err.1 copying.holds at fits step.any_moment step.before_last)))
