use Rattle.std.proofs.Common.{◌-◌, [], refl, sym, subst, ◌∙◌, arith}
use Rattle.store_commits.specs.Account.{with_copy}
use Rattle.store_commits.specs.Batch.{account_committed}
use Rattle.store_commits.specs.Copying.{HasSpare, copy_of, target_of}
use Rattle.store_commits.specs.Inside.{account_of, IsPlanning}
use Rattle.store_commits.proofs.Parts.{planned_bytes}
use Rattle.store_commits.proofs.Plans.{planned_ends, planning_begins}
use Rattle.store_commits.proofs.plan.prepare.Given.{Over}
use Rattle.store_commits.proofs.plan.prepare.Goals as goal

-- nothing was planned yet
begins : (g : Over) (c : goal.Else-not-has_numbers g)
    → IsPlanning (with_copy (account_of c.args.journal.now c.args.trial.now.state) (copy_of (target_of c.reserve.new.copy))) [] (record { capacity = c.capacity.result; rides = c.rides.result; left = c.capacity-2.result - c.used.result; bytes = 0; segments = c.new.result; last = c.new-2.result }) c.args.trial.now
begins g c =
    let used = c.used.ensures in
    let more = c.capacity-2.ensures in
    let within = c.requires.within in
    planning_begins _ c.args.trial.now (record { capacity = c.capacity.result; rides = c.rides.result; left = c.capacity-2.result - c.used.result; bytes = 0; segments = c.new.result; last = c.new-2.result })
    c.know.ensures refl c.requires.begins c.new.ensures.items (omega (arith, used, more, within)) c.capacity.ensures c.rides.ensures refl c.new-2.ensures

pub returns-clause-prepared : goal.returns-clause-prepared
returns-clause-prepared g c =
    let t = c.args.trial.now in
    let a = with_copy (account_of c.args.journal.now t.state) (copy_of (target_of c.reserve.new.copy)) in
    let is = c.in_ok-add_all.ensures.ok a (begins g c) in
    record { slots = is.0; all = is.1; end = account_committed is.2.mid is.2.since; planned = planned_ends a is.0 c.add_all.new.self c.add_all.new.trial is.2 c.push.new.self.items c.in_ok-push.ensures.items; tried = is.2.tried }

pub returns-clause-grows : goal.returns-clause-grows
returns-clause-grows g c =
    let a = with_copy (account_of c.args.journal.now c.args.trial.now.state) (copy_of (target_of c.reserve.new.copy)) in
    let is = c.in_ok-add_all.ensures.ok a (begins g c) in
    let end = account_committed is.2.mid is.2.since in
    let planned = planned_ends a is.0 c.add_all.new.self c.add_all.new.trial is.2 c.push.new.self.items c.in_ok-push.ensures.items in
    subst (HasSpare c.reserve.new.copy) (is.2.bytes ∙ sym (planned_bytes a c.push.new.self.items is.0 end planned)) c.in_ok-reserve.ensures.room
