use Rattle.std.proofs.Common.{rules, ◌≡◌, ◌≢◌, List, ℕ, [], true, sym, subst, ap, ◌∙◌}
use Rattle.std.proofs.lemmas.List.{take_rest}
use Rattle.std.proofs.lemmas.Result.{err_from_is_err_and}
use Rattle.doc_changes.specs.State.{State}
use Rattle.store_commits.specs.Replay.{ReplayedLog}
use Rattle.store_commits.proofs.LogReplays.{log_damaged, log_holds, log_more, log_start, log_unended, still_there}
use Rattle.store_commits.proofs.Replays.{none_left}
use Rattle.store_commits.proofs.log_replay.replay_log.Goals as goal

pub loop-rest-init : goal.loop-rest-init
loop-rest-init c = (log_start c.args.profile c.args.seq c.args.bytes.now c.at-machine.result c.at-machine.ensures.empty, ap (λ (s : State). s.seq) c.at-machine.ensures.empty, ap (λ (s : State). s.profile) c.at-machine.ensures.empty, c.at-machine.ensures.good)

pub returns-in_err-after-clause-damaged : goal.returns-in_err-after-clause-damaged
returns-in_err-after-clause-damaged c =
    let nonempty : c.loop-rest.rest.now ≢ [] = search rules in
    let p = err_from_is_err_and c.from_residual.result c.from_residual.ensures.1 in
    rw (p.1, p.2) (λ damaged. log_damaged c.args.profile c.args.seq c.args.bytes.now c.loop-rest.rest.now c.loop-rest.place c.loop-rest.machine c.loop-rest.invariant.0 nonempty
    (c.in_err-after.ensures.damaged damaged))

pub loop-rest-preserved : goal.loop-rest-preserved
loop-rest-preserved c =
    let nonempty : c.loop-rest.rest.now ≢ [] = search rules in
    let first = c.in_ok-after.ensures.taken in
    let still = still_there first.first.kind first.first.entry c.loop-rest.machine c.in_ok-after.after first.takes in
    let len = c.in_ok-after.len in (
      subst (λ (l : List ℕ). ReplayedLog c.args.profile c.args.seq c.args.bytes.now l c.in_ok-after.next c.in_ok-after.after) (sym (take_rest c.loop-rest.rest.now len))
          (log_more c.args.profile c.args.seq c.args.bytes.now c.loop-rest.rest.now c.loop-rest.place c.in_ok-after.next c.loop-rest.machine c.in_ok-after.after len c.loop-rest.invariant.0 nonempty first),
      still.0 ∙ c.loop-rest.invariant.1,
      still.1 ∙ c.loop-rest.invariant.2,
      c.in_ok-after.ensures.good,
    )

-- nothing is left, and a log may end there
pub returns-clause-holds : goal.returns-clause-holds
returns-clause-holds c =
    let empty : c.is_empty.result ≡ true = search rules in
    let none : c.loop-rest.rest.now ≡ [] = none_left c.loop-rest.rest.now (sym c.is_empty.ensures ∙ empty) in
    log_holds c.args.profile c.args.seq c.args.bytes.now c.loop-rest.rest.now c.loop-rest.place c.loop-rest.machine none (sym c.can_end.ensures ∙ c.if-not-can_end.false) c.loop-rest.invariant.0

-- or none may
pub returns-then-not-can_end-clause-damaged : goal.returns-then-not-can_end-clause-damaged
returns-then-not-can_end-clause-damaged c = λ damaged.
    let empty : c.is_empty.result ≡ true = search rules in
    let none : c.loop-rest.rest.now ≡ [] = none_left c.loop-rest.rest.now (sym c.is_empty.ensures ∙ empty) in
    log_unended c.args.profile c.args.seq c.args.bytes.now c.loop-rest.rest.now c.loop-rest.place c.loop-rest.machine c.loop-rest.invariant.0 none (sym c.can_end.ensures ∙ c.if-not-can_end.true)
