use Rattle.std.proofs.Common.{rules, ◌≡◌, ◌≢◌, List, ℕ, [], true, sym, subst, ap, ◌∙◌}
use Rattle.std.proofs.lemmas.List.{take_rest}
use Rattle.std.proofs.lemmas.Result.{err_from_is_err_and}
use Rattle.doc_changes.specs.State.{State}
use Rattle.store_commits.specs.Replay.{Replayed}
use Rattle.store_commits.proofs.Replays.{damaged_first, not_a_log, none_left, replayed_first, replayed_holds, replayed_start}
use Rattle.store_commits.proofs.frame_replay.replay_frames.Goals as goal

pub loop-rest-init : goal.loop-rest-init
loop-rest-init c = (replayed_start c.args.profile c.args.version c.args.seq c.args.bytes.now c.at-machine.result c.at-machine.ensures.empty, ap (λ (s : State). s.seq) c.at-machine.ensures.empty, ap (λ (s : State). s.profile) c.at-machine.ensures.empty, c.at-machine.ensures.good)

pub returns-in_err-after-clause-damaged : goal.returns-in_err-after-clause-damaged
returns-in_err-after-clause-damaged c =
    let nonempty : c.loop-rest.rest.now ≢ [] = search rules in
    let p = err_from_is_err_and c.from_residual.result c.from_residual.ensures.1 in
    rw (p.1, p.2) (λ damaged. damaged_first c.args.profile c.args.version c.args.seq c.args.bytes.now c.loop-rest.rest.now c.loop-rest.machine (not_a_log c.args.version c.requires) c.loop-rest.invariant.0 nonempty
    (c.in_err-after.ensures.damaged damaged))

pub returns-clause-holds : goal.returns-clause-holds
returns-clause-holds c =
    let empty : c.is_empty.result ≡ true = search rules in
    let none : c.loop-rest.rest.now ≡ [] = none_left c.loop-rest.rest.now (sym c.is_empty.ensures ∙ empty) in
    replayed_holds c.args.profile c.args.version c.args.seq c.args.bytes.now c.loop-rest.rest.now c.loop-rest.machine (not_a_log c.args.version c.requires) none c.loop-rest.invariant.0

pub loop-rest-preserved : goal.loop-rest-preserved
loop-rest-preserved c =
    let nonempty : c.loop-rest.rest.now ≢ [] = search rules in
    let first = c.in_ok-after.ensures.taken in
    let len = c.in_ok-after.len in (
      subst (λ (l : List ℕ). Replayed c.args.profile c.args.version c.args.seq c.args.bytes.now l c.in_ok-after.after) (sym (take_rest c.loop-rest.rest.now len))
          (replayed_first c.args.profile c.args.version c.args.seq c.args.bytes.now c.loop-rest.rest.now c.loop-rest.machine c.in_ok-after.after len c.loop-rest.invariant.0 nonempty first),
      ap (λ (s : State). s.seq) first.new_is ∙ c.loop-rest.invariant.1,
      ap (λ (s : State). s.profile) first.new_is ∙ c.loop-rest.invariant.2,
      c.in_ok-after.ensures.good,
    )
