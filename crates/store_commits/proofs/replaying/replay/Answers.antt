use Rattle.std.proofs.Common.{◌≡◌, ℕ, IfErr, subst, sym}
use Rattle.store_commits.specs.Replay.{HoldsNothing}
use Rattle.store_commits.specs.declared.replaying.ReplayFault.TheVariants.{Damaged}
use Rattle.store_commits.proofs.replaying.replay.Goals as goal

pub returns-then-version-eq3-clause-damaged : goal.returns-then-version-eq3-clause-damaged
returns-then-version-eq3-clause-damaged c =
    subst (λ (v : ℕ). IfErr c.replay_log.result (λ fault. fault ≡ Damaged → HoldsNothing c.args.profile v c.args.seq c.args.bytes.now)) (sym c.if-version-eq3.true) c.replay_log.ensures.damaged
