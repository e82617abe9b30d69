use Rattle.std.proofs.Common.{rules, ◌≡◌, IfErr, subst, sym}
use Rattle.record_text.specs.Change.{change_of}
use Rattle.record_text.specs.Frame.{entry}
use Rattle.log_frames.specs.declared.kind.Kind.{Kind}
use Rattle.log_frames.specs.declared.kind.Kind.TheVariants.{Noted}
use Rattle.store_commits.specs.Replay.{RefusesAs}
use Rattle.store_commits.specs.declared.replaying.ReplayFault.TheVariants.{Damaged}
use Rattle.store_commits.proofs.log_replay.take.Goals as goal

pub returns-then-eq-clause-damaged : goal.returns-then-eq-clause-damaged
returns-then-eq-clause-damaged c =
    let is : c.args.kind ≡ Noted = search rules in
    subst (λ (k : Kind). IfErr c.take_mark.result (λ fault. fault ≡ Damaged → RefusesAs k (entry c.args.seq (change_of c.args.command)) c.args.machine)) (sym is) c.take_mark.ensures.damaged
