use Rattle.std.proofs.Common.{◌<◌, sym, subst, arith}
use Rattle.record_text.specs.Change.{change_of}
use Rattle.doc_changes.specs.declared.limits.TheConstants.{LAST_SEQ}
use Rattle.doc_changes.specs.Step.{Refuses}
use Rattle.doc_changes.proofs.Made.{may_count}
use Rattle.doc_changes.proofs.documents.Documents.refuse_at_end.Goals as goal
use Rattle.doc_changes.proofs.documents.Documents.refuse_at_end.Goals.{in-Ok, in-Err}

pub returns-clause-refused : goal.returns-clause-refused
returns-clause-refused c =
    elim c.match-judge.branch [
      | in-Ok w ↦
          let low : c.args.self.now.seq < LAST_SEQ = may_count c.args.self.now (change_of c.args.command.now) _ c.judge.ensures.good w.in-Ok.ensures.judged in
          absurd (omega (arith, low, c.requires))
      | in-Err w ↦ subst (Refuses c.args.self.now (change_of c.args.command.now)) (sym w.result-is) w.in-Err.ensures.refused
    ]
