use Rattle.record_text.specs.Change.{change_of}
use Rattle.doc_changes.proofs.Made.{may_count}
use Rattle.doc_machine.proofs.machine.trial.Trial.apply.Goals as goal

pub change-requires-clause-counted : goal.change-requires-clause-counted
change-requires-clause-counted c = may_count c.args.self.now.state (change_of c.args.command) c.args.judged c.know.ensures c.requires
