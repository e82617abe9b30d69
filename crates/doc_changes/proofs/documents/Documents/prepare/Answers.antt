use Rattle.record_text.specs.Change.{change_of}
use Rattle.doc_changes.proofs.Made.{if_own, if_ready, if_refuses}
use Rattle.doc_changes.proofs.documents.Documents.prepare.Goals as goal

pub returns-clause-ready : goal.returns-clause-ready
returns-clause-ready c = if_ready c.args.self.now.profile c.args.self.now.documents (change_of c.args.command.now) c.judge_alone.result c.judge_alone.ensures

pub returns-clause-refused : goal.returns-clause-refused
returns-clause-refused c = if_refuses c.args.self.now (change_of c.args.command.now) c.judge_alone.result c.judge_alone.ensures

pub returns-clause-own : goal.returns-clause-own
returns-clause-own c = if_own c.args.self.now.profile c.args.self.now.documents (change_of c.args.command.now) c.judge_alone.result c.judge_alone.ensures
