use Rattle.record_text.specs.Change.{change_of}
use Rattle.doc_changes.proofs.Known.{own}
use Rattle.doc_changes.proofs.documents.Documents.tell.Goals as goal

pub returns-clause-own : goal.returns-clause-own
returns-clause-own c = own c.args.self.now (change_of c.args.command.now) c.args.refusal c.requires
