use Rattle.std.proofs.Common.{sym}
use Rattle.doc_pointer.proofs.Readings.{pointer_of-pointer_text}
use Rattle.schema_references.proofs.references.pointer_of.Goals as goal

pub returns-in-Ok-clause-found : goal.returns-in-Ok-clause-found
returns-in-Ok-clause-found c = sym (pointer_of-pointer_text c.args.text.now c.in-Ok.pointer c.in-Ok.ensures.ok)
