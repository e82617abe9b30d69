use Rattle.doc_patch.specs.Meaning.{operations}
use Rattle.doc_edits.specs.Meaning.{meaning}
use Rattle.patched_places.proofs.AtEnd.{by_change}
use Rattle.patched_places.proofs.changed.only_end.Goals as goal

pub returns : goal.returns
returns c = by_change c.end_of.result (operations c.args.changes.now) (meaning c.in_ok-operation.operation.now) c.in_ok-operation.ensures.some c.end_of.ensures
