use Rattle.doc_tree.specs.TreeView.{view}
use Rattle.doc_patch.specs.Meaning.{operations}
use Rattle.doc_edits.specs.Meaning.{meaning}
use Rattle.patched_places.proofs.Moved.{by_only}
use Rattle.patched_places.proofs.changed.only_move.Goals as goal

pub returns : goal.returns
returns c = by_only c.ends_of_move.result (operations c.args.changes.now) (meaning c.in_ok-operation.operation.now) (view c.args.made.now) c.in_ok-operation.ensures.some c.ends_of_move.ensures
