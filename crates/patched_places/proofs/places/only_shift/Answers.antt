use Rattle.doc_tree.specs.TreeView.{view}
use Rattle.doc_patch.specs.Meaning.{operations}
use Rattle.doc_edits.specs.Meaning.{meaning}
use Rattle.patched_places.proofs.Shifts.{only_shifts}
use Rattle.patched_places.proofs.places.only_shift.Goals as goal

pub returns : goal.returns
returns c = only_shifts c.shift_of.result (operations c.args.changes.now) (meaning c.in_ok-operation.operation.now) (view c.args.made.now) c.in_ok-operation.ensures.some c.shift_of.ensures
