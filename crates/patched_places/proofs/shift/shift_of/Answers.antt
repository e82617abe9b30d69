use Rattle.std.proofs.Common.{ap}
use Rattle.doc_tree.specs.TreeView.{view}
use Rattle.doc_edits.specs.Meaning.{meaning}
use Rattle.patched_places.proofs.Shifts.{add_shifts, copy_shifts, remove_shifts}
use Rattle.patched_places.proofs.shift.shift_of.Goals as goal

pub returns-in-Add : goal.returns-in-Add
returns-in-Add c = add_shifts c.shift_at.result _ _ (view c.args.made.now) (meaning c.args.operation.now) (ap meaning c.in-Add.is) c.shift_at.ensures

pub returns-in-Copy : goal.returns-in-Copy
returns-in-Copy c = copy_shifts c.shift_at-in-Copy.result _ _ (view c.args.made.now) (meaning c.args.operation.now) (ap meaning c.in-Copy.is) c.shift_at-in-Copy.ensures

pub returns-in-Remove : goal.returns-in-Remove
returns-in-Remove c = remove_shifts c.shift_at-in-Remove.result _ (view c.args.made.now) (meaning c.args.operation.now) (ap meaning c.in-Remove.is) c.shift_at-in-Remove.ensures
