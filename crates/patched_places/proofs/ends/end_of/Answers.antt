use Rattle.std.proofs.Common.{ap}
use Rattle.doc_edits.specs.Meaning.{meaning}
use Rattle.patched_places.proofs.AtEnd.{add_ends, copy_ends, remove_ends}
use Rattle.patched_places.proofs.ends.end_of.Goals as goal

pub returns-in-Add : goal.returns-in-Add
returns-in-Add c = add_ends c.end_at.result _ _ (meaning c.args.operation.now) (ap meaning c.in-Add.is) c.end_at.ensures

pub returns-in-Copy : goal.returns-in-Copy
returns-in-Copy c = copy_ends c.end_at-in-Copy.result _ _ (meaning c.args.operation.now) (ap meaning c.in-Copy.is) c.end_at-in-Copy.ensures

pub returns-in-Remove : goal.returns-in-Remove
returns-in-Remove c = remove_ends c.end_at-in-Remove.result _ (meaning c.args.operation.now) (ap meaning c.in-Remove.is) c.end_at-in-Remove.ensures
