use Rattle.std.proofs.Common.{◌+◌, ◌*◌}
use Rattle.doc_tree.proofs.compact.+compact.Given as goal

-- a value's elements and members have a level less
abbrev pub decreases-value : goal.decreases-value
decreases-value l = 2 * l.levels

abbrev pub decreases-elements : goal.decreases-elements
decreases-elements l = 2 * l.levels + 1

abbrev pub decreases-members : goal.decreases-members
decreases-members l = 2 * l.levels + 1
