use Rattle.std.proofs.Common.{◌≡◌, ◌++◌, drop}
use Rattle.path_select.specs.Values.{child_values}
use Rattle.path_select.specs.ChildView.{children_of, docs_of}
use Rattle.path_select.proofs.gather.and_values.Given as goal

abbrev pub invariant-loop-child : goal.invariant-loop-child
invariant-loop-child l =
    docs_of l.all.items ++ child_values (children_of (drop l.child-index l.child-items)) ≡ docs_of l.initial.all.items ++ child_values (children_of l.child-items)
