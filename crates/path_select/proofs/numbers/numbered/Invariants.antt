use Rattle.std.proofs.Common.{◌≡◌, ◌++◌, drop, map, Some}
use Rattle.std.specs.List.{AllByRecursion}
use Rattle.doc_tree.specs.Doc.{child}
use Rattle.path_select.specs.Indexed.{at_number, at_numbers}
use Rattle.path_select.specs.Nodes.{child_at}
use Rattle.path_select.specs.ChildView.{children_of}
use Rattle.path_select.proofs.numbers.numbered.Given as goal

abbrev pub invariant-loop-child : goal.invariant-loop-child
invariant-loop-child l =
    let u = at_number l.index l.number in
    (at_numbers l.index l.numbers.items ++ map (child_at u.0) (children_of (drop l.child-index l.child-items)) ≡ map (child_at u.0) (children_of l.child-items))
    × AllByRecursion (λ c. child c.0 u.1 ≡ Some c.1) (children_of (drop l.child-index l.child-items))
