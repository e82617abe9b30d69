use Rattle.std.proofs.Common.{◌≡◌, ◌∙◌, ap, map, Some, subst, sym}
use Rattle.std.specs.List.{AllByRecursion}
use Rattle.doc_tree.specs.Doc.{child}
use Rattle.path_tables.proofs.ByNumber.{sliced_at}
use Rattle.path_select.specs.Indexed.{at_number}
use Rattle.path_select.proofs.Trails.{if_made}
use Rattle.path_select.specs.Nodes.{child_at}
use Rattle.path_select.specs.Selectors.{sliced}
use Rattle.path_select.specs.ChildView.{children_of}
use Rattle.path_tables.proofs.by_number.slice_of.Goals as goal

pub numbered-requires-clause-children : goal.numbered-requires-clause-children
numbered-requires-clause-children c =
    let u = at_number c.args.index.now c.args.number in
    let is : children_of c.in_ok-found.found.items ≡ sliced c.args.start c.args.stop c.args.step u.1 =
    c.in_ok-found.ensures ∙ ap (sliced c.args.start c.args.stop c.args.step) c.value_of.ensures in
    subst (AllByRecursion (λ k. child k.0 u.1 ≡ Some k.1)) (sym is) (sliced_at c.args.start c.args.stop c.args.step u.1)

pub returns : goal.returns
returns c =
    let u = at_number c.args.index.now c.args.number in
    let is : children_of c.in_ok-found.found.items ≡ sliced c.args.start c.args.stop c.args.step u.1 =
    c.in_ok-found.ensures ∙ ap (sliced c.args.start c.args.stop c.args.step) c.value_of.ensures in
    if_made c.numbered.result (λ x h. h ∙ ap (map (child_at u.0)) is) c.numbered.ensures
