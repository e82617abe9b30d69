use Rattle.std.proofs.Common.{ap, ◌∙◌}
use Rattle.doc_tree.specs.TreeView.{view}
use Rattle.path_select.specs.Indexed.{node_at, nodes_at}
use Rattle.path_select.specs.Paths.{seen}
use Rattle.path_select.proofs.Numbered.{children_next}
use Rattle.path_select.proofs.numbers.numbers_of_children.Goals as goal

pub loop-place-preserved : goal.loop-place-preserved
loop-place-preserved c =
    let l = c.loop-place in
    let x = c.args.index.now in
    let root = view x.root.now in
    let us = seen x.walk in
    let span = c.span_of-span.result in
    ap (nodes_at root us) c.in_ok-push.ensures.items
    ∙ children_next root us span (node_at root us c.args.number) l.found.items l.place c.span_of-span.ensures c.loop-place-test.true l.invariant
