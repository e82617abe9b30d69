use Rattle.std.proofs.Common.{◌++◌, ◌∙◌, ap, arith}
use Rattle.doc_tree.specs.TreeView.{view}
use Rattle.path_select.specs.Selectors.{item}
use Rattle.path_select.specs.ChildView.{children_of}
use Rattle.path_select.proofs.Slices.{up_on, up_end}
use Rattle.path_select.proofs.select.upward.Goals as goal

pub loop-index-preserved : goal.loop-index-preserved
loop-index-preserved c =
    let l = c.loop-index in
    let new = c.in_ok-found.ensures ∙ ap (λ cs. children_of l.found.items ++ cs) c.item.ensures in
    up_on (λ i. item i (view c.args.value.now)) (children_of l.found.items) _ c.args.step c.args.lower c.args.upper c.requires l.index c.saturating_add-index.result 18446744073709551615 (children_of c.in_ok-found.found.items) l.invariant c.loop-index-test.true
    c.saturating_add-index.ensures (omega (arith, c.ranges.upper)) new

pub returns : goal.returns
returns c = let l = c.loop-index in up_end (λ i. item i (view c.args.value.now)) (children_of l.found.items) _ c.args.step c.args.lower c.args.upper c.requires l.index l.invariant c.loop-index-test.false
