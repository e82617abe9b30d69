use Rattle.std.proofs.Common.{◌++◌, ◌∙◌, ap}
use Rattle.doc_tree.specs.TreeView.{view}
use Rattle.path_select.specs.Selectors.{item}
use Rattle.path_select.specs.ChildView.{children_of}
use Rattle.path_select.proofs.Slices.{down_on, down_end}
use Rattle.path_select.proofs.select.downward.Goals as goal

pub loop-above-preserved : goal.loop-above-preserved
loop-above-preserved c =
    let l = c.loop-above in
    let new = c.in_ok-found.ensures ∙ ap (λ cs. children_of l.found.items ++ cs) c.item.ensures in
    down_on (λ i. item i (view c.args.value.now)) (children_of l.found.items) _ c.args.step c.args.lower c.args.upper c.requires l.above c.saturating_sub-above.result (children_of c.in_ok-found.found.items) l.invariant c.loop-above-test.true c.saturating_sub-above.ensures new

pub returns : goal.returns
returns c = let l = c.loop-above in down_end (λ i. item i (view c.args.value.now)) (children_of l.found.items) _ c.args.step c.args.lower c.args.upper c.requires l.above l.invariant c.loop-above-test.false
