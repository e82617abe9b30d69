use Rattle.std.proofs.Common.{sym, ap, subst, ◌∙◌}
use Rattle.doc_tree.specs.TreeView.{view}
use Rattle.doc_tree.proofs.Views.{view-Object}
use Rattle.schema_nodes.specs.Fits.{IsBuilt}
use Rattle.schema_nodes.proofs.Growing.{if_ok}
use Rattle.schema_nodes.proofs.made.node_of.Goals as goal

pub returns-in-Object : goal.returns-in-Object
returns-in-Object c =
    let is = ap view c.in-Object.is ∙ view-Object c.in-Object.members in
    if_ok c.node_of_object.result (λ x h. subst (IsBuilt c.args.targets.now c.args.ranks.now (view c.args.root.now) c.args.rows.now x) (sym is) h) c.node_of_object.ensures
