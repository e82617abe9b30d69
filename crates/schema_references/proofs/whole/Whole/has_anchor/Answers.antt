use Rattle.std.proofs.Common.{◌≡◌, is_some, subst, ◌∙◌}
use Rattle.doc_tree.specs.TreeView.{view}
use Rattle.schema_rules.specs.Anchors.{with_anchor}
use Rattle.schema_rules.specs.Schemas.{schemas}
use Rattle.schema_references.proofs.Listed.{named_is}
use Rattle.schema_references.proofs.whole.Whole.has_anchor.Goals as goal

pub returns : goal.returns
returns c =
    subst (λ t. c.contains.result ≡ is_some (with_anchor c.args.name.now (schemas (view t)))) c.self.view_is
    (c.contains.ensures ∙ c.self.invariant.same c.args.name.now ∙ named_is c.args.name.now (schemas (view c.self.inside.root.now)))
