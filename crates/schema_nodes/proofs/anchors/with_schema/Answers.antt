use Rattle.std.proofs.Common.{refl, subst}
use Rattle.std.proofs.lemmas.Result.{IfOk-weaker}
use Rattle.doc_tree.specs.TreeView.{view}
use Rattle.schema_rules.specs.Anchors.{anchor_of}
use Rattle.schema_nodes.specs.Anchored.{AddsAnchor}
use Rattle.schema_nodes.proofs.Anchoring.{is_some_anchor, is_no_anchor}
use Rattle.schema_nodes.proofs.anchors.with_schema.Goals as goal

pub returns-in-Some : goal.returns-in-Some
returns-in-Some c =
    IfOk-weaker c.with_anchor.result _ _ (λ m h. subst (λ o. AddsAnchor o c.args.number c.args.anchors.entries m.entries) (is_some_anchor c.anchor_of.result (anchor_of (view c.args.schema.now)) c.in-Some.anchor c.anchor_of.ensures c.in-Some.is) h) c.with_anchor.ensures

pub returns-in-None : goal.returns-in-None
returns-in-None c =
    subst (λ o. AddsAnchor o c.args.number c.args.anchors.entries c.args.anchors.entries) (is_no_anchor c.anchor_of.result (anchor_of (view c.args.schema.now)) c.anchor_of.ensures c.in-None.is) refl
