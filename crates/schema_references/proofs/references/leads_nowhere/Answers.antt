use Rattle.std.proofs.Common.{Some, not, is_none, sym, ap, ◌∙◌}
use Rattle.doc_tree.specs.TreeView.{view}
use Rattle.schema_rules.specs.Anchors.{with_anchor}
use Rattle.schema_rules.specs.References.{reached}
use Rattle.schema_rules.specs.Schemas.{schemas}
use Rattle.schema_rules.specs.Pointers.{walk}
use Rattle.schema_rules.specs.declared.keyword.Shape.TheVariants.{One}
use Rattle.schema_references.proofs.Listed.{none_read, not_some}
use Rattle.schema_references.proofs.references.leads_nowhere.Goals as goal

pub returns-in-Some : goal.returns-in-Some
returns-in-Some c =
    let r = view c.args.root.now in
    let t = c.args.text.now in
    none_read c.walk.result c.is_none.result _ c.is_none.ensures
    (c.walk.ensures ∙ ap (λ ks. walk One ks (view c.tree.result.now)) c.tokens.ensures ∙ ap (λ x. walk One c.in-Some.pointer (view x)) c.tree.ensures ∙ ap (λ o. reached r o (Some t)) (sym c.in-Some.is ∙ c.in_ok-pointer.ensures.found))

pub returns-in-None : goal.returns-in-None
returns-in-None c =
    let r = view c.args.root.now in
    let t = c.args.text.now in
    ap not c.has_anchor.ensures ∙ not_some (with_anchor t (schemas r)) ∙ ap (λ o. is_none (reached r o (Some t))) (sym c.in-None.is ∙ c.in_ok-pointer.ensures.found)
