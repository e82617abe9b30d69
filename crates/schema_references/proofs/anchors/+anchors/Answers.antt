use Rattle.std.proofs.Common.{◌≡◌, ◌+◌, ◌++◌, map, drop, refl, sym, ap, ◌∙◌, string_bytes}
use Rattle.std.proofs.lemmas.Result.{IfOk-weaker}
use Rattle.doc_tree.specs.TreeView.{view, elements_view, members_view}
use Rattle.doc_tree.proofs.Views.{view-List, view-Object}
use Rattle.schema_rules.specs.Anchors.{anchors_of}
use Rattle.schema_rules.specs.Keywords.{keyword_of, shape_of}
use Rattle.schema_rules.specs.Schemas.{schemas_in, schemas_each, schemas_named, schemas_below}
use Rattle.schema_rules.specs.declared.keyword.Shape.TheVariants.{One, Several, Named}
use Rattle.schema_references.proofs.Gathering.{added, below_left, each_left, joined, named_left, of_one}
use Rattle.schema_references.proofs.anchors.+anchors.Goals as goal

pub anchors_each-loop-schema-preserved : goal.anchors_each-loop-schema-preserved
anchors_each-loop-schema-preserved t c =
    added _ _ _ _ _ _ c.in_ok-found.ensures (each_left c.loop-schema.schema-index c.deref-schema-items.result.now c.schema-item.result c.loop-schema-test.true c.schema-item.is) c.loop-schema.invariant

pub anchors_named-loop-schema-preserved : goal.anchors_named-loop-schema-preserved
anchors_named-loop-schema-preserved t c =
    added _ _ _ _ _ _ c.in_ok-found.ensures (named_left _ _ _ (view c.in-Some.schema.now) (ap members_view c.in-Some.ensures.steps)) c.loop-schema.invariant

pub anchors_below-loop-name-preserved : goal.anchors_below-loop-name-preserved
anchors_below-loop-name-preserved t c =
    let shape : c.shape_of-shape.result ≡ shape_of (keyword_of (string_bytes c.in-Some.name.now)) = c.shape_of-shape.ensures ∙ ap shape_of (c.keyword_named.ensures ∙ ap keyword_of c.as_str.ensures.value) in
    added _ _ _ _ _ _ c.in_ok-found.ensures (below_left _ _ (string_bytes c.in-Some.name.now) (view c.in-Some.value.now) c.shape_of-shape.result shape (ap members_view c.in-Some.ensures.steps)) c.loop-name.invariant

pub anchors_in-returns-in_ok-found-in-Object : goal.anchors_in-returns-in_ok-found-in-Object
anchors_in-returns-in_ok-found-in-Object t c =
    let ms = members_view c.in-Object.members.entries in
    let is = ap view c.in-Object.is ∙ view-Object c.in-Object.members in
    IfOk-weaker c.anchors_below.result _ _ (λ v h. joined (map (λ s. s.now) c.args.found.items) _ _ _ _ _ c.in_ok-found-in-Object.ensures h (of_one c.args.shape (view c.args.value.now) ms c.in-One.is is)) c.anchors_below.ensures

pub anchors_in-returns-in-List : goal.anchors_in-returns-in-List
anchors_in-returns-in-List t c =
    IfOk-weaker c.anchors_each.result _ _
    (λ v h. h ∙ ap (λ l. map (λ s. s.now) c.args.found.items ++ l) (sym (ap (λ h. anchors_of (schemas_in h (view c.args.value.now))) c.in-Several.is ∙ ap (λ d. anchors_of (schemas_in Several d)) (ap view c.in-List.is ∙ view-List c.in-List.schemas))))
    c.anchors_each.ensures

pub anchors_in-returns-in-Object-value : goal.anchors_in-returns-in-Object-value
anchors_in-returns-in-Object-value t c =
    IfOk-weaker c.anchors_named.result _ _
    (λ v h. h ∙ ap (λ l. map (λ s. s.now) c.args.found.items ++ l) (sym (ap (λ h. anchors_of (schemas_in h (view c.args.value.now))) c.in-Named.is ∙ ap (λ d. anchors_of (schemas_in Named d)) (ap view c.in-Object-value.is ∙ view-Object c.in-Object-value.schemas))))
    c.anchors_named.ensures
