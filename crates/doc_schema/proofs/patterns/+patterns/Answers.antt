use Rattle.std.proofs.Common.{◌≡◌, ◌+◌, ◌++◌, map, drop, refl, sym, ap, ◌∙◌, string_bytes}
use Rattle.std.proofs.lemmas.Result.{IfOk-weaker}
use Rattle.doc_tree.specs.TreeView.{view, elements_view, members_view}
use Rattle.doc_tree.proofs.Views.{view-List, view-Object}
use Rattle.schema_rules.specs.Keywords.{keyword_of, shape_of}
use Rattle.schema_rules.specs.PatternTexts.{texts_by, texts_in}
use Rattle.schema_rules.specs.Profiles.{offered}
use Rattle.schema_rules.specs.Schemas.{offered_in, offered_each, offered_named, offered_below}
use Rattle.schema_rules.specs.declared.keyword.Shape.TheVariants.{One, Several, Named}
use Rattle.doc_schema.proofs.Collecting.{added, below_left, each_left, joined, named_left, of_one}
use Rattle.doc_schema.proofs.patterns.+patterns.Goals as goal

pub texts_each-loop-schema-preserved : goal.texts_each-loop-schema-preserved
texts_each-loop-schema-preserved t c =
    added _ _ _ _ _ _ c.in_ok-found.ensures (each_left c.args.profile c.loop-schema.schema-index c.deref-schema-items.result.now c.schema-item.result c.loop-schema-test.true c.schema-item.is) c.loop-schema.invariant

pub texts_named-loop-schema-preserved : goal.texts_named-loop-schema-preserved
texts_named-loop-schema-preserved t c =
    added _ _ _ _ _ _ c.in_ok-found.ensures (named_left c.args.profile _ _ _ (view c.in-Some.schema.now) (ap members_view c.in-Some.ensures.steps)) c.loop-schema.invariant

pub texts_below-loop-name-preserved : goal.texts_below-loop-name-preserved
texts_below-loop-name-preserved t c =
    let shape : c.shape_of.result ≡ shape_of (offered c.args.profile (keyword_of (string_bytes c.in-Some.name.now))) = c.shape_of.ensures ∙ ap shape_of (c.offered-keyword.ensures ∙ ap (offered c.args.profile) (c.keyword_named.ensures ∙ ap keyword_of c.as_str.ensures.value)) in
    added _ _ _ _ _ _ c.in_ok-found.ensures (below_left c.args.profile _ _ (string_bytes c.in-Some.name.now) (view c.in-Some.value.now) c.shape_of.result shape (ap members_view c.in-Some.ensures.steps)) c.loop-name.invariant

pub texts_in-returns-in_ok-found-in-Object : goal.texts_in-returns-in_ok-found-in-Object
texts_in-returns-in_ok-found-in-Object t c =
    let p = c.args.profile in
    let ms = members_view c.in-Object.members.entries in
    let is = ap view c.in-Object.is ∙ view-Object c.in-Object.members in
    IfOk-weaker c.texts_below.result _ _ (λ v h. joined (map (λ s. s.now) c.args.found.items) _ _ _ _ _ c.in_ok-found-in-Object.ensures h (of_one p c.args.shape (view c.args.value.now) ms c.in-One.is is)) c.texts_below.ensures

pub texts_in-returns-in-List : goal.texts_in-returns-in-List
texts_in-returns-in-List t c =
    let p = c.args.profile in
    IfOk-weaker c.texts_each.result _ _
    (λ v h. h ∙ ap (λ l. map (λ s. s.now) c.args.found.items ++ l) (sym (ap (λ h. texts_in p (offered_in p h (view c.args.value.now))) c.in-Several.is ∙ ap (λ d. texts_in p (offered_in p Several d)) (ap view c.in-List.is ∙ view-List c.in-List.schemas))))
    c.texts_each.ensures

pub texts_in-returns-in-Object-value : goal.texts_in-returns-in-Object-value
texts_in-returns-in-Object-value t c =
    let p = c.args.profile in
    IfOk-weaker c.texts_named.result _ _
    (λ v h. h ∙ ap (λ l. map (λ s. s.now) c.args.found.items ++ l) (sym (ap (λ h. texts_in p (offered_in p h (view c.args.value.now))) c.in-Named.is ∙ ap (λ d. texts_in p (offered_in p Named d)) (ap view c.in-Object-value.is ∙ view-Object c.in-Object-value.schemas))))
    c.texts_named.ensures
