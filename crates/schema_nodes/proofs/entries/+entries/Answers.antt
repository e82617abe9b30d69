use Rattle.std.proofs.Common.{◌≡◌, refl, sym, ap, subst, ◌∙◌, string_bytes}
use Rattle.std.proofs.lemmas.Result.{IfOk-from_err}
use Rattle.doc_tree.specs.TreeView.{view, members_view}
use Rattle.doc_tree.specs.Lists.{elements_list, values_list}
use Rattle.doc_tree.proofs.Views.{view-Object}
use Rattle.schema_rules.specs.Keywords.{keyword_of, shape_of}
use Rattle.schema_rules.specs.declared.keyword.Shape.TheVariants as shapes
use Rattle.schema_rules.specs.Schemas.{schemas_in, schemas_each, schemas_named, schemas_below, held_in}
use Rattle.schema_nodes.specs.declared.entries.Grown.{Grown}
use Rattle.schema_nodes.specs.Entries.{Adds, AddsAll}
use Rattle.schema_nodes.proofs.Growing.{each_next, adding_on, goes_on, ends, adds_entry, if_ok, Making, makes_object, count_on, count_end, count_entry, count_object}
use Rattle.schema_nodes.proofs.entries.+entries.Goals as goal

pub with_each-loop-schema-preserved : goal.with_each-loop-schema-preserved
with_each-loop-schema-preserved t c =
    let next = each_next c.deref-schema-items.result.now c.loop-schema.schema-index c.schema-item.result c.loop-schema-test.true c.schema-item.is in (
      adding_on (view c.args.root.now) c.args.before c.loop-schema.grown c.in_ok-grown.grown _ _ _ _ _ _ (view c.schema-item.result) c.loop-schema.invariant.0 (ap elements_list next) (ap schemas_each next) c.in_ok-grown.ensures.adds,
      count_on c.loop-schema.grown.entries.items c.in_ok-grown.grown.entries.items _ _ (schemas_in shapes.One (view c.schema-item.result)) _ _ (ap schemas_each next) c.loop-schema.invariant.1 c.in_ok-grown.ensures.many,
    )

pub with_members-loop-name-preserved : goal.with_members-loop-name-preserved
with_members-loop-name-preserved t c =
    let r = view c.args.root.now in
    let k : c.keyword_named.result ≡ keyword_of (string_bytes c.in-Some.name.now) = c.keyword_named.ensures ∙ ap keyword_of c.as_str.ensures.value in
    let s : c.shape_of.result ≡ shape_of (keyword_of (string_bytes c.in-Some.name.now)) = c.shape_of.ensures ∙ ap shape_of k in
    let e = ap members_view c.in-Some.ensures.steps in
    let empty : Grown = record { entries = c.loop-name.entries; row = c.new.result } in
    let v = view c.in-Some.value.now in
    let adds : Adds r empty c.in_ok-grown.grown (schemas_in (shape_of (keyword_of (string_bytes c.in-Some.name.now))) v) (held_in (shape_of (keyword_of (string_bytes c.in-Some.name.now))) v)
    = subst (λ x. Adds r empty c.in_ok-grown.grown (schemas_in x v) (held_in x v)) s c.in_ok-grown.ensures.adds in
    let many = subst (λ x. AddsAll c.loop-name.entries.items c.in_ok-grown.grown.entries.items (schemas_in x v)) s c.in_ok-grown.ensures.many in
    let on = goes_on r c.args.before.items c.loop-name.entries.items c.loop-name.rows.items _ _ (members_view c.args.members.now.entries) (string_bytes c.in-Some.name.now) v empty c.in_ok-grown.grown c.loop-name.invariant.0 e refl c.new.ensures.items adds in (
      subst (λ l. Making r c.args.before.items c.in_ok-grown.grown.entries.items l (members_view c.next.new.self) (members_view c.args.members.now.entries)) (sym c.in_ok-push.ensures.items) on,
      count_on c.loop-name.entries.items c.in_ok-grown.grown.entries.items _ _ (schemas_in (shape_of (keyword_of (string_bytes c.in-Some.name.now))) v) _ _ (ap schemas_below e) c.loop-name.invariant.1 many,
    )

pub with_members-returns-clause-makes : goal.with_members-returns-clause-makes
with_members-returns-clause-makes t c = ends (view c.args.root.now) c.args.before.items c.loop-name.entries.items c.loop-name.rows.items _ (members_view c.args.members.now.entries) _ c.loop-name.invariant.0 (ap members_view c.in-None.ensures.steps.0) refl refl

pub with_members-returns-clause-many : goal.with_members-returns-clause-many
with_members-returns-clause-many t c = count_end c.loop-name.entries.items c.args.before.items _ _ c.loop-name.invariant.1 (ap (λ es. schemas_below (members_view es)) c.in-None.ensures.steps.0)

pub with_named-loop-schema-preserved : goal.with_named-loop-schema-preserved
with_named-loop-schema-preserved t c =
    let next = ap members_view c.in-Some.ensures.steps in (
      adding_on (view c.args.root.now) c.args.before c.loop-schema.grown c.in_ok-grown.grown _ _ _ _ _ _ (view c.in-Some.schema.now) c.loop-schema.invariant.0 (ap values_list next) (ap schemas_named next) c.in_ok-grown.ensures.adds,
      count_on c.loop-schema.grown.entries.items c.in_ok-grown.grown.entries.items _ _ (schemas_in shapes.One (view c.in-Some.schema.now)) _ _ (ap schemas_named next) c.loop-schema.invariant.1 c.in_ok-grown.ensures.many,
    )

pub with_rows-returns-in-Object-clause-makes : goal.with_rows-returns-in-Object-clause-makes
with_rows-returns-in-Object-clause-makes t c =
    let is = ap view c.in-Object.is ∙ view-Object c.in-Object.members in
    if_ok c.with_members.result (λ g h. makes_object (view c.args.root.now) (view c.args.schema.now) c.args.before.items (members_view c.in-Object.members.entries) g is h) c.with_members.ensures.makes

pub with_rows-returns-in-Object-clause-many : goal.with_rows-returns-in-Object-clause-many
with_rows-returns-in-Object-clause-many t c =
    let is = ap view c.in-Object.is ∙ view-Object c.in-Object.members in
    if_ok c.with_members.result (λ g h. count_object (view c.args.schema.now) (members_view c.in-Object.members.entries) c.args.before.items g.entries.items is h) c.with_members.ensures.many

pub with_schema-returns-clause-adds : goal.with_schema-returns-clause-adds
with_schema-returns-clause-adds t c =
    if_ok c.with_entry.result (λ g h. adds_entry (view c.args.root.now) c.args.before g c.in_ok-made.made c.args.schema c.in_ok-made.ensures.makes h.0 h.1) c.with_entry.ensures

pub with_schema-returns-clause-many : goal.with_schema-returns-clause-many
with_schema-returns-clause-many t c =
    if_ok c.with_entry.result (λ g h. count_entry c.args.before.entries.items c.in_ok-made.made.entries.items g.entries.items _ c.in_ok-made.ensures.many h.0) c.with_entry.ensures

pub with_each-returns-in_err-grown-clause-adds : goal.with_each-returns-in_err-grown-clause-adds
with_each-returns-in_err-grown-clause-adds t c = IfOk-from_err c.from_residual.result _ c.from_residual.ensures.0

pub with_each-returns-in_err-grown-clause-many : goal.with_each-returns-in_err-grown-clause-many
with_each-returns-in_err-grown-clause-many t c = IfOk-from_err c.from_residual.result _ c.from_residual.ensures.0

pub with_members-returns-in_err-grown-clause-makes : goal.with_members-returns-in_err-grown-clause-makes
with_members-returns-in_err-grown-clause-makes t c = IfOk-from_err c.from_residual.result _ c.from_residual.ensures.0

pub with_members-returns-in_err-grown-clause-many : goal.with_members-returns-in_err-grown-clause-many
with_members-returns-in_err-grown-clause-many t c = IfOk-from_err c.from_residual.result _ c.from_residual.ensures.0

pub with_members-returns-in_err-push-clause-makes : goal.with_members-returns-in_err-push-clause-makes
with_members-returns-in_err-push-clause-makes t c = IfOk-from_err c.from_residual-in_err-push.result _ c.from_residual-in_err-push.ensures.0

pub with_members-returns-in_err-push-clause-many : goal.with_members-returns-in_err-push-clause-many
with_members-returns-in_err-push-clause-many t c = IfOk-from_err c.from_residual-in_err-push.result _ c.from_residual-in_err-push.ensures.0

pub with_named-returns-in_err-grown-clause-adds : goal.with_named-returns-in_err-grown-clause-adds
with_named-returns-in_err-grown-clause-adds t c = IfOk-from_err c.from_residual.result _ c.from_residual.ensures.0

pub with_named-returns-in_err-grown-clause-many : goal.with_named-returns-in_err-grown-clause-many
with_named-returns-in_err-grown-clause-many t c = IfOk-from_err c.from_residual.result _ c.from_residual.ensures.0

pub with_schema-returns-in_err-made-clause-adds : goal.with_schema-returns-in_err-made-clause-adds
with_schema-returns-in_err-made-clause-adds t c = IfOk-from_err c.from_residual.result _ c.from_residual.ensures.0

pub with_schema-returns-in_err-made-clause-many : goal.with_schema-returns-in_err-made-clause-many
with_schema-returns-in_err-made-clause-many t c = IfOk-from_err c.from_residual.result _ c.from_residual.ensures.0
