use Rattle.std.proofs.Common.{◌≡◌, ◌+◌, suc, drop, ◌||◌, false, sym, ap, ◌∙◌, arith, string_bytes}
use Rattle.std.specs.List.{list_any}
use Rattle.std.proofs.lemmas.List.{drop_all}
use Rattle.std.proofs.lemmas.Result.{IfOk-weaker}
use Rattle.doc_tree.specs.TreeView.{view, elements_view, members_view}
use Rattle.doc_tree.proofs.Views.{view-List, view-Object}
use Rattle.schema_rules.specs.Keywords.{keyword_of, shape_of}
use Rattle.schema_rules.specs.Profiles.{offered}
use Rattle.schema_rules.specs.declared.keyword.Shape.TheVariants.{Several, Named}
use Rattle.doc_schema.specs.Defects.{is_defective}
use Rattle.schema_rules.specs.Schemas.{offered_in, offered_each, offered_named, offered_below}
use Rattle.doc_schema.proofs.DefectsBelow.{each_next, named_next, below_next, of_one}
use Rattle.doc_schema.proofs.defects.+defects.Goals as goal

pub defective_below-returns-then-branch : goal.defective_below-returns-then-branch
defective_below-returns-then-branch t c =
    let p = is_defective c.args.profile c.args.defect (view c.args.root.now) false in
    let shape : c.shape_of.result ≡ shape_of (offered c.args.profile (keyword_of (string_bytes c.in-Some.name.now))) = c.shape_of.ensures ∙ ap shape_of (c.offered-keyword.ensures ∙ ap (offered c.args.profile) (c.keyword_named.ensures ∙ ap keyword_of c.as_str.ensures.value)) in
    ap (λ b. b || list_any p (offered_below c.args.profile (members_view c.next.new.self))) (sym c.if-branch.true ∙ c.in_ok-defective_in.ensures)
    ∙ sym (below_next c.args.profile p _ _ (string_bytes c.in-Some.name.now) (view c.in-Some.value.now) c.shape_of.result shape (ap members_view c.in-Some.ensures.steps)) ∙ c.loop-name.invariant

pub defective_below-loop-name-preserved : goal.defective_below-loop-name-preserved
defective_below-loop-name-preserved t c =
    let p = is_defective c.args.profile c.args.defect (view c.args.root.now) false in
    let shape : c.shape_of.result ≡ shape_of (offered c.args.profile (keyword_of (string_bytes c.in-Some.name.now))) = c.shape_of.ensures ∙ ap shape_of (c.offered-keyword.ensures ∙ ap (offered c.args.profile) (c.keyword_named.ensures ∙ ap keyword_of c.as_str.ensures.value)) in
    ap (λ b. b || list_any p (offered_below c.args.profile (members_view c.next.new.self))) (sym c.if-branch.false ∙ c.in_ok-defective_in.ensures)
    ∙ sym (below_next c.args.profile p _ _ (string_bytes c.in-Some.name.now) (view c.in-Some.value.now) c.shape_of.result shape (ap members_view c.in-Some.ensures.steps)) ∙ c.loop-name.invariant

pub defective_below-returns : goal.defective_below-returns
defective_below-returns t c =
    let p = is_defective c.args.profile c.args.defect (view c.args.root.now) false in
    sym (ap (λ es. list_any p (offered_below c.args.profile (members_view es))) c.in-None.ensures.steps.0) ∙ c.loop-name.invariant

pub defective_named-returns-then-branch : goal.defective_named-returns-then-branch
defective_named-returns-then-branch t c =
    let p = is_defective c.args.profile c.args.defect (view c.args.root.now) false in
    ap (λ b. b || list_any p (offered_named c.args.profile (members_view c.next.new.self))) (sym c.if-branch.true ∙ c.in_ok-defective_in.ensures)
    ∙ sym (named_next c.args.profile p _ _ _ (view c.in-Some.schema.now) (ap members_view c.in-Some.ensures.steps)) ∙ c.loop-schema.invariant

pub defective_named-loop-schema-preserved : goal.defective_named-loop-schema-preserved
defective_named-loop-schema-preserved t c =
    let p = is_defective c.args.profile c.args.defect (view c.args.root.now) false in
    ap (λ b. b || list_any p (offered_named c.args.profile (members_view c.next.new.self))) (sym c.if-branch.false ∙ c.in_ok-defective_in.ensures)
    ∙ sym (named_next c.args.profile p _ _ _ (view c.in-Some.schema.now) (ap members_view c.in-Some.ensures.steps)) ∙ c.loop-schema.invariant

pub defective_named-returns : goal.defective_named-returns
defective_named-returns t c =
    let p = is_defective c.args.profile c.args.defect (view c.args.root.now) false in
    sym (ap (λ es. list_any p (offered_named c.args.profile (members_view es))) c.in-None.ensures.steps.0) ∙ c.loop-schema.invariant

pub defective_each-returns-then-branch : goal.defective_each-returns-then-branch
defective_each-returns-then-branch t c =
    let p = is_defective c.args.profile c.args.defect (view c.args.root.now) false in
    let i = c.loop-schema.schema-index in
    let items = c.deref-schema-items.result.now in
    ap (λ b. b || list_any p (offered_each c.args.profile (elements_view (drop (suc i) items)))) (sym c.if-branch.true ∙ c.in_ok-defective_in.ensures)
    ∙ sym (each_next c.args.profile p i items c.schema-item.result c.loop-schema-test.true c.schema-item.is) ∙ c.loop-schema.invariant
    ∙ ap (λ ts. list_any p (offered_each c.args.profile (elements_view ts))) c.deref-schema-items.ensures.value

pub defective_each-loop-schema-preserved : goal.defective_each-loop-schema-preserved
defective_each-loop-schema-preserved t c =
    let p = is_defective c.args.profile c.args.defect (view c.args.root.now) false in
    let i = c.loop-schema.schema-index in
    let items = c.deref-schema-items.result.now in
    let next : i + 1 ≡ suc i = omega arith in
    ap (λ n. list_any p (offered_each c.args.profile (elements_view (drop n items)))) next ∙ ap (λ b. b || list_any p (offered_each c.args.profile (elements_view (drop (suc i) items)))) (sym c.if-branch.false ∙ c.in_ok-defective_in.ensures)
    ∙ sym (each_next c.args.profile p i items c.schema-item.result c.loop-schema-test.true c.schema-item.is) ∙ c.loop-schema.invariant

pub defective_each-returns : goal.defective_each-returns
defective_each-returns t c =
    let p = is_defective c.args.profile c.args.defect (view c.args.root.now) false in
    let i = c.loop-schema.schema-index in
    let items = c.deref-schema-items.result.now in
    sym (ap (λ l. list_any p (offered_each c.args.profile (elements_view l))) (drop_all i items c.loop-schema-test.false)) ∙ c.loop-schema.invariant
    ∙ ap (λ ts. list_any p (offered_each c.args.profile (elements_view ts))) c.deref-schema-items.ensures.value

pub defective_in-returns-then-branch : goal.defective_in-returns-then-branch
defective_in-returns-then-branch t c =
    let p = is_defective c.args.profile c.args.defect (view c.args.root.now) false in
    let ms = members_view c.in-Object.members.entries in
    let is = ap view c.in-Object.is ∙ view-Object c.in-Object.members in
    ap (λ b. b || list_any p (offered_below c.args.profile ms)) (sym c.if-branch.true ∙ c.in_ok-is_defective-in-Object.ensures)
    ∙ sym (of_one c.args.profile p c.args.shape (view c.args.value.now) ms c.in-One.is is)

pub defective_in-returns-else-branch : goal.defective_in-returns-else-branch
defective_in-returns-else-branch t c =
    let p = is_defective c.args.profile c.args.defect (view c.args.root.now) false in
    let ms = members_view c.in-Object.members.entries in
    let is = ap view c.in-Object.is ∙ view-Object c.in-Object.members in
    IfOk-weaker c.defective_below.result _ _ (λ _ h. h ∙ ap (λ b. b || list_any p (offered_below c.args.profile ms)) (sym c.if-branch.false ∙ c.in_ok-is_defective-in-Object.ensures)
    ∙ sym (of_one c.args.profile p c.args.shape (view c.args.value.now) ms c.in-One.is is)) c.defective_below.ensures

pub defective_in-returns-in-List : goal.defective_in-returns-in-List
defective_in-returns-in-List t c =
    let p = is_defective c.args.profile c.args.defect (view c.args.root.now) false in
    IfOk-weaker c.defective_each.result _ _ (λ _ h. h ∙ sym (ap (λ h. list_any p (offered_in c.args.profile h (view c.args.value.now))) c.in-Several.is ∙ ap (λ d. list_any p (offered_in c.args.profile Several d)) (ap view c.in-List.is ∙ view-List c.in-List.schemas))) c.defective_each.ensures

pub defective_in-returns-in-Object-value : goal.defective_in-returns-in-Object-value
defective_in-returns-in-Object-value t c =
    let p = is_defective c.args.profile c.args.defect (view c.args.root.now) false in
    IfOk-weaker c.defective_named.result _ _ (λ _ h. h ∙ sym (ap (λ h. list_any p (offered_in c.args.profile h (view c.args.value.now))) c.in-Named.is ∙ ap (λ d. list_any p (offered_in c.args.profile Named d)) (ap view c.in-Object-value.is ∙ view-Object c.in-Object-value.schemas))) c.defective_named.ensures
