use Rattle.std.proofs.Common.{◌≡◌, ◌++◌, ◌∙◌, ◌∷◌, [], Ok, ap, sym, drop, suc, ◌+◌, map, refl, arith, subst}
use Rattle.std.proofs.lemmas.List.{drop_all, map-append}
use Rattle.std.proofs.lemmas.Result.{err_from_is_err_and}
use Rattle.doc_tree.proofs.Views.{view-List, view-Object}
use Rattle.doc_tree.specs.Doc.{index}
use Rattle.doc_tree.specs.TreeView.{elements_view, members_view, view}
use Rattle.path_plans.specs.PlanView.{choices_view}
use Rattle.path_select.specs.Nodes.{beneath, under, descendants, element_descendants, member_descendants}
use Rattle.path_select.specs.Paths.{location, seen}
use Rattle.path_eval.specs.Listed.{Walks}
use Rattle.path_tables.specs.Visiting.{selected_at, refused_at}
use Rattle.path_select.specs.Gives.{Stops}
use Rattle.path_grammar.specs.Lent.{lent_place}
use Rattle.path_grammar.specs.declared.lent_step.LentStep.TheVariants.{Name}
use Rattle.path_select.proofs.Gathering.{all_found}
use Rattle.path_select.proofs.Trails.{drop_next, goes_here, goes_location}
use Rattle.path_eval.proofs.Walking.{walk_on, walk_stops, walk_both, child_stops, child_went, judged}
use Rattle.path_eval.proofs.Leaves.{leaf_stays}
use Rattle.path_eval.proofs.walk.+walk.Goals as goal

pub below_child-returns-then-is_leaf : goal.below_child-returns-then-is_leaf
below_child-returns-then-is_leaf t c =
    leaf_stays (choices_view c.args.choices.now.items) c.args.walk (location c.args.walk.trail.items c.args.place) (lent_place c.args.step) (view c.args.value.now) (sym c.if-is_leaf.ensures) (goes_here c.args.walk c.requires.1) c.requires.2

pub below_branch-returns-in_err-walked : goal.below_branch-returns-in_err-walked
below_branch-returns-in_err-walked t c =
    let p = err_from_is_err_and c.from_residual-in_err-walked.result c.from_residual-in_err-walked.ensures.1 in
    rw (p.1, p.2) (child_stops (choices_view c.args.choices.now.items) c.args.walk (record { trail = c.push.new.self; listed = c.args.walk.listed }) (record { above = c.args.place; step = c.args.step }) (descendants (view c.args.value.now)) c.in_ok-push.ensures.items refl c.requires.1 _ (c.len.ensures ∙ c.push.new.self.ok.0) c.in_err-walked.field-0.0 c.in_err-walked.ensures)

pub below_branch-returns : goal.below_branch-returns
below_branch-returns t c =
    child_went (choices_view c.args.choices.now.items) c.args.walk (record { trail = c.push.new.self; listed = c.args.walk.listed }) (record { above = c.args.place; step = c.args.step }) (descendants (view c.args.value.now)) c.in_ok-push.ensures.items refl c.requires.1 _ (c.len.ensures ∙ c.push.new.self.ok.0)
    c.in_ok-walked.walked c.back.result c.in_ok-walked.ensures _ _ (c.len-known.ensures ∙ c.args.walk.trail.ok.0) (c.len-count.ensures ∙ c.args.walk.listed.ok.0) c.back.ensures

pub below_elements-loop-index-init : goal.below_elements-loop-index-init
below_elements-loop-index-init t c = (goes_here c.args.walk c.requires.1, refl, refl, c.requires.2)

pub below_elements-returns-in_err-walked : goal.below_elements-returns-in_err-walked
below_elements-returns-in_err-walked t c =
    let l = c.loop-index in
    let w0 = c.args.walk in
    let items = c.deref-value-items.result.now in
    let cs = choices_view c.args.choices.now.items in
    let p = location w0.trail.items c.args.place in
    let us = map (under (index l.index)) (descendants (view c.value-item.result)) in
    let vs = element_descendants (l.index + 1) (elements_view (drop (l.index + 1) items)) in
    let here = drop_next items l.index c.value-item.result c.loop-index-test.true c.value-item.is in
    let next : suc l.index ≡ l.index + 1 = omega arith in
    let q = err_from_is_err_and c.from_residual.result c.from_residual.ensures.1 in
    rw (q.1, q.2) (subst (λ xs. Stops c.in_err-walked.field-0.0 (judged (refused_at cs (map (beneath p) (element_descendants 0 (elements_view xs)))) (seen w0 ++ selected_at cs (map (beneath p) (element_descendants 0 (elements_view xs)))))) c.deref-value-items.ensures.value
    (walk_stops cs w0 l.walked l.invariant.0 _ (map (beneath p) us) (map (beneath p) vs) _ _ _
    (ap (λ q. map (beneath q) us) (goes_location w0 l.walked l.invariant.0 c.args.place c.requires.0))
    (ap (λ s. map (beneath p) (element_descendants l.index (elements_view s))) here ∙ ap (λ k. map (beneath p) (us ++ element_descendants k (elements_view (drop (l.index + 1) items)))) next ∙ map-append (beneath p) us vs)
    l.invariant.1 l.invariant.2 c.in_err-walked.field-0.0 c.in_err-walked.ensures))

pub below_elements-loop-index-preserved : goal.below_elements-loop-index-preserved
below_elements-loop-index-preserved t c =
    let l = c.loop-index in
    let w0 = c.args.walk in
    let items = c.deref-value-items.result.now in
    let p = location w0.trail.items c.args.place in
    let us = map (under (index l.index)) (descendants (view c.value-item.result)) in
    let vs = element_descendants (l.index + 1) (elements_view (drop (l.index + 1) items)) in
    let here = drop_next items l.index c.value-item.result c.loop-index-test.true c.value-item.is in
    let next : suc l.index ≡ l.index + 1 = omega arith in
    walk_on (choices_view c.args.choices.now.items) w0 l.walked l.invariant.0 _ (map (beneath p) us) (map (beneath p) vs) _ _ _
    (ap (λ q. map (beneath q) us) (goes_location w0 l.walked l.invariant.0 c.args.place c.requires.0))
    (ap (λ s. map (beneath p) (element_descendants l.index (elements_view s))) here ∙ ap (λ k. map (beneath p) (us ++ element_descendants k (elements_view (drop (l.index + 1) items)))) next ∙ map-append (beneath p) us vs)
    l.invariant.1 l.invariant.2 c.in_ok-walked.walked c.in_ok-walked.ensures

pub below_members-loop-name-init : goal.below_members-loop-name-init
below_members-loop-name-init t c = (goes_here c.args.walk c.requires.1, refl, refl, c.requires.2)

pub below_members-returns-in_err-walked : goal.below_members-returns-in_err-walked
below_members-returns-in_err-walked t c =
    let l = c.loop-name in
    let w0 = c.args.walk in
    let cs = choices_view c.args.choices.now.items in
    let p = location w0.trail.items c.args.place in
    let us = map (under (lent_place (Name c.in-Some.name))) (descendants (view c.in-Some.value.now)) in
    let vs = member_descendants (members_view c.next.new.self) in
    let q = err_from_is_err_and c.from_residual.result c.from_residual.ensures.1 in
    rw (q.1, q.2) (subst (λ xs. Stops c.in_err-walked.field-0.0 (judged (refused_at cs (map (beneath p) (member_descendants (members_view xs)))) (seen w0 ++ selected_at cs (map (beneath p) (member_descendants (members_view xs)))))) (c.into_iter-name-iterator.ensures.into_iter_gives ∙ c.iter-name-items.ensures.rest)
    (walk_stops cs w0 l.walked l.invariant.0 _ (map (beneath p) us) (map (beneath p) vs) _ _ _
    (ap (λ q. map (beneath q) us) (goes_location w0 l.walked l.invariant.0 c.args.place c.requires.0))
    (ap (λ es. map (beneath p) (member_descendants (members_view es))) c.in-Some.ensures.steps ∙ map-append (beneath p) us vs)
    l.invariant.1 l.invariant.2 c.in_err-walked.field-0.0 c.in_err-walked.ensures))

pub below_members-loop-name-preserved : goal.below_members-loop-name-preserved
below_members-loop-name-preserved t c =
    let l = c.loop-name in
    let w0 = c.args.walk in
    let p = location w0.trail.items c.args.place in
    let us = map (under (lent_place (Name c.in-Some.name))) (descendants (view c.in-Some.value.now)) in
    let vs = member_descendants (members_view c.next.new.self) in
    walk_on (choices_view c.args.choices.now.items) w0 l.walked l.invariant.0 _ (map (beneath p) us) (map (beneath p) vs) _ _ _
    (ap (λ q. map (beneath q) us) (goes_location w0 l.walked l.invariant.0 c.args.place c.requires.0))
    (ap (λ es. map (beneath p) (member_descendants (members_view es))) c.in-Some.ensures.steps ∙ map-append (beneath p) us vs)
    l.invariant.1 l.invariant.2 c.in_ok-walked.walked c.in_ok-walked.ensures

pub select_below-returns-in-List : goal.select_below-returns-in-List
select_below-returns-in-List t c =
    let v = ap view c.in-List.is ∙ view-List c.in-List.items in
    let is : descendants (view c.args.here.now) ≡ ([], view c.args.here.now) ∷ element_descendants 0 (elements_view c.in-List.items.items) = ap descendants v ∙ ap (λ d. ([], d) ∷ element_descendants 0 (elements_view c.in-List.items.items)) (sym v) in
    walk_both (choices_view c.args.choices.now.items) c.args.walk c.in_ok-walk.walk c.args.place c.requires.0 (view c.args.here.now) (element_descendants 0 (elements_view c.in-List.items.items)) _ is c.in_ok-walk.ensures c.below_elements.result c.below_elements.ensures

pub select_below-returns-in-Object : goal.select_below-returns-in-Object
select_below-returns-in-Object t c =
    let v = ap view c.in-Object.is ∙ view-Object c.in-Object.members in
    let is : descendants (view c.args.here.now) ≡ ([], view c.args.here.now) ∷ member_descendants (members_view c.in-Object.members.entries) = ap descendants v ∙ ap (λ d. ([], d) ∷ member_descendants (members_view c.in-Object.members.entries)) (sym v) in
    walk_both (choices_view c.args.choices.now.items) c.args.walk c.in_ok-walk.walk c.args.place c.requires.0 (view c.args.here.now) (member_descendants (members_view c.in-Object.members.entries)) _ is c.in_ok-walk.ensures c.below_members.result c.below_members.ensures

pub below_branch-returns-in_err-push : goal.below_branch-returns-in_err-push
below_branch-returns-in_err-push t c =
    let p = err_from_is_err_and c.from_residual.result c.from_residual.ensures.1 in
    rw (p.1, p.2) tt

pub below_child-returns-else-is_leaf : goal.below_child-returns-else-is_leaf
below_child-returns-else-is_leaf t c = c.below_branch.ensures

pub below_elements-returns : goal.below_elements-returns
below_elements-returns t c =
    let l = c.loop-index in
    let items = c.deref-value-items.result.now in
    let cs = choices_view c.args.choices.now.items in
    let p = location c.args.walk.trail.items c.args.place in
    let none = drop_all l.index items (omega arith) in
    let whole = sym (ap (λ xs. seen l.walked ++ selected_at cs (map (beneath p) (element_descendants l.index (elements_view xs)))) none) ∙ l.invariant.1 in
    let same = sym (ap (λ xs. refused_at cs (map (beneath p) (element_descendants l.index (elements_view xs)))) none) ∙ l.invariant.2 in
    let whole_list = all_found (seen l.walked) _ _ whole same l.invariant.3 in
    rw (sym c.deref-value-items.ensures.value) (l.invariant.0, whole_list.0, whole_list.1)

pub below_members-returns : goal.below_members-returns
below_members-returns t c =
    let l = c.loop-name in
    let cs = choices_view c.args.choices.now.items in
    let p = location c.args.walk.trail.items c.args.place in
    let whole = sym (ap (λ es. seen l.walked ++ selected_at cs (map (beneath p) (member_descendants (members_view es)))) c.in-None.ensures.steps.0) ∙ l.invariant.1 in
    let same = sym (ap (λ es. refused_at cs (map (beneath p) (member_descendants (members_view es)))) c.in-None.ensures.steps.0) ∙ l.invariant.2 in
    let whole_list = all_found (seen l.walked) _ _ whole same l.invariant.3 in
    subst (λ es. Walks cs c.args.walk (map (beneath p) (member_descendants (members_view es))) (Ok l.walked)) (c.into_iter-name-iterator.ensures.into_iter_gives ∙ c.iter-name-items.ensures.rest)
    (l.invariant.0, whole_list.0, whole_list.1)
