use Rattle.std.proofs.Common.{◌≡◌, [], ◌==◌, ◌&&◌, inl, inr, ⊎_elim, ◌+◌, ◌*◌, ◌<◌, true, false, refl, sym, ap, subst, ◌∙◌, arith, rules, string_bytes, option_map, codes, is_some, not}
use Rattle.std.proofs.lemmas.List.{drop_all}
use Rattle.doc_tree.specs.Doc.{object, text, get_member}
use Rattle.doc_tree.specs.TreeView.{view, elements_view, members_view}
use Rattle.doc_tree.proofs.Views.{view-Object}
use Rattle.doc_tree.specs.Lists.{names_list}
use Rattle.schema_graph.specs.Walks.{In, first, later}
use Rattle.schema_rules.specs.Keywords.{keyword_of}
use Rattle.schema_rules.specs.Instances.{seen}
use Rattle.schema_rules.specs.Assertions.{at_least, at_most, on_list}
use Rattle.schema_rules.specs.Parts.{beside, elements_in, members_in}
use Rattle.schema_rules.specs.Rules.{Ask, asks, ask, at_each, by_each, of_each, by_place, by_name, each_named, of_names, of_others, of_contained, at_target, after_if, every, some, how_many, or_one, with_schema, with_if, where_true, where_false}
use Rattle.doc_schema.specs.Steps.{verdict, passes, all_hold, holds, told, ArePlaced, steps, most}
use Rattle.schema_rules.specs.PatternTexts.{texts_by, texts_of}
use Rattle.schema_rules.specs.References.{is_dangling}
use Rattle.schema_rules.specs.declared.profile.Profile.TheVariants.{Two, Three}
use Rattle.doc_schema.specs.Schemas.{AreNear}
use Rattle.doc_schema.proofs.Searchless.{none_first, none_later, no_names, no_search, searchless_object, unpatterned}
use Rattle.doc_schema.proofs.Fuel.{verdict_is, asked_by}
use Rattle.doc_schema.proofs.Rest.{Rest, and_true, here, less, further, on, one_found, one_passed, no_place_left, begin_rest, at_item, of_item, place_next, member_next, each_next, presence, presence_next, name_next, other_named, other_next, found_placed, found_most, found_further, on_found, member_placed, member_most, next_among, left_among, next_holds, items_asked}
use Rattle.doc_schema.proofs.judge.+judge.Goals as goal
use Rattle.doc_schema.proofs.judge.+judge.Goals.{how_many_accepted-then-accepts_at, how_many_accepted-else-accepts_at, one_accepts-then-accepts_at+else-found, one_accepts-else-accepts_at, others_accepted-else-not-is_named-via-then-not-is_named+else-not-accepts_at, others_accepted-else-not-is_named-via-else-not-is_named, present_accept-else-has_member-via-then-has_member+else-not-accepts_at, present_accept-else-has_member-via-else-has_member}

pub accepts_at-returns-in-Object : goal.accepts_at-returns-in-Object
accepts_at-returns-in-Object t c =
    let r = view c.args.root.now in
    let u = seen c.args.instance in
    let is = ap view c.in-Object.is ∙ view-Object c.in-Object.members in
    c.members_hold.ensures ∙ sym (ap (λ s. passes (verdict r) r s u) is) ∙ sym (verdict_is r c.requires.plain.loops (view c.args.schema.now) u c.requires.placed)

pub members_hold-member_holds-requires : goal.members_hold-member_holds-requires
members_hold-member_holds-requires t c =
    let r = view c.args.root.now in
    let ms = members_view c.args.members.now.entries in
    let u = seen c.args.instance in
    let v = view c.in-Some.value.now in
    let k : c.keyword_named.result ≡ keyword_of (string_bytes c.in-Some.name.now) = c.keyword_named.ensures ∙ ap keyword_of c.as_str.ensures.value in
    let xs = asks r ms (keyword_of (string_bytes c.in-Some.name.now)) v u in
    let among : (a : Ask) → In a xs → In a (asked_by r ms ms u) = λ a i. c.loop-name.invariant.1 a (next_among r ms u c.in-Some.name.now c.in-Some.value.now _ _ c.in-Some.ensures.steps a i) in
    let le = member_most r c.requires.plain.loops ms u c.requires.placed xs among in
    let same = ap (λ k. most r (asks r ms k v u)) k in
    let lt : 6 * most r (asks r ms c.keyword_named.result v u) + 3 < 6 * steps r (object ms) u + 4 = omega (arith, le, same) in
    let near = subst (λ es. AreNear r (members_view es)) c.in-Some.ensures.steps c.loop-name.invariant.3 in
    (search rules, (c.requires.plain, (subst (λ k. ArePlaced r (asks r ms k v u)) (sym k) (member_placed r c.requires.plain.loops ms u c.requires.placed xs among), (ap (λ w. texts_of w v) k ∙ none_first (texts_of (keyword_of (string_bytes c.in-Some.name.now)) v) _ (sym (ap (λ es. texts_by Three (members_view es)) c.in-Some.ensures.steps) ∙ c.loop-name.invariant.2), (ap (λ w. is_dangling Two r w v) k ∙ near.0, unpatterned ms (searchless_object r ms c.requires.placed c.requires.plain.patterns))))))

pub members_hold-loop-name-preserved : goal.members_hold-loop-name-preserved
members_hold-loop-name-preserved t c =
    let r = view c.args.root.now in
    let ms = members_view c.args.members.now.entries in
    let u = seen c.args.instance in
    let v = view c.in-Some.value.now in
    let k : c.keyword_named.result ≡ keyword_of (string_bytes c.in-Some.name.now) = c.keyword_named.ensures ∙ ap keyword_of c.as_str.ensures.value in
    let h = c.if-not-member_holds.ensures ∙ ap (λ k. holds (verdict r) r ms k v u) k in
    let e = c.in-Some.ensures.steps in
    (sym (next_holds r ms u c.in-Some.name.now c.in-Some.value.now _ _ e (verdict r) h) ∙ c.loop-name.invariant.0, λ a i. c.loop-name.invariant.1 a (left_among r ms u c.in-Some.name.now c.in-Some.value.now _ _ e a i), none_later (texts_of (keyword_of (string_bytes c.in-Some.name.now)) v) _ (sym (ap (λ es. texts_by Three (members_view es)) e) ∙ c.loop-name.invariant.2), (subst (λ es. AreNear r (members_view es)) e c.loop-name.invariant.3).1)

pub member_holds-accepts_at-requires : goal.member_holds-accepts_at-requires
member_holds-accepts_at-requires t c =
    let r = view c.args.root.now in
    let ms = members_view c.args.siblings.now.entries in
    let v = view c.args.value.now in
    let u = seen c.args.instance in
    let same = ap (λ k. most r (asks r ms k v u)) c.in-Not.is in
    let lt : 6 * steps r v u + 5 < 6 * most r (asks r ms c.args.keyword v u) + 3 = omega (arith, same) in
    (search rules, (c.requires.plain, subst (λ k. ArePlaced r (asks r ms k v u)) c.in-Not.is c.requires.placed (ask v u) first))

pub member_holds-each_accepted-requires : goal.member_holds-each_accepted-requires
member_holds-each_accepted-requires t c =
    let r = view c.args.root.now in
    let ms = members_view c.args.siblings.now.entries in
    let v = view c.args.value.now in
    let u = seen c.args.instance in
    let e = ap (λ k. asks r ms k v u) c.in-Items.is ∙ items_asked r ms v u c.items_of-in-Items.result.now c.after.result.now c.prefix_len.result c.items_of-in-Items.ensures c.prefix_len.ensures c.after.ensures in
    let same = ap (most r) e in
    let lt : 6 * most r (of_each v (elements_view c.after.result.now)) < 6 * most r (asks r ms c.args.keyword v u) + 3 = omega (arith, same) in
    (search rules, (c.requires.plain, subst (ArePlaced r) e c.requires.placed))

pub member_holds-returns-in-Items : goal.member_holds-returns-in-Items
member_holds-returns-in-Items t c =
    let r = view c.args.root.now in
    let ms = members_view c.args.siblings.now.entries in
    let v = view c.args.value.now in
    let u = seen c.args.instance in
    let e = items_asked r ms v u c.items_of-in-Items.result.now c.after.result.now c.prefix_len.result c.items_of-in-Items.ensures c.prefix_len.ensures c.after.ensures in
    c.each_accepted.ensures ∙ sym (ap (λ xs. every (told (verdict r) xs)) e) ∙ sym (ap (λ k. holds (verdict r) r ms k v u) c.in-Items.is)

pub all_accept-accepts_at-requires : goal.all_accept-accepts_at-requires
all_accept-accepts_at-requires t c =
    let r = view c.args.root.now in
    let u = seen c.args.instance in
    let items = c.args.schemas.now in
    let all = at_each (elements_view items) u in
    let e = at_item items c.loop-schema.schema-index c.schema-item.result u c.loop-schema-test.true c.schema-item.is in
    let lt = less r all _ _ _ e c.loop-schema.invariant.0 in
    let lt' : 6 * steps r (view c.schema-item.result) u + 5 < 6 * most r all = omega (arith, lt) in
    (search rules, (c.requires.plain, here r all _ _ _ e c.loop-schema.invariant.0))

pub all_accept-loop-schema-preserved : goal.all_accept-loop-schema-preserved
all_accept-loop-schema-preserved t c =
    let r = view c.args.root.now in
    let u = seen c.args.instance in
    let items = c.args.schemas.now in
    let all = at_each (elements_view items) u in
    let e = at_item items c.loop-schema.schema-index c.schema-item.result u c.loop-schema-test.true c.schema-item.is in
    (further r all _ _ _ e c.loop-schema.invariant.0, on every r _ _ _ _ true e c.if-not-accepts_at.ensures c.loop-schema.invariant.1)

pub some_accepts-accepts_at-requires : goal.some_accepts-accepts_at-requires
some_accepts-accepts_at-requires t c =
    let r = view c.args.root.now in
    let u = seen c.args.instance in
    let items = c.args.schemas.now in
    let all = at_each (elements_view items) u in
    let e = at_item items c.loop-schema.schema-index c.schema-item.result u c.loop-schema-test.true c.schema-item.is in
    let lt = less r all _ _ _ e c.loop-schema.invariant.0 in
    let lt' : 6 * steps r (view c.schema-item.result) u + 5 < 6 * most r all = omega (arith, lt) in
    (search rules, (c.requires.plain, here r all _ _ _ e c.loop-schema.invariant.0))

pub some_accepts-loop-schema-preserved : goal.some_accepts-loop-schema-preserved
some_accepts-loop-schema-preserved t c =
    let r = view c.args.root.now in
    let u = seen c.args.instance in
    let items = c.args.schemas.now in
    let all = at_each (elements_view items) u in
    let e = at_item items c.loop-schema.schema-index c.schema-item.result u c.loop-schema-test.true c.schema-item.is in
    (further r all _ _ _ e c.loop-schema.invariant.0, on some r _ _ _ _ false e c.if-accepts_at.ensures c.loop-schema.invariant.1)

pub one_accepts-accepts_at-requires : goal.one_accepts-accepts_at-requires
one_accepts-accepts_at-requires t c =
    let r = view c.args.root.now in
    let u = seen c.args.instance in
    let items = c.args.schemas.now in
    let all = at_each (elements_view items) u in
    let e = at_item items c.loop-schema.schema-index c.schema-item.result u c.loop-schema-test.true c.schema-item.is in
    let lt = less r all _ _ _ e c.loop-schema.invariant.0 in
    let lt' : 6 * steps r (view c.schema-item.result) u + 5 < 6 * most r all = omega (arith, lt) in
    (search rules, (c.requires.plain, here r all _ _ _ e c.loop-schema.invariant.0))

pub one_accepts-loop-schema-preserved : goal.one_accepts-loop-schema-preserved
one_accepts-loop-schema-preserved t c =
    let r = view c.args.root.now in
    let u = seen c.args.instance in
    let items = c.args.schemas.now in
    let all = at_each (elements_view items) u in
    let e = at_item items c.loop-schema.schema-index c.schema-item.result u c.loop-schema-test.true c.schema-item.is in
    let rest = further r all _ _ _ e c.loop-schema.invariant.0 in
    elim c.if-accepts_at.branch [
      | one_accepts-then-accepts_at+else-found w ↦ rw w.found-is (rest, one_found r _ _ _ _ c.loop-schema.found e w.if-found.false w.if-accepts_at.ensures c.loop-schema.invariant.1)
      | one_accepts-else-accepts_at w ↦ rw w.found-is (rest, one_passed r _ _ _ _ c.loop-schema.found e w.if-accepts_at.ensures c.loop-schema.invariant.1)
    ]

pub each_accepted-accepts_at-requires : goal.each_accepted-accepts_at-requires
each_accepted-accepts_at-requires t c =
    let r = view c.args.root.now in
    let s = view c.args.schema.now in
    let items = c.args.items.now in
    let all = of_each s (elements_view items) in
    let e = of_item s items c.loop-item.item-index c.item-item.result c.loop-item-test.true c.item-item.is in
    let lt = less r all _ _ _ e c.loop-item.invariant.0 in
    let lt' : 6 * steps r s (view c.item-item.result) + 5 < 6 * most r all = omega (arith, lt) in
    (search rules, (c.requires.plain, here r all _ _ _ e c.loop-item.invariant.0))

pub each_accepted-loop-item-preserved : goal.each_accepted-loop-item-preserved
each_accepted-loop-item-preserved t c =
    let r = view c.args.root.now in
    let s = view c.args.schema.now in
    let items = c.args.items.now in
    let all = of_each s (elements_view items) in
    let e = of_item s items c.loop-item.item-index c.item-item.result c.loop-item-test.true c.item-item.is in
    (further r all _ _ _ e c.loop-item.invariant.0, on every r _ _ _ _ true e c.if-not-accepts_at.ensures c.loop-item.invariant.1)

pub how_many_accepted-accepts_at-requires : goal.how_many_accepted-accepts_at-requires
how_many_accepted-accepts_at-requires t c =
    let r = view c.args.root.now in
    let s = view c.args.schema.now in
    let items = c.args.items.now in
    let all = of_each s (elements_view items) in
    let e = of_item s items c.loop-item.item-index c.item-item.result c.loop-item-test.true c.item-item.is in
    let lt = less r all _ _ _ e c.loop-item.invariant.0 in
    let lt' : 6 * steps r s (view c.item-item.result) + 5 < 6 * most r all = omega (arith, lt) in
    (search rules, (c.requires.plain, here r all _ _ _ e c.loop-item.invariant.0))

pub how_many_accepted-loop-item-preserved : goal.how_many_accepted-loop-item-preserved
how_many_accepted-loop-item-preserved t c =
    let r = view c.args.root.now in
    let s = view c.args.schema.now in
    let items = c.args.items.now in
    let all = of_each s (elements_view items) in
    let e = of_item s items c.loop-item.item-index c.item-item.result c.loop-item-test.true c.item-item.is in
    let rest = further r all _ _ _ e c.loop-item.invariant.0 in
    let few = c.loop-item.invariant.2 in
    elim c.if-accepts_at.branch [
      | how_many_accepted-then-accepts_at w ↦
          let step = on (λ bs. c.loop-item.count + how_many bs) r _ _ _ _ true e w.if-accepts_at.ensures c.loop-item.invariant.1 in
          rw w.count-is (rest, omega (arith, step), omega (arith, few))
      | how_many_accepted-else-accepts_at w ↦
          let step = on (λ bs. c.loop-item.count + how_many bs) r _ _ _ _ false e w.if-accepts_at.ensures c.loop-item.invariant.1 in
          rw w.count-is (rest, step, omega (arith, few))
    ]

pub contains_accepted-returns : goal.contains_accepted-returns
contains_accepted-returns t c =
    let r = view c.args.root.now in
    let s = view c.args.schema.now in
    let u = seen c.args.instance in
    let ms = members_view c.args.siblings.now.entries in
    c.is_enough.ensures ∙ ap (λ o. on_list (λ _. at_least (or_one o) c.how_many_accepted-many.result) u) c.member_named.ensures
    ∙ ap (λ n. on_list (λ _. at_least (or_one (get_member (codes "minContains") ms)) n) u) (c.how_many_accepted-many.ensures ∙ ap (λ xs. how_many (told (verdict r) (of_each s xs))) c.items_of.ensures)

pub limit_accepted-returns-in-Some : goal.limit_accepted-returns-in-Some
limit_accepted-returns-in-Some t c =
    let r = view c.args.root.now in
    let s = view c.in-Some.schema.now in
    let v = view c.args.most.now in
    let u = seen c.args.instance in
    c.is_within.ensures ∙ ap (λ n. on_list (λ _. at_most v n) u) (c.how_many_accepted-many.ensures ∙ ap (λ xs. how_many (told (verdict r) (of_each s xs))) c.items_of.ensures)
    ∙ sym (ap (λ o. with_schema (option_map (λ d. view d.now) o) (on_list (λ _. at_most v (how_many (told (verdict r) (of_contained (option_map (λ d. view d.now) o) (elements_in u))))) u)) c.in-Some.is)

pub contains_accepted-how_many_accepted-many-requires : goal.contains_accepted-how_many_accepted-many-requires
contains_accepted-how_many_accepted-many-requires t c =
    let r = view c.args.root.now in
    let s = view c.args.schema.now in
    let e = ap (of_each s) c.items_of.ensures in
    let same = ap (most r) e in
    let lt : 6 * most r (of_each s (elements_view c.items_of.result.now)) < 6 * most r (of_each s (elements_in (seen c.args.instance))) + 1 = omega (arith, same) in
    (search rules, (c.requires.plain, subst (ArePlaced r) (sym e) c.requires.placed))

pub limit_accepted-how_many_accepted-many-requires : goal.limit_accepted-how_many_accepted-many-requires
limit_accepted-how_many_accepted-many-requires t c =
    let r = view c.args.root.now in
    let u = elements_in (seen c.args.instance) in
    let s = view c.in-Some.schema.now in
    let e = ap (λ o. of_contained (option_map (λ d. view d.now) o) u) c.in-Some.is ∙ sym (ap (of_each s) c.items_of.ensures) in
    let same = ap (most r) e in
    let lt : 6 * most r (of_each s (elements_view c.items_of.result.now)) < 6 * most r (of_contained (option_map (λ d. view d.now) c.args.contained) u) + 1 = omega (arith, same) in
    (search rules, (c.requires.plain, subst (ArePlaced r) e c.requires.placed))

pub placed_accepted-loop-schema-init : goal.placed_accepted-loop-schema-init
placed_accepted-loop-schema-init t c =
    let r = view c.args.root.now in
    let ea : c.into_iter-schema-iterator.result.a.rest.now ≡ c.args.schemas.now = ap (λ z. z.a.rest.now) c.into_iter-schema-iterator.ensures.into_iter_gives ∙ ap (λ i. i.rest.now) c.zip-schema-items.ensures.first ∙ c.iter.ensures.rest in
    let eb : c.zip-schema-items.result.b.rest.now ≡ c.args.items.now = search rules in
    let eb' = ap (λ z. z.b.rest.now) c.into_iter-schema-iterator.ensures.into_iter_gives ∙ eb in
    rw (ea, eb') (begin_rest r (by_place (elements_view c.args.schemas.now) (elements_view c.args.items.now)) c.requires.placed, refl)

pub placed_accepted-accepts_at-requires : goal.placed_accepted-accepts_at-requires
placed_accepted-accepts_at-requires t c =
    let r = view c.args.root.now in
    let all = by_place (elements_view c.args.schemas.now) (elements_view c.args.items.now) in
    let e = place_next _ _ _ _ c.in-Some.schema.now c.in-Some.item.now c.in-Some.ensures.steps.0 c.in-Some.ensures.steps.1 in
    let lt = less r all _ _ _ e c.loop-schema.invariant.0 in
    let lt' : 6 * steps r (view c.in-Some.schema.now) (view c.in-Some.item.now) + 5 < 6 * most r all = omega (arith, lt) in
    (search rules, (c.requires.plain, here r all _ _ _ e c.loop-schema.invariant.0))

pub placed_accepted-loop-schema-preserved : goal.placed_accepted-loop-schema-preserved
placed_accepted-loop-schema-preserved t c =
    let r = view c.args.root.now in
    let all = by_place (elements_view c.args.schemas.now) (elements_view c.args.items.now) in
    let e = place_next _ _ _ _ c.in-Some.schema.now c.in-Some.item.now c.in-Some.ensures.steps.0 c.in-Some.ensures.steps.1 in
    (further r all _ _ _ e c.loop-schema.invariant.0, on every r _ _ _ _ true e c.if-not-accepts_at.ensures c.loop-schema.invariant.1)

pub placed_accepted-returns-then-not-accepts_at : goal.placed_accepted-returns-then-not-accepts_at
placed_accepted-returns-then-not-accepts_at t c =
    let r = view c.args.root.now in
    let e = place_next _ _ _ _ c.in-Some.schema.now c.in-Some.item.now c.in-Some.ensures.steps.0 c.in-Some.ensures.steps.1 in
    on every r _ _ _ _ false e c.if-not-accepts_at.ensures c.loop-schema.invariant.1

pub placed_accepted-returns : goal.placed_accepted-returns
placed_accepted-returns t c =
    let r = view c.args.root.now in
    let done = no_place_left c.loop-schema.schema-iterator.a.rest.now c.loop-schema.schema-iterator.b.rest.now (⊎_elim (λ x. inl x.1.0) (λ x. inr x.1.0) c.in-None.ensures.steps) in
    ap (λ l. every (told (verdict r) l)) done ∙ c.loop-schema.invariant.1

pub named_accepted-found_accepts-requires : goal.named_accepted-found_accepts-requires
named_accepted-found_accepts-requires t c =
    let r = view c.args.root.now in
    let ss = members_view c.args.schemas.now.entries in
    let all = by_name ss (members_view c.args.members.now.entries) in
    let o = option_map (λ x. view x.now) c.member_named.result in
    let m = view c.in-Some.member.now in
    let f : o ≡ get_member (string_bytes c.in-Some.name.now) ss = c.member_named.ensures ∙ ap (λ n. get_member n ss) c.as_str.ensures.value in
    let e = member_next ss c.in-Some.name.now c.in-Some.member.now _ _ o c.in-Some.ensures.steps f in
    let le = found_most r all _ _ m o e c.loop-name.invariant.0 in
    let lt : 6 * most r (at_target o m) < 6 * most r all + 1 = omega (arith, le) in
    (search rules, (c.requires.plain, found_placed r all _ _ m o e c.loop-name.invariant.0))

pub named_accepted-loop-name-preserved : goal.named_accepted-loop-name-preserved
named_accepted-loop-name-preserved t c =
    let r = view c.args.root.now in
    let ss = members_view c.args.schemas.now.entries in
    let all = by_name ss (members_view c.args.members.now.entries) in
    let o = option_map (λ x. view x.now) c.member_named.result in
    let m = view c.in-Some.member.now in
    let f : o ≡ get_member (string_bytes c.in-Some.name.now) ss = c.member_named.ensures ∙ ap (λ n. get_member n ss) c.as_str.ensures.value in
    let e = member_next ss c.in-Some.name.now c.in-Some.member.now _ _ o c.in-Some.ensures.steps f in
    (found_further r all _ _ m o e c.loop-name.invariant.0, on_found r all _ _ m o _ true e c.if-not-found_accepts.ensures c.loop-name.invariant.1)

pub others_accepted-accepts_at-requires : goal.others_accepted-accepts_at-requires
others_accepted-accepts_at-requires t c =
    let r = view c.args.root.now in
    let ns = members_in (beside (codes "properties") (members_view c.args.siblings.now.entries)) in
    let s = view c.args.schema.now in
    let all = of_others ns [] s (members_view c.args.members.now.entries) in
    let m = view c.in-Some.member.now in
    let h : false ≡ is_some (get_member (string_bytes c.in-Some.name.now) ns) = c.if-not-is_named.ensures ∙ ap (λ n. is_some (get_member n ns)) c.as_str.ensures.value in
    let e = other_next ns s c.in-Some.name.now c.in-Some.member.now _ _ c.in-Some.ensures.steps h in
    let lt = less r all _ _ _ e c.loop-name.invariant.0 in
    let lt' : 6 * steps r s m + 5 < 6 * most r all = omega (arith, lt) in
    (search rules, (c.requires.plain, here r all _ _ _ e c.loop-name.invariant.0))

pub others_accepted-loop-name-preserved : goal.others_accepted-loop-name-preserved
others_accepted-loop-name-preserved t c =
    let r = view c.args.root.now in
    let ns = members_in (beside (codes "properties") (members_view c.args.siblings.now.entries)) in
    let s = view c.args.schema.now in
    let all = of_others ns [] s (members_view c.args.members.now.entries) in
    let inv = c.loop-name.invariant in
    elim c.else-not-is_named.branch [
      | others_accepted-else-not-is_named-via-then-not-is_named+else-not-accepts_at w ↦
          let e = other_next ns s c.in-Some.name.now c.in-Some.member.now _ _ c.in-Some.ensures.steps (w.if-not-is_named.ensures ∙ ap (λ n. is_some (get_member n ns)) c.as_str.ensures.value) in
          (further r all _ _ _ e inv.0, on every r _ _ _ _ true e w.if-not-accepts_at.ensures inv.1)
      | others_accepted-else-not-is_named-via-else-not-is_named w ↦
          let e = other_named ns s c.in-Some.name.now c.in-Some.member.now _ _ c.in-Some.ensures.steps (w.if-not-is_named.ensures ∙ ap (λ n. is_some (get_member n ns)) c.as_str.ensures.value) in
          (subst (λ x. Rest r x all) e inv.0, sym (ap (λ l. every (told (verdict r) l)) e) ∙ inv.1)
    ]

pub present_accept-accepts_at-requires : goal.present_accept-accepts_at-requires
present_accept-accepts_at-requires t c =
    let r = view c.args.root.now in
    let u = seen c.args.instance in
    let all = by_each (members_view c.args.schemas.now.entries) u in
    let s = view c.in-Some.schema.now in
    let e = each_next u c.in-Some.name.now c.in-Some.schema.now _ _ c.in-Some.ensures.steps in
    let lt = less r all _ _ _ e c.loop-name.invariant.0 in
    let lt' : 6 * steps r s u + 5 < 6 * most r all = omega (arith, lt) in
    (search rules, (c.requires.plain, here r all _ _ _ e c.loop-name.invariant.0))

pub present_accept-loop-name-preserved : goal.present_accept-loop-name-preserved
present_accept-loop-name-preserved t c =
    let r = view c.args.root.now in
    let u = seen c.args.instance in
    let all = by_each (members_view c.args.schemas.now.entries) u in
    let inv = c.loop-name.invariant in
    let e = each_next u c.in-Some.name.now c.in-Some.schema.now _ _ c.in-Some.ensures.steps in
    let next = presence_next r u c.in-Some.name.now c.as_str.result.now c.in-Some.schema.now _ _ in
    elim c.else-has_member.branch [
      | present_accept-else-has_member-via-then-has_member+else-not-accepts_at w ↦ (further r all _ _ _ e inv.0, next true true _ c.in-Some.ensures.steps c.as_str.ensures.value w.if-has_member.ensures w.if-not-accepts_at.ensures inv.1)
      | present_accept-else-has_member-via-else-has_member w ↦ (further r all _ _ _ e inv.0, next false (verdict r (view c.in-Some.schema.now) u) _ c.in-Some.ensures.steps c.as_str.ensures.value w.if-has_member.ensures refl inv.1)
    ]

pub present_accept-returns-then-not-accepts_at : goal.present_accept-returns-then-not-accepts_at
present_accept-returns-then-not-accepts_at t c =
    let r = view c.args.root.now in
    let u = seen c.args.instance in
    presence_next r u c.in-Some.name.now c.as_str.result.now c.in-Some.schema.now _ _ true false _ c.in-Some.ensures.steps c.as_str.ensures.value c.if-has_member.ensures c.if-not-accepts_at.ensures c.loop-name.invariant.1

pub present_accept-returns : goal.present_accept-returns
present_accept-returns t c =
    let r = view c.args.root.now in
    let u = seen c.args.instance in
    sym (ap (presence r u) c.in-None.ensures.steps.0) ∙ c.loop-name.invariant.1

pub found_accepts-accepts_at-requires : goal.found_accepts-accepts_at-requires
found_accepts-accepts_at-requires t c =
    let r = view c.args.root.now in
    let u = seen c.args.instance in
    let same = ap (λ f. most r (at_target (option_map (λ x. view x.now) f) u)) c.in-Some.is in
    let lt : 6 * steps r (view c.in-Some.schema.now) u + 5 < 6 * most r (at_target (option_map (λ x. view x.now) c.args.found) u) = omega (arith, same) in
    (search rules, (c.requires.plain, subst (λ f. ArePlaced r (at_target (option_map (λ x. view x.now) f) u)) c.in-Some.is c.requires.placed (ask (view c.in-Some.schema.now) u) first))

pub accepts_where-accepts_at-requires : goal.accepts_where-accepts_at-requires
accepts_where-accepts_at-requires t c =
    let r = view c.args.root.now in
    let s = view c.args.schema.now in
    let u = seen c.args.instance in
    let same = ap (λ f. most r (after_if (option_map (λ x. view x.now) f) s u)) c.in-Some.is in
    let lt : 6 * steps r (view c.in-Some.condition.now) u + 5 < 6 * most r (after_if (option_map (λ x. view x.now) c.args.condition) s u) = omega (arith, same) in
    (search rules, (c.requires.plain, subst (λ f. ArePlaced r (after_if (option_map (λ x. view x.now) f) s u)) c.in-Some.is c.requires.placed (ask (view c.in-Some.condition.now) u) first))

pub accepts_where-accepts_at-requires-else-accepts_at-holds : goal.accepts_where-accepts_at-requires-else-accepts_at-holds
accepts_where-accepts_at-requires-else-accepts_at-holds t c =
    let r = view c.args.root.now in
    let s = view c.args.schema.now in
    let u = seen c.args.instance in
    let same = ap (λ f. most r (after_if (option_map (λ x. view x.now) f) s u)) c.in-Some.is in
    let lt : 6 * steps r s u + 5 < 6 * most r (after_if (option_map (λ x. view x.now) c.args.condition) s u) = omega (arith, same) in
    (search rules, (c.requires.plain, subst (λ f. ArePlaced r (after_if (option_map (λ x. view x.now) f) s u)) c.in-Some.is c.requires.placed (ask s u) (later first)))

pub names_accepted-accepts_at-requires : goal.names_accepted-accepts_at-requires
names_accepted-accepts_at-requires t c =
    let r = view c.args.root.now in
    let s = view c.args.schema.now in
    let all = of_names s (members_view c.args.members.now.entries) in
    let n = c.as_str.result.now in
    let e = name_next s c.in-Some.name.now n c.in-Some.field-0-1.now _ _ c.in-Some.ensures.steps c.as_str.ensures.value in
    let lt = less r all _ _ _ e c.loop-name.invariant.0 in
    let lt' : 6 * steps r s (text n) + 5 < 6 * most r all = omega (arith, lt) in
    (search rules, (c.requires.plain, here r all _ _ _ e c.loop-name.invariant.0))

pub names_accepted-loop-name-preserved : goal.names_accepted-loop-name-preserved
names_accepted-loop-name-preserved t c =
    let r = view c.args.root.now in
    let s = view c.args.schema.now in
    let all = of_names s (members_view c.args.members.now.entries) in
    let e = name_next s c.in-Some.name.now c.as_str.result.now c.in-Some.field-0-1.now _ _ c.in-Some.ensures.steps c.as_str.ensures.value in
    (further r all _ _ _ e c.loop-name.invariant.0, on every r _ _ _ _ true e c.if-not-accepts_at.ensures c.loop-name.invariant.1)

pub all_accept-returns-then-not-accepts_at : goal.all_accept-returns-then-not-accepts_at
all_accept-returns-then-not-accepts_at t c =
    let r = view c.args.root.now in
    let u = seen c.args.instance in
    let items = c.args.schemas.now in
    let e = at_item items c.loop-schema.schema-index c.schema-item.result u c.loop-schema-test.true c.schema-item.is in
    on every r _ _ _ _ false e c.if-not-accepts_at.ensures c.loop-schema.invariant.1

pub some_accepts-returns-then-accepts_at : goal.some_accepts-returns-then-accepts_at
some_accepts-returns-then-accepts_at t c =
    let r = view c.args.root.now in
    let u = seen c.args.instance in
    let items = c.args.schemas.now in
    let e = at_item items c.loop-schema.schema-index c.schema-item.result u c.loop-schema-test.true c.schema-item.is in
    on some r _ _ _ _ true e c.if-accepts_at.ensures c.loop-schema.invariant.1

pub each_accepted-returns-then-not-accepts_at : goal.each_accepted-returns-then-not-accepts_at
each_accepted-returns-then-not-accepts_at t c =
    let r = view c.args.root.now in
    let s = view c.args.schema.now in
    let items = c.args.items.now in
    let e = of_item s items c.loop-item.item-index c.item-item.result c.loop-item-test.true c.item-item.is in
    on every r _ _ _ _ false e c.if-not-accepts_at.ensures c.loop-item.invariant.1

pub all_accept-returns : goal.all_accept-returns
all_accept-returns t c =
    let r = view c.args.root.now in
    let u = seen c.args.instance in
    sym (ap (λ l. every (told (verdict r) (at_each (elements_view l) u))) (drop_all c.loop-schema.schema-index c.args.schemas.now c.loop-schema-test.false)) ∙ c.loop-schema.invariant.1

pub some_accepts-returns : goal.some_accepts-returns
some_accepts-returns t c =
    let r = view c.args.root.now in
    let u = seen c.args.instance in
    sym (ap (λ l. some (told (verdict r) (at_each (elements_view l) u))) (drop_all c.loop-schema.schema-index c.args.schemas.now c.loop-schema-test.false)) ∙ c.loop-schema.invariant.1

pub each_accepted-returns : goal.each_accepted-returns
each_accepted-returns t c =
    let r = view c.args.root.now in
    let s = view c.args.schema.now in
    let done = drop_all c.loop-item.item-index c.args.items.now c.loop-item-test.false in
    sym (ap (λ l. every (told (verdict r) (of_each s (elements_view l)))) done) ∙ c.loop-item.invariant.1

pub how_many_accepted-returns : goal.how_many_accepted-returns
how_many_accepted-returns t c =
    let r = view c.args.root.now in
    let s = view c.args.schema.now in
    let done = drop_all c.loop-item.item-index c.args.items.now c.loop-item-test.false in
    let none = ap (λ l. how_many (told (verdict r) (of_each s (elements_view l)))) done in
    let all = c.loop-item.invariant.1 in
    omega (arith, none, all)

pub members_hold-returns-then-not-member_holds : goal.members_hold-returns-then-not-member_holds
members_hold-returns-then-not-member_holds t c =
    let r = view c.args.root.now in
    let ms = members_view c.args.members.now.entries in
    let u = seen c.args.instance in
    let v = view c.in-Some.value.now in
    let k : c.keyword_named.result ≡ keyword_of (string_bytes c.in-Some.name.now) = c.keyword_named.ensures ∙ ap keyword_of c.as_str.ensures.value in
    let h = c.if-not-member_holds.ensures ∙ ap (λ k. holds (verdict r) r ms k v u) k in
    ap (λ b. b && all_hold (verdict r) r ms (members_view c.next.new.self) u) h ∙ sym (ap (λ es. all_hold (verdict r) r ms (members_view es) u) c.in-Some.ensures.steps) ∙ c.loop-name.invariant.0

pub members_hold-returns : goal.members_hold-returns
members_hold-returns t c =
    let r = view c.args.root.now in
    let ms = members_view c.args.members.now.entries in
    let u = seen c.args.instance in
    sym (ap (λ es. all_hold (verdict r) r ms (members_view es) u) c.in-None.ensures.steps.0) ∙ c.loop-name.invariant.0

pub named_accepted-returns-then-not-found_accepts : goal.named_accepted-returns-then-not-found_accepts
named_accepted-returns-then-not-found_accepts t c =
    let r = view c.args.root.now in
    let ss = members_view c.args.schemas.now.entries in
    let all = by_name ss (members_view c.args.members.now.entries) in
    let o = option_map (λ x. view x.now) c.member_named.result in
    let f : o ≡ get_member (string_bytes c.in-Some.name.now) ss = c.member_named.ensures ∙ ap (λ n. get_member n ss) c.as_str.ensures.value in
    let e = member_next ss c.in-Some.name.now c.in-Some.member.now _ _ o c.in-Some.ensures.steps f in
    on_found r all _ _ (view c.in-Some.member.now) o _ false e c.if-not-found_accepts.ensures c.loop-name.invariant.1

pub named_accepted-returns : goal.named_accepted-returns
named_accepted-returns t c =
    let r = view c.args.root.now in
    let ss = members_view c.args.schemas.now.entries in
    sym (ap (λ es. every (told (verdict r) (by_name ss (members_view es)))) c.in-None.ensures.steps.0) ∙ c.loop-name.invariant.1

pub others_accepted-returns-then-not-accepts_at : goal.others_accepted-returns-then-not-accepts_at
others_accepted-returns-then-not-accepts_at t c =
    let r = view c.args.root.now in
    let ns = members_in (beside (codes "properties") (members_view c.args.siblings.now.entries)) in
    let s = view c.args.schema.now in
    let h : false ≡ is_some (get_member (string_bytes c.in-Some.name.now) ns) = c.if-not-is_named.ensures ∙ ap (λ n. is_some (get_member n ns)) c.as_str.ensures.value in
    let e = other_next ns s c.in-Some.name.now c.in-Some.member.now _ _ c.in-Some.ensures.steps h in
    on every r _ _ _ _ false e c.if-not-accepts_at.ensures c.loop-name.invariant.1

pub others_accepted-returns : goal.others_accepted-returns
others_accepted-returns t c =
    let r = view c.args.root.now in
    let ns = members_in (beside (codes "properties") (members_view c.args.siblings.now.entries)) in
    let s = view c.args.schema.now in
    sym (ap (λ es. every (told (verdict r) (of_others ns [] s (members_view es)))) c.in-None.ensures.steps.0) ∙ c.loop-name.invariant.1

pub names_accepted-returns-then-not-accepts_at : goal.names_accepted-returns-then-not-accepts_at
names_accepted-returns-then-not-accepts_at t c =
    let r = view c.args.root.now in
    let s = view c.args.schema.now in
    let e = name_next s c.in-Some.name.now c.as_str.result.now c.in-Some.field-0-1.now _ _ c.in-Some.ensures.steps c.as_str.ensures.value in
    on every r _ _ _ _ false e c.if-not-accepts_at.ensures c.loop-name.invariant.1

pub names_accepted-returns : goal.names_accepted-returns
names_accepted-returns t c =
    let r = view c.args.root.now in
    let s = view c.args.schema.now in
    sym (ap (λ es. every (told (verdict r) (of_names s (members_view es)))) c.in-None.ensures.steps.0) ∙ c.loop-name.invariant.1

pub member_holds-returns-in-AllOf : goal.member_holds-returns-in-AllOf
member_holds-returns-in-AllOf t c =
    let r = view c.args.root.now in
    let ms = members_view c.args.siblings.now.entries in
    let v = view c.args.value.now in
    let u = seen c.args.instance in
    c.all_accept.ensures ∙ ap (λ xs. every (told (verdict r) (at_each xs u))) c.elements_of-in-AllOf.ensures ∙ sym (ap (λ k. holds (verdict r) r ms k v u) c.in-AllOf.is)

pub member_holds-returns-in-AnyOf : goal.member_holds-returns-in-AnyOf
member_holds-returns-in-AnyOf t c =
    let r = view c.args.root.now in
    let ms = members_view c.args.siblings.now.entries in
    let v = view c.args.value.now in
    let u = seen c.args.instance in
    c.some_accepts.ensures ∙ ap (λ xs. some (told (verdict r) (at_each xs u))) c.elements_of-in-AnyOf.ensures ∙ sym (ap (λ k. holds (verdict r) r ms k v u) c.in-AnyOf.is)

pub member_holds-returns-in-OneOf : goal.member_holds-returns-in-OneOf
member_holds-returns-in-OneOf t c =
    let r = view c.args.root.now in
    let ms = members_view c.args.siblings.now.entries in
    let v = view c.args.value.now in
    let u = seen c.args.instance in
    c.one_accepts.ensures ∙ ap (λ xs. how_many (told (verdict r) (at_each xs u)) == 1) c.elements_of-in-OneOf.ensures ∙ sym (ap (λ k. holds (verdict r) r ms k v u) c.in-OneOf.is)

pub member_holds-returns-in-Contains : goal.member_holds-returns-in-Contains
member_holds-returns-in-Contains t c =
    let r = view c.args.root.now in
    let ms = members_view c.args.siblings.now.entries in
    let v = view c.args.value.now in
    let u = seen c.args.instance in
    c.contains_accepted.ensures ∙ sym (ap (λ k. holds (verdict r) r ms k v u) c.in-Contains.is)

pub member_holds-returns-in-MaxContains : goal.member_holds-returns-in-MaxContains
member_holds-returns-in-MaxContains t c =
    let r = view c.args.root.now in
    let ms = members_view c.args.siblings.now.entries in
    let v = view c.args.value.now in
    let u = seen c.args.instance in
    c.limit_accepted.ensures
    ∙ ap (λ o. with_schema o (on_list (λ _. at_most v (how_many (told (verdict r) (of_contained o (elements_in u))))) u)) c.member_named.ensures ∙ sym (ap (λ k. holds (verdict r) r ms k v u) c.in-MaxContains.is)

pub member_holds-returns-in-Then : goal.member_holds-returns-in-Then
member_holds-returns-in-Then t c =
    let r = view c.args.root.now in
    let ms = members_view c.args.siblings.now.entries in
    let v = view c.args.value.now in
    let u = seen c.args.instance in
    c.accepts_where.ensures ∙ ap (λ o. with_if o (where_true (told (verdict r) (after_if o v u)))) c.member_named-in-Then.ensures ∙ sym (ap (λ k. holds (verdict r) r ms k v u) c.in-Then.is)

pub member_holds-returns-in-Else : goal.member_holds-returns-in-Else
member_holds-returns-in-Else t c =
    let r = view c.args.root.now in
    let ms = members_view c.args.siblings.now.entries in
    let v = view c.args.value.now in
    let u = seen c.args.instance in
    c.accepts_where-in-Else.ensures ∙ ap (λ o. with_if o (where_false (told (verdict r) (after_if o v u)))) c.member_named-in-Else.ensures ∙ sym (ap (λ k. holds (verdict r) r ms k v u) c.in-Else.is)

pub member_holds-returns-in-PrefixItems : goal.member_holds-returns-in-PrefixItems
member_holds-returns-in-PrefixItems t c =
    let r = view c.args.root.now in
    let ms = members_view c.args.siblings.now.entries in
    let v = view c.args.value.now in
    let u = seen c.args.instance in
    c.placed_accepted.ensures ∙ ap (λ xs. every (told (verdict r) (by_place xs (elements_view c.items_of.result.now)))) c.elements_of.ensures
    ∙ ap (λ xs. every (told (verdict r) (by_place (elements_in v) xs))) c.items_of.ensures ∙ sym (ap (λ k. holds (verdict r) r ms k v u) c.in-PrefixItems.is)

pub all_accept-loop-schema-init : goal.all_accept-loop-schema-init
all_accept-loop-schema-init t c =
    let r = view c.args.root.now in
    let u = seen c.args.instance in
    (begin_rest r (at_each (elements_view c.args.schemas.now) u) c.requires.placed, refl)

pub some_accepts-loop-schema-init : goal.some_accepts-loop-schema-init
some_accepts-loop-schema-init t c =
    let r = view c.args.root.now in
    let u = seen c.args.instance in
    (begin_rest r (at_each (elements_view c.args.schemas.now) u) c.requires.placed, refl)

pub one_accepts-loop-schema-init : goal.one_accepts-loop-schema-init
one_accepts-loop-schema-init t c =
    let r = view c.args.root.now in
    let u = seen c.args.instance in
    (begin_rest r (at_each (elements_view c.args.schemas.now) u) c.requires.placed, refl)

pub each_accepted-loop-item-init : goal.each_accepted-loop-item-init
each_accepted-loop-item-init t c =
    let r = view c.args.root.now in
    (begin_rest r (of_each (view c.args.schema.now) (elements_view c.args.items.now)) c.requires.placed, refl)

pub how_many_accepted-loop-item-init : goal.how_many_accepted-loop-item-init
how_many_accepted-loop-item-init t c =
    let r = view c.args.root.now in
    (begin_rest r (of_each (view c.args.schema.now) (elements_view c.args.items.now)) c.requires.placed, omega arith, omega arith)

pub member_holds-returns-in-Not : goal.member_holds-returns-in-Not
member_holds-returns-in-Not t c =
    let r = view c.args.root.now in
    let ms = members_view c.args.siblings.now.entries in
    let v = view c.args.value.now in
    let u = seen c.args.instance in
    ap not (c.accepts_at.ensures ∙ sym (and_true (verdict r v u))) ∙ sym (ap (λ k. holds (verdict r) r ms k v u) c.in-Not.is)

pub member_holds-returns-in-Some : goal.member_holds-returns-in-Some
member_holds-returns-in-Some t c =
    let r = view c.args.root.now in
    let ms = members_view c.args.siblings.now.entries in
    let v = view c.args.value.now in
    let u = seen c.args.instance in
    c.properties_accepted.ensures ∙ ap (λ m. every (told (verdict r) (each_named v m))) c.in-Some.ensures ∙ sym (ap (λ k. holds (verdict r) r ms k v u) c.in-Properties.is)

pub member_holds-returns-in-Some-members_of : goal.member_holds-returns-in-Some-members_of
member_holds-returns-in-Some-members_of t c =
    let r = view c.args.root.now in
    let ms = members_view c.args.siblings.now.entries in
    let v = view c.args.value.now in
    let u = seen c.args.instance in
    let ns = members_in (beside (codes "properties") ms) in
    c.others_accepted.ensures ∙ ap (λ m. every (told (verdict r) (of_others ns [] v m))) c.in-Some-members_of.ensures ∙ ap (λ ps. every (told (verdict r) (of_others ns ps v (members_in u)))) (sym c.requires.unpatterned) ∙ sym (ap (λ k. holds (verdict r) r ms k v u) c.in-AdditionalProperties.is)

pub member_holds-returns-in-Some-members_of-2 : goal.member_holds-returns-in-Some-members_of-2
member_holds-returns-in-Some-members_of-2 t c =
    let r = view c.args.root.now in
    let ms = members_view c.args.siblings.now.entries in
    let v = view c.args.value.now in
    let u = seen c.args.instance in
    c.names_accepted.ensures ∙ ap (λ m. every (told (verdict r) (of_names v m))) c.in-Some-members_of-2.ensures ∙ sym (ap (λ k. holds (verdict r) r ms k v u) c.in-PropertyNames.is)

pub member_holds-returns-in-None-members_of : goal.member_holds-returns-in-None-members_of
member_holds-returns-in-None-members_of t c =
    let r = view c.args.root.now in
    let ms = members_view c.args.siblings.now.entries in
    let v = view c.args.value.now in
    let u = seen c.args.instance in
    let ns = members_in (beside (codes "properties") ms) in
    let ps = names_list (members_in (beside (codes "patternProperties") ms)) in
    sym (ap (λ m. every (told (verdict r) (of_others ns ps v m))) c.in-None-members_of.ensures) ∙ sym (ap (λ k. holds (verdict r) r ms k v u) c.in-AdditionalProperties.is)

pub member_holds-returns-in-None-members_of-2 : goal.member_holds-returns-in-None-members_of-2
member_holds-returns-in-None-members_of-2 t c =
    let r = view c.args.root.now in
    let ms = members_view c.args.siblings.now.entries in
    let v = view c.args.value.now in
    let u = seen c.args.instance in
    sym (ap (λ m. every (told (verdict r) (of_names v m))) c.in-None-members_of-2.ensures) ∙ sym (ap (λ k. holds (verdict r) r ms k v u) c.in-PropertyNames.is)

pub found_accepts-returns-in-Some : goal.found_accepts-returns-in-Some
found_accepts-returns-in-Some t c =
    let r = view c.args.root.now in
    let u = seen c.args.instance in
    c.accepts_at.ensures ∙ sym (and_true (verdict r (view c.in-Some.schema.now) u)) ∙ sym (ap (λ f. every (told (verdict r) (at_target (option_map (λ x. view x.now) f) u))) c.in-Some.is)

pub found_accepts-returns-in-None : goal.found_accepts-returns-in-None
found_accepts-returns-in-None t c =
    let r = view c.args.root.now in
    let u = seen c.args.instance in
    sym (ap (λ f. every (told (verdict r) (at_target (option_map (λ x. view x.now) f) u))) c.in-None.is)

pub limit_accepted-returns-in-None : goal.limit_accepted-returns-in-None
limit_accepted-returns-in-None t c =
    let r = view c.args.root.now in
    let u = seen c.args.instance in
    let v = view c.args.most.now in
    sym (ap (λ o. with_schema (option_map (λ d. view d.now) o) (on_list (λ _. at_most v (how_many (told (verdict r) (of_contained (option_map (λ d. view d.now) o) (elements_in u))))) u)) c.in-None.is)

pub properties_accepted-returns-in-Object : goal.properties_accepted-returns-in-Object
properties_accepted-returns-in-Object t c =
    let r = view c.args.root.now in
    let ms = members_view c.args.members.now.entries in
    c.named_accepted.ensures ∙ sym (ap (λ d. every (told (verdict r) (each_named d ms))) (ap view c.in-Object.is ∙ view-Object c.in-Object.schemas))

pub member_holds-returns-in-Pattern : goal.member_holds-returns-in-Pattern
member_holds-returns-in-Pattern t c =
    let r = view c.args.root.now in
    let ms = members_view c.args.siblings.now.entries in
    let v = view c.args.value.now in
    let u = seen c.args.instance in
    sym (no_search v u (ap (λ k. texts_of k v) (sym c.in-Pattern.is) ∙ c.requires.searchless)) ∙ sym (ap (λ k. holds (verdict r) r ms k v u) c.in-Pattern.is)

pub member_holds-returns-in-PatternProperties : goal.member_holds-returns-in-PatternProperties
member_holds-returns-in-PatternProperties t c =
    let r = view c.args.root.now in
    let ms = members_view c.args.siblings.now.entries in
    let v = view c.args.value.now in
    let u = seen c.args.instance in
    sym (ap (λ l. every (told (verdict r) l)) (no_names v u (ap (λ k. texts_of k v) (sym c.in-PatternProperties.is) ∙ c.requires.searchless))) ∙ sym (ap (λ k. holds (verdict r) r ms k v u) c.in-PatternProperties.is)
