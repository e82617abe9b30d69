use Rattle.std.proofs.Common.{◌≡◌, [], ◌==◌, ◌≤◌, ◌+◌, ◌*◌, drop, option_map, codes}
use Rattle.doc_tree.specs.Doc.{object}
use Rattle.doc_tree.specs.Lists.{names_list}
use Rattle.doc_tree.specs.TreeView.{view, elements_view, members_view}
use Rattle.schema_graph.specs.Walks.{In}
use Rattle.schema_rules.specs.Instances.{seen}
use Rattle.schema_rules.specs.PatternTexts.{texts_by}
use Rattle.schema_rules.specs.declared.profile.Profile.TheVariants.{Three}
use Rattle.schema_rules.specs.Parts.{beside, elements_in, members_in}
use Rattle.schema_rules.specs.Rules.{Ask, asks, at_each, by_each, of_each, by_place, by_name, each_named, of_names, of_others, of_contained, at_target, after_if, every, some, how_many, where_present}
use Rattle.doc_schema.specs.Schemas.{AreNear}
use Rattle.doc_schema.specs.Steps.{verdict, all_hold, told, steps, most}
use Rattle.doc_schema.proofs.Fuel.{asked_by}
use Rattle.doc_schema.proofs.Rest.{Rest, is_one}
use Rattle.doc_schema.proofs.judge.+judge.Given as goal

abbrev pub decreases-accepts_at : goal.decreases-accepts_at
decreases-accepts_at l = 6 * steps (view l.root.now) (view l.schema.now) (seen l.instance) + 5

abbrev pub decreases-members_hold : goal.decreases-members_hold
decreases-members_hold l = 6 * steps (view l.root.now) (object (members_view l.members.now.entries)) (seen l.instance) + 4

abbrev pub decreases-member_holds : goal.decreases-member_holds
decreases-member_holds l = 6 * most (view l.root.now) (asks (view l.root.now) (members_view l.siblings.now.entries) l.keyword (view l.value.now) (seen l.instance)) + 3

abbrev pub decreases-all_accept : goal.decreases-all_accept
decreases-all_accept l = 6 * most (view l.root.now) (at_each (elements_view l.schemas.now) (seen l.instance))

abbrev pub decreases-some_accepts : goal.decreases-some_accepts
decreases-some_accepts l = 6 * most (view l.root.now) (at_each (elements_view l.schemas.now) (seen l.instance))

abbrev pub decreases-one_accepts : goal.decreases-one_accepts
decreases-one_accepts l = 6 * most (view l.root.now) (at_each (elements_view l.schemas.now) (seen l.instance))

abbrev pub decreases-each_accepted : goal.decreases-each_accepted
decreases-each_accepted l = 6 * most (view l.root.now) (of_each (view l.schema.now) (elements_view l.items.now))

abbrev pub decreases-how_many_accepted : goal.decreases-how_many_accepted
decreases-how_many_accepted l = 6 * most (view l.root.now) (of_each (view l.schema.now) (elements_view l.items.now))

abbrev pub decreases-contains_accepted : goal.decreases-contains_accepted
decreases-contains_accepted l = 6 * most (view l.root.now) (of_each (view l.schema.now) (elements_in (seen l.instance))) + 1

abbrev pub decreases-limit_accepted : goal.decreases-limit_accepted
decreases-limit_accepted l = 6 * most (view l.root.now) (of_contained (option_map (λ t. view t.now) l.contained) (elements_in (seen l.instance))) + 1

abbrev pub decreases-placed_accepted : goal.decreases-placed_accepted
decreases-placed_accepted l = 6 * most (view l.root.now) (by_place (elements_view l.schemas.now) (elements_view l.items.now))

abbrev pub decreases-properties_accepted : goal.decreases-properties_accepted
decreases-properties_accepted l = 6 * most (view l.root.now) (each_named (view l.value.now) (members_view l.members.now.entries)) + 2

abbrev pub decreases-names_accepted : goal.decreases-names_accepted
decreases-names_accepted l = 6 * most (view l.root.now) (of_names (view l.schema.now) (members_view l.members.now.entries))

abbrev pub decreases-named_accepted : goal.decreases-named_accepted
decreases-named_accepted l = 6 * most (view l.root.now) (by_name (members_view l.schemas.now.entries) (members_view l.members.now.entries)) + 1

abbrev pub decreases-others_accepted : goal.decreases-others_accepted
decreases-others_accepted l = 6 * most (view l.root.now) (of_others (members_in (beside (codes "properties") (members_view l.siblings.now.entries))) [] (view l.schema.now) (members_view l.members.now.entries))

abbrev pub decreases-present_accept : goal.decreases-present_accept
decreases-present_accept l = 6 * most (view l.root.now) (by_each (members_view l.schemas.now.entries) (seen l.instance))

abbrev pub decreases-found_accepts : goal.decreases-found_accepts
decreases-found_accepts l = 6 * most (view l.root.now) (at_target (option_map (λ t. view t.now) l.found) (seen l.instance))

abbrev pub decreases-accepts_where : goal.decreases-accepts_where
decreases-accepts_where l = 6 * most (view l.root.now) (after_if (option_map (λ t. view t.now) l.condition) (view l.schema.now) (seen l.instance))

abbrev pub invariant-members_hold-loop-name : goal.invariant-members_hold-loop-name
invariant-members_hold-loop-name l = (all_hold (verdict (view l.root)) (view l.root) (members_view l.members.entries) (members_view l.name-iterator) (seen l.instance) ≡ all_hold (verdict (view l.root)) (view l.root) (members_view l.members.entries) (members_view l.members.entries) (seen l.instance))
    × ((a : Ask) → In a (asked_by (view l.root) (members_view l.members.entries) (members_view l.name-iterator) (seen l.instance)) → In a (asked_by (view l.root) (members_view l.members.entries) (members_view l.members.entries) (seen l.instance)))
    × (texts_by Three (members_view l.name-iterator) ≡ [])
    × AreNear (view l.root) (members_view l.name-iterator)

abbrev pub invariant-all_accept-loop-schema : goal.invariant-all_accept-loop-schema
invariant-all_accept-loop-schema l = Rest (view l.root) (at_each (elements_view (drop l.schema-index l.schemas)) (seen l.instance)) (at_each (elements_view l.schemas) (seen l.instance))
    × (every (told (verdict (view l.root)) (at_each (elements_view (drop l.schema-index l.schemas)) (seen l.instance))) ≡ every (told (verdict (view l.root)) (at_each (elements_view l.schemas) (seen l.instance))))

abbrev pub invariant-some_accepts-loop-schema : goal.invariant-some_accepts-loop-schema
invariant-some_accepts-loop-schema l = Rest (view l.root) (at_each (elements_view (drop l.schema-index l.schemas)) (seen l.instance)) (at_each (elements_view l.schemas) (seen l.instance))
    × (some (told (verdict (view l.root)) (at_each (elements_view (drop l.schema-index l.schemas)) (seen l.instance))) ≡ some (told (verdict (view l.root)) (at_each (elements_view l.schemas) (seen l.instance))))

abbrev pub invariant-one_accepts-loop-schema : goal.invariant-one_accepts-loop-schema
invariant-one_accepts-loop-schema l = Rest (view l.root) (at_each (elements_view (drop l.schema-index l.schemas)) (seen l.instance)) (at_each (elements_view l.schemas) (seen l.instance))
    × (is_one l.found (told (verdict (view l.root)) (at_each (elements_view (drop l.schema-index l.schemas)) (seen l.instance))) ≡ (how_many (told (verdict (view l.root)) (at_each (elements_view l.schemas) (seen l.instance))) == 1))

abbrev pub invariant-each_accepted-loop-item : goal.invariant-each_accepted-loop-item
invariant-each_accepted-loop-item l = Rest (view l.root) (of_each (view l.schema) (elements_view (drop l.item-index l.items))) (of_each (view l.schema) (elements_view l.items))
    × (every (told (verdict (view l.root)) (of_each (view l.schema) (elements_view (drop l.item-index l.items)))) ≡ every (told (verdict (view l.root)) (of_each (view l.schema) (elements_view l.items))))

abbrev pub invariant-how_many_accepted-loop-item : goal.invariant-how_many_accepted-loop-item
invariant-how_many_accepted-loop-item l = Rest (view l.root) (of_each (view l.schema) (elements_view (drop l.item-index l.items))) (of_each (view l.schema) (elements_view l.items))
    × (l.count + how_many (told (verdict (view l.root)) (of_each (view l.schema) (elements_view (drop l.item-index l.items)))) ≡ how_many (told (verdict (view l.root)) (of_each (view l.schema) (elements_view l.items))))
    × (l.count ≤ l.item-index)

abbrev pub invariant-named_accepted-loop-name : goal.invariant-named_accepted-loop-name
invariant-named_accepted-loop-name l = Rest (view l.root) (by_name (members_view l.schemas.entries) (members_view l.name-iterator)) (by_name (members_view l.schemas.entries) (members_view l.members.entries))
    × (every (told (verdict (view l.root)) (by_name (members_view l.schemas.entries) (members_view l.name-iterator))) ≡ every (told (verdict (view l.root)) (by_name (members_view l.schemas.entries) (members_view l.members.entries))))

abbrev pub invariant-others_accepted-loop-name : goal.invariant-others_accepted-loop-name
invariant-others_accepted-loop-name l = Rest (view l.root) (of_others (members_in (beside (codes "properties") (members_view l.siblings.entries))) [] (view l.schema) (members_view l.name-iterator)) (of_others (members_in (beside (codes "properties") (members_view l.siblings.entries))) [] (view l.schema) (members_view l.members.entries))
    × (every (told (verdict (view l.root)) (of_others (members_in (beside (codes "properties") (members_view l.siblings.entries))) [] (view l.schema) (members_view l.name-iterator))) ≡ every (told (verdict (view l.root)) (of_others (members_in (beside (codes "properties") (members_view l.siblings.entries))) [] (view l.schema) (members_view l.members.entries))))

abbrev pub invariant-present_accept-loop-name : goal.invariant-present_accept-loop-name
invariant-present_accept-loop-name l = Rest (view l.root) (by_each (members_view l.name-iterator) (seen l.instance)) (by_each (members_view l.schemas.entries) (seen l.instance))
    × (where_present (names_list (members_view l.name-iterator)) (seen l.instance) (told (verdict (view l.root)) (by_each (members_view l.name-iterator) (seen l.instance)))
    ≡ where_present (names_list (members_view l.schemas.entries)) (seen l.instance) (told (verdict (view l.root)) (by_each (members_view l.schemas.entries) (seen l.instance))))

abbrev pub invariant-placed_accepted-loop-schema : goal.invariant-placed_accepted-loop-schema
invariant-placed_accepted-loop-schema l = Rest (view l.root) (by_place (elements_view l.schema-iterator.a.rest.now) (elements_view l.schema-iterator.b.rest.now)) (by_place (elements_view l.schemas) (elements_view l.items))
    × (every (told (verdict (view l.root)) (by_place (elements_view l.schema-iterator.a.rest.now) (elements_view l.schema-iterator.b.rest.now))) ≡ every (told (verdict (view l.root)) (by_place (elements_view l.schemas) (elements_view l.items))))

abbrev pub invariant-names_accepted-loop-name : goal.invariant-names_accepted-loop-name
invariant-names_accepted-loop-name l = Rest (view l.root) (of_names (view l.schema) (members_view l.name-iterator)) (of_names (view l.schema) (members_view l.members.entries))
    × (every (told (verdict (view l.root)) (of_names (view l.schema) (members_view l.name-iterator))) ≡ every (told (verdict (view l.root)) (of_names (view l.schema) (members_view l.members.entries))))
