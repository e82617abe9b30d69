use Rattle.std.proofs.Common.{drop}
use Rattle.doc_tree.specs.TreeView.{view, elements_view, members_view}
use Rattle.doc_tree.specs.Lists.{elements_list, values_list}
use Rattle.schema_rules.specs.Schemas.{schemas_each, schemas_named, schemas_below}
use Rattle.schema_nodes.proofs.Growing.{Making, Adding, Left}
use Rattle.schema_nodes.proofs.entries.+entries.Given as goal

abbrev pub invariant-with_members-loop-name : goal.invariant-with_members-loop-name
invariant-with_members-loop-name l = Making (view l.root) l.initial.entries.items l.entries.items l.rows.items (members_view l.name-iterator) (members_view l.members.entries)
    × Left l.entries.items l.initial.entries.items (schemas_below (members_view l.name-iterator)) (schemas_below (members_view l.members.entries))

abbrev pub invariant-with_each-loop-schema : goal.invariant-with_each-loop-schema
invariant-with_each-loop-schema l = Adding (view l.root) l.initial.grown l.grown (elements_list (elements_view (drop l.schema-index l.schema-items))) (schemas_each (elements_view (drop l.schema-index l.schema-items))) (elements_list (elements_view l.schema-items)) (schemas_each (elements_view l.schema-items))
    × Left l.grown.entries.items l.initial.grown.entries.items (schemas_each (elements_view (drop l.schema-index l.schema-items))) (schemas_each (elements_view l.schema-items))

abbrev pub invariant-with_named-loop-schema : goal.invariant-with_named-loop-schema
invariant-with_named-loop-schema l = Adding (view l.root) l.initial.grown l.grown (values_list (members_view l.schema-iterator)) (schemas_named (members_view l.schema-iterator)) (values_list (members_view l.named.entries)) (schemas_named (members_view l.named.entries))
    × Left l.grown.entries.items l.initial.grown.entries.items (schemas_named (members_view l.schema-iterator)) (schemas_named (members_view l.named.entries))
