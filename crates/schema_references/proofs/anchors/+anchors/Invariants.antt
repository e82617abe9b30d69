use Rattle.std.proofs.Common.{◌≡◌, ◌++◌, map, drop}
use Rattle.doc_tree.specs.TreeView.{elements_view, members_view}
use Rattle.schema_rules.specs.Anchors.{anchors_of}
use Rattle.schema_rules.specs.Schemas.{schemas_each, schemas_named, schemas_below}
use Rattle.schema_references.proofs.anchors.+anchors.Given as goal

abbrev pub invariant-anchors_each-loop-schema : goal.invariant-anchors_each-loop-schema
invariant-anchors_each-loop-schema l = map (λ s. s.now) l.found.items ++ anchors_of (schemas_each (elements_view (drop l.schema-index l.schema-items))) ≡ map (λ s. s.now) l.initial.found.items ++ anchors_of (schemas_each (elements_view l.schema-items))

abbrev pub invariant-anchors_named-loop-schema : goal.invariant-anchors_named-loop-schema
invariant-anchors_named-loop-schema l = map (λ s. s.now) l.found.items ++ anchors_of (schemas_named (members_view l.schema-iterator)) ≡ map (λ s. s.now) l.initial.found.items ++ anchors_of (schemas_named (members_view l.schemas.entries))

abbrev pub invariant-anchors_below-loop-name : goal.invariant-anchors_below-loop-name
invariant-anchors_below-loop-name l = map (λ s. s.now) l.found.items ++ anchors_of (schemas_below (members_view l.name-iterator)) ≡ map (λ s. s.now) l.initial.found.items ++ anchors_of (schemas_below (members_view l.members.entries))
