use Rattle.std.proofs.Common.{◌≡◌, false, drop}
use Rattle.std.specs.List.{list_any}
use Rattle.doc_tree.specs.TreeView.{view, elements_view, members_view}
use Rattle.doc_schema.specs.Defects.{is_defective}
use Rattle.schema_rules.specs.Schemas.{offered_each, offered_named, offered_below}
use Rattle.doc_schema.proofs.defects.+defects.Given as goal

abbrev pub invariant-defective_each-loop-schema : goal.invariant-defective_each-loop-schema
invariant-defective_each-loop-schema l = list_any (is_defective l.profile l.defect (view l.root) false) (offered_each l.profile (elements_view (drop l.schema-index l.schema-items))) ≡ list_any (is_defective l.profile l.defect (view l.root) false) (offered_each l.profile (elements_view l.schema-items))

abbrev pub invariant-defective_named-loop-schema : goal.invariant-defective_named-loop-schema
invariant-defective_named-loop-schema l = list_any (is_defective l.profile l.defect (view l.root) false) (offered_named l.profile (members_view l.schema-iterator)) ≡ list_any (is_defective l.profile l.defect (view l.root) false) (offered_named l.profile (members_view l.schemas.entries))

abbrev pub invariant-defective_below-loop-name : goal.invariant-defective_below-loop-name
invariant-defective_below-loop-name l = list_any (is_defective l.profile l.defect (view l.root) false) (offered_below l.profile (members_view l.name-iterator)) ≡ list_any (is_defective l.profile l.defect (view l.root) false) (offered_below l.profile (members_view l.members.entries))
