use Rattle.std.proofs.Common.{◌≡◌, ◌++◌, map, drop}
use Rattle.doc_tree.specs.TreeView.{elements_view, members_view}
use Rattle.schema_rules.specs.PatternTexts.{texts_in}
use Rattle.schema_rules.specs.Schemas.{offered_each, offered_named, offered_below}
use Rattle.doc_schema.proofs.patterns.+patterns.Given as goal

abbrev pub invariant-texts_each-loop-schema : goal.invariant-texts_each-loop-schema
invariant-texts_each-loop-schema l = map (λ s. s.now) l.found.items ++ texts_in l.profile (offered_each l.profile (elements_view (drop l.schema-index l.schema-items))) ≡ map (λ s. s.now) l.initial.found.items ++ texts_in l.profile (offered_each l.profile (elements_view l.schema-items))

abbrev pub invariant-texts_named-loop-schema : goal.invariant-texts_named-loop-schema
invariant-texts_named-loop-schema l = map (λ s. s.now) l.found.items ++ texts_in l.profile (offered_named l.profile (members_view l.schema-iterator)) ≡ map (λ s. s.now) l.initial.found.items ++ texts_in l.profile (offered_named l.profile (members_view l.schemas.entries))

abbrev pub invariant-texts_below-loop-name : goal.invariant-texts_below-loop-name
invariant-texts_below-loop-name l = map (λ s. s.now) l.found.items ++ texts_in l.profile (offered_below l.profile (members_view l.name-iterator)) ≡ map (λ s. s.now) l.initial.found.items ++ texts_in l.profile (offered_below l.profile (members_view l.members.entries))
