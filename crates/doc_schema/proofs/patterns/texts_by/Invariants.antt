use Rattle.std.proofs.Common.{◌≡◌, ◌++◌, map}
use Rattle.doc_tree.specs.TreeView.{members_view}
use Rattle.schema_rules.specs.PatternTexts.{texts_by}
use Rattle.doc_schema.proofs.patterns.texts_by.Given as goal

abbrev pub invariant-loop-name : goal.invariant-loop-name
invariant-loop-name l = map (λ s. s.now) l.found.items ++ texts_by l.profile (members_view l.name-iterator) ≡ map (λ s. s.now) l.initial.found.items ++ texts_by l.profile (members_view l.members.entries)
