-- The instances of which an assertion holds that was made ready.
use Rattle.std.specs.Prelude.{Bool}
use Rattle.std.specs.List.{list_any}
use Rattle.doc_tree.specs.Doc.{Doc}
use Rattle.doc_tree.specs.Lists.{elements_list}
use Rattle.doc_tree.specs.Same.{same}
use Rattle.doc_tree.specs.TreeView.{view, elements_view}
use Rattle.schema_rules.specs.Assertions.{asserts}
use Rattle.schema_rules.specs.declared.assertion.Assertion.{Assertion}
use Rattle.schema_rules.specs.declared.assertion.Assertion.TheVariants.{Stated, Among}

-- what its keyword asserts; of `enum`, that the instance is equal to one of the values (JSON Schema Validation, sections 6 and 6.1.2)
abbrev pub holds : Assertion → Doc → Bool
holds (Stated keyword value) t = asserts keyword (view value) t
holds (Among choices) t = list_any (λ d. same d t) (elements_list (elements_view choices.sorted.items))
