-- The assertion of `pattern` (JSON Schema Validation, section 6.3.3).
use Rattle.std.specs.Prelude.{Bool, true}
use Rattle.doc_tree.specs.Doc.{Doc, text}
use Rattle.schema_pattern.specs.Patterns.{pattern_in, is_found}

-- some part of the instance matches the pattern, if it is a text
abbrev pub fits : Doc → Doc → Bool
fits (text source) (text t) = is_found (pattern_in source) t
fits _ _ = true
