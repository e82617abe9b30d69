-- The pattern that a text is, and the texts in which it is found (JSON Schema Validation, section 6.3.3): some part of a
-- text matches, since a pattern isn't anchored. The syntax and the meaning are those of Rust's regular expressions.
use Rattle.std.specs.Prelude.{◌≡◌, ◌<◌, ℕ, nat_le, List, Bool, false, true, ⊤, Option, Some, None, is_some, chars, slice_index_or, if◌then◌else◌}
use Rattle.regex.specs.declared.error.Error.{Error}
use Rattle.regex.specs.declared.error.Error.TheVariants.{Syntax, CompiledTooBig, Internal, OutOfMemory}
use Rattle.regex_hir.specs.Find.{find_str}
use Rattle.regex_hir.specs.Re.{Re}
use Rattle.regex_syntax.specs.Brackets.{Nested}
use Rattle.regex_syntax.specs.Grammar.{Names, read}
use Rattle.regex_syntax.specs.Verdict.{default_config}
use Rattle.regex_syntax.specs.declared.error.Error as parser
use Rattle.schema_pattern.specs.declared.fault.PatternFault.{PatternFault}
use Rattle.schema_pattern.specs.declared.fault.PatternFault.TheVariants.{Form, Large, Memory}

-- a pattern that nests no deeper than so
abbrev pub within : ℕ → Option (Nested Re × Names) → Option Re
within most None = None
within most (Some found) = if nat_le found.0.depth most then Some found.0.value else None

-- the pattern that a text is, if it is one
abbrev pub pattern_in : List ℕ → Option Re
pattern_in source = within 250 (read default_config (chars source))

-- some part of the text matches
abbrev pub is_found : Option Re → List ℕ → Bool
is_found None t = false
is_found (Some re) t = is_some (find_str re t 0)

-- What a refusal says of a text: it is no pattern, or it is one whose tables are too large. How large they are the kit
-- doesn't say. Out of memory says nothing.
abbrev pub IsFaultOf : List ℕ → PatternFault → Type 0
IsFaultOf source Form = pattern_in source ≡ None
IsFaultOf source Large = is_some (pattern_in source) ≡ true
IsFaultOf source Memory = ⊤

-- ---- for the clauses within the crate

-- the two have matches in the same texts
pub record AreAlike (source : List ℕ) (found : Re) : Type 0 where
  pub as_read : (t : List ℕ) → ((k : ℕ) → slice_index_or t k 0 < 256) → is_some (find_str found t 0) ≡ is_found (pattern_in source) t

-- the fault that the kit's error is: one of syntax, one that only a pattern has, or out of memory
abbrev pub IsFaultFor : Error → PatternFault → Type 0
IsFaultFor (Syntax e) fault = fault ≡ Form
IsFaultFor CompiledTooBig fault = fault ≡ Large
IsFaultFor Internal fault = fault ≡ Large
IsFaultFor OutOfMemory fault = fault ≡ Memory
