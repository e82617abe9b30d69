-- The texts of the patterns that are searched for, by numbers.
use Rattle.std.specs.Prelude.{◌≡◌, ◌<◌, ℕ, List, [], length, map, slice_index_or, Bool, false, true, is_some, ⊤}
use Rattle.std.specs.List.{list_all, list_any}
use Rattle.regex.specs.Strings.{regex_source}
use Rattle.schema_pattern.specs.Patterns.{pattern_in, is_found}
use Rattle.schema_pattern.specs.declared.pattern.Pattern.{Pattern}
use Rattle.schema_pattern.specs.declared.pattern.Search.{Search}
use Rattle.schema_pattern.specs.declared.fault.PatternFault.{PatternFault}
use Rattle.schema_pattern.specs.declared.fault.PatternFault.TheVariants.{Form, Large, Memory}

abbrev pub sources : List Search → List (List ℕ)
sources = map (λ s. s.source.now)

-- the text of that number, empty past the last
abbrev pub source_at : List (List ℕ) → ℕ → List ℕ
source_at ts n = slice_index_or ts n []

-- some of the patterns is found in the text
abbrev pub some_found : List (List ℕ) → List ℕ → Bool
some_found ps t = list_any (λ p. is_found (pattern_in p) t) ps

-- ---- patterns that were read

abbrev pub pattern_sources : List Pattern → List (List ℕ)
pattern_sources = map (λ p. regex_source p.regex)

-- each of the texts is a pattern
abbrev pub are_patterns : List (List ℕ) → Bool
are_patterns ts = list_all (λ t. is_some (pattern_in t)) ts

-- What a refusal says of texts: some is no pattern; or each is one, there are some, and their tables are too large.
abbrev pub AreFaultOf : List (List ℕ) → PatternFault → Type 0
AreFaultOf ts Form = are_patterns ts ≡ false
AreFaultOf ts Large = (are_patterns ts ≡ true) × (0 < length ts)
AreFaultOf ts Memory = ⊤
