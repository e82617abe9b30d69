-- `singular-query-segments` (RFC 9535, section 2.3.5.1) by its own productions. That these are the segments which
-- `SegmentsAt` marks as singular is a law.
use Rattle.std.specs.Prelude.{codes, List, ℕ, ◌++◌, false}
use Rattle.path_grammar.specs.Syntax.{Selector, name_selector, selector, no_selectors, Segments, no_segments, segment}
use Rattle.path_grammar.specs.Characters.{Text, Blanks, Shorthand}
use Rattle.path_grammar.specs.Grammar.{SingularSelectorAt}

-- `*(S (name-segment / index-segment))`
pub data SingularSegmentsAt : Segments → Text → Text → Type 0 where
  singular_end : {t : Text} → SingularSegmentsAt no_segments t t
  -- `"[" name-selector "]"` and `"[" index-selector "]"`
  bracketed_segment : {s : Selector} {more : Segments} {t u v r : Text} → Blanks t (codes "[" ++ u) → SingularSelectorAt s u (codes "]" ++ v) → SingularSegmentsAt more v r → SingularSegmentsAt (segment false (selector s no_selectors) more) t r
  -- `"." member-name-shorthand`
  dotted_segment : {n : List ℕ} {more : Segments} {t u v r : Text} → Blanks t (codes "." ++ u) → Shorthand n u v → SingularSegmentsAt more v r → SingularSegmentsAt (segment false (selector (name_selector n) no_selectors) more) t r
