-- Patterns that were read, or that are too large.
use Rattle.std.proofs.Common.{◌≡◌, ℕ, ◌<◌, List, Option, None, Some, MatchOption, Vec, Global, subst, ◌∙◌}
use Rattle.schema_pattern.specs.Tables.{pattern_sources}
use Rattle.schema_pattern.specs.declared.pattern.Pattern.{Pattern}

-- the same of equal texts
pub found_of : (o : Option (Vec Pattern Global)) (n m : ℕ) (ts us : List (List ℕ)) → n ≡ m → ts ≡ us
    → MatchOption o (0 < n) (λ ps. pattern_sources ps.items ≡ ts) → MatchOption o (0 < m) (λ ps. pattern_sources ps.items ≡ us)
found_of None n m ts us count same some = subst (λ k. 0 < k) count some
found_of (Some ps) n m ts us count same are = are ∙ same

-- patterns that are too large are of some text
pub some_of : (o : Option (Vec Pattern Global)) (n : ℕ) (us : List (List ℕ)) → MatchOption o (0 < n) (λ ps. pattern_sources ps.items ≡ us) → o ≡ None → 0 < n
some_of None n us some none = some
some_of (Some ps) n us are none = absurd (cc none)

-- and others are those of the texts
pub sources_of : (o : Option (Vec Pattern Global)) (ps : Vec Pattern Global) (n : ℕ) (us : List (List ℕ)) → MatchOption o (0 < n) (λ ps. pattern_sources ps.items ≡ us) → o ≡ Some ps → pattern_sources ps.items ≡ us
sources_of None ps n us some is = absurd (cc is)
sources_of (Some qs) ps n us are is = let same : qs ≡ ps = cc is in subst (λ (v : Vec Pattern Global). pattern_sources v.items ≡ us) same are
