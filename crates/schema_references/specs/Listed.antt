-- For the clauses within the crate: texts of which each is kept once.
use Rattle.std.specs.Prelude.{◌≡◌, ℕ, List, Bool, String}
use Rattle.std.specs.BTreeSet.{BTreeSet, contains_text}
use Rattle.std.specs.List.{list_any}
use Rattle.std.specs.Str.{bytes_eq}
use Rattle.std.specs.declared.alloc.Global.{Global}
use Rattle.schema_rules.specs.Anchors.{are_different}

-- the text is one of these
abbrev pub is_among : List (List ℕ) → List ℕ → Bool
is_among names s = list_any (bytes_eq s) names

-- the same texts are kept, and it is known whether no two were equal
pub record HasAll (names : List (List ℕ)) (kept : BTreeSet (String Global)) (different : Bool) : Type 0 where
  pub same : (s : List ℕ) → contains_text kept s ≡ is_among names s
  pub known : different ≡ are_different names
