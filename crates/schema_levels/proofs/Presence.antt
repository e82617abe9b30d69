-- Names with the numbers of their nodes, one after the other.
use Rattle.std.proofs.Common.{◌≡◌, ◌⊎◌, inl, inr, ℕ, List, [], ◌∷◌, map, length, Bool, true, not, ◌&&◌, ◌||◌, is_some, String, Global, string_bytes, refl, sym, ap, ap₂, ◌∙◌, arith}
use Rattle.doc_tree.specs.Doc.{Doc, get_member}
use Rattle.schema_rules.specs.Parts.{members_in}
use Rattle.schema_rules.specs.Rules.{where_present}

module _ (t : Doc) (f : ℕ → Bool) where
  abbrev pub presence : List (String Global) → List ℕ → Bool
  presence ks js = where_present (map string_bytes ks) t (map f js)

  -- the next one is present or not, and passes or not
  pub present_next : (k : String Global) (n : List ℕ) (j : ℕ) (ks left-ks : List (String Global)) (js left-js : List ℕ) (m b : Bool) → ks ≡ k ∷ left-ks → js ≡ j ∷ left-js → n ≡ string_bytes k → m ≡ is_some (get_member n (members_in t)) → b ≡ f j
      → presence ks js ≡ ((not m || b) && presence left-ks left-js)
  present_next k n j ks left-ks js left-js m b e g h i l =
      ap₂ presence e g ∙ ap₂ (λ x y. (not x || y) && presence left-ks left-js) (sym (i ∙ ap (λ s. is_some (get_member s (members_in t))) h)) (sym l)

  -- one of the lists is at its end
  pub none_present : (ks : List (String Global)) (js : List ℕ) → (length ks ≡ 0) ⊎ (length js ≡ 0) → true ≡ presence ks js
  none_present [] js h = refl
  none_present (k ∷ ks) [] h = refl
  none_present (k ∷ ks) (j ∷ js) (inl e) = absurd (omega (arith, e))
  none_present (k ∷ ks) (j ∷ js) (inr e) = absurd (omega (arith, e))
