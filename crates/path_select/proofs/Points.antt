-- Texts by their code points, one after the other.
use Rattle.std.proofs.Common.{◌≡◌, ℕ, ◌==◌, nat_lt, Bool, false, cond, List, [], ◌∷◌, ◌++◌, length, Option, is_some, chars, refl, sym, ap, ap₂, ◌∙◌}
use Rattle.std.proofs.Math.Utf8.{encode}
use Rattle.std.proofs.lemmas.Bool.{ne_eqb, eq-eqb}
use Rattle.std.proofs.lemmas.List.{nil_from_length}
use Rattle.std.proofs.lemmas.Str.{chars_past_char, chars-nil}
use Rattle.std.specs.List.{slice_get}
use Rattle.std.specs.Str.{IsUtf8}
use Rattle.path_select.specs.Comparing.{points_before}

none : (a : List ℕ) → length a ≡ 0 → chars a ≡ []
none a e = ap chars (nil_from_length a e) ∙ chars-nil

module _ (a b : List ℕ) (total : Bool) (u : IsUtf8 a) (v : IsUtf8 b) (so_far : points_before (chars a) (chars b) ≡ total) where
  module _ (x y : ℕ) (more others : List ℕ) (first : a ≡ encode x ++ more) (second : b ≡ encode y ++ others) where
    both : cond (x == y) (points_before (chars more) (chars others)) (nat_lt x y) ≡ total
    both = ap₂ points_before (sym (chars_past_char a more x u first)) (sym (chars_past_char b others y v second)) ∙ so_far

    pub points_on : x ≡ y → points_before (chars more) (chars others) ≡ total
    points_on e = sym (ap (λ t. cond t (points_before (chars more) (chars others)) (nat_lt x y)) (eq-eqb x y e)) ∙ both

    pub points_differ : (x ≡ y → ⊥) → nat_lt x y ≡ total
    points_differ e = sym (ap (λ t. cond t (points_before (chars more) (chars others)) (nat_lt x y)) (ne_eqb x y e)) ∙ both

  pub points_end : (x : ℕ) (more : List ℕ) → a ≡ encode x ++ more → length b ≡ 0 → false ≡ total
  points_end x more first e = ap₂ points_before (sym (chars_past_char a more x u first)) (sym (none b e)) ∙ so_far

  pub points_over : (r : Option ℕ) → length a ≡ 0 → r ≡ slice_get (chars b) 0 → is_some r ≡ total
  points_over r e is = ap is_some is ∙ first (chars b) ∙ ap (λ cs. points_before cs (chars b)) (sym (none a e)) ∙ so_far
    where
      first : (cs : List ℕ) → is_some (slice_get cs 0) ≡ points_before [] cs
      first [] = refl
      first (c ∷ cs) = refl
