-- The numbers of transactions that come after a change rise.
use Rattle.std.proofs.Common.{◌≡◌, ◌<◌, ◌-◌, ℕ, Bool, true, false, cond, List, [], ◌∷◌, length, nat_eq, nat_le, Option, None, Some, option_map, IfSome, refl, sym, subst}
use Rattle.std.proofs.lemmas.Bool.{eqb-true}
use Rattle.change_history.specs.History.{Rises, Told, first_within, since, within}

rises_within : (most from : ℕ) (told : List Told) → Rises from told → Rises from (within most told)
rises_within most from [] rise = tt
rises_within most from (t ∷ ts) rise =
    let more = rises_within (most - length t.frames) t.last ts rise.1 in
    elim (nat_le (length t.frames) most) as (λ b. Rises from (cond b (t ∷ within (most - length t.frames) ts) [])) [ true ↦ (rise.0, more) | false ↦ tt ]

rises_first : (most from : ℕ) (told : List Told) → Rises from told → Rises from (first_within most told)
rises_first most from [] rise = tt
rises_first most from (t ∷ ts) rise = (rise.0, rises_within (most - length t.frames) t.last ts rise.1)

rises_since : (floor : ℕ) (told : List Told) (from : ℕ) (rest : List Told) → Rises floor told → since floor told from ≡ Some rest → Rises from rest
rises_since floor [] from rest rise is = go (nat_eq from floor) is
  where
    go : (b : Bool) → cond b (Some []) None ≡ Some rest → Rises from rest
    go true is = let same : [] ≡ rest = cc is in subst (Rises from) same tt
    go false is = absurd (cc is)
rises_since floor (t ∷ ts) from rest rise is = go (nat_eq from floor) refl is (λ later. rises_since t.last ts from rest rise.1 later)
  where
    go : (b : Bool) → nat_eq from floor ≡ b → cond b (Some (t ∷ ts)) (since t.last ts from) ≡ Some rest → (since t.last ts from ≡ Some rest → Rises from rest) → Rises from rest
    go true e is later =
        let same : t ∷ ts ≡ rest = cc is in
        subst (Rises from) same (subst (λ (n : ℕ). Rises n (t ∷ ts)) (sym (eqb-true from floor e)) rise)
    go false e is later = later is

-- so do those of the first of them
pub rises_told : {A : Type 0} (f : A → List Told) (o : Option A) (floor : ℕ) (told : List Told) (from most : ℕ) → Rises floor told → option_map f o ≡ option_map (first_within most) (since floor told from) → IfSome o (λ x. Rises from (f x))
rises_told f None floor told from most rise is = tt
rises_told f (Some x) floor told from most rise is = go (since floor told from) refl is
  where
    go : (s : Option (List Told)) → since floor told from ≡ s → Some (f x) ≡ option_map (first_within most) s → Rises from (f x)
    go None e is = absurd (cc is)
    go (Some rest) e is =
        let same : f x ≡ first_within most rest = cc is in
        subst (Rises from) (sym same) (rises_first most from rest (rises_since floor told from rest rise e))
