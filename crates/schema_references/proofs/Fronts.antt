-- A text without its front, or without its end.
use Rattle.std.proofs.Common.{◌≡◌, ◌≢◌, ℕ, ◌+◌, ◌==◌, List, [], ◌∷◌, ◌++◌, length, drop, Bool, true, false, if◌then◌else◌, Option, Some, None, option_map, MatchOption, IsCharBoundary, Bor, refl, sym, ap, subst, ◌∙◌, eqb-true}
use Rattle.std.specs.Str.Pattern.{LacksTextAt}
use Rattle.std.proofs.lemmas.Bool.{eq-eqb}
use Rattle.schema_rules.specs.EarlierReferences.{without_front}
use Rattle.schema_rules.specs.Fragments.{without_hash}
use Rattle.schema_references.proofs.Kept.{without_is}

without_of : (f t : List ℕ) → without_front f (f ++ t) ≡ Some t
without_of [] t = refl
without_of (c ∷ f) t = ap (λ b. if b then without_front f (f ++ t) else None) (eq-eqb c c refl) ∙ without_of f t

pub front_is : (f s : List ℕ) (r : Option (Bor (List ℕ))) → MatchOption r (LacksTextAt f s 0) (λ x. (k : ℕ) × ((k ≡ length f) × (s ≡ f ++ drop k s) × IsCharBoundary s (length f)) × (x.now ≡ drop k s) × (length x.now + k ≡ length s)) → option_map (λ x. x.now) r ≡ without_front f s
front_is f s (Some x) h = ap (λ t. Some t) h.2 ∙ sym (without_of f (drop h.0 s)) ∙ ap (without_front f) (sym h.1.1)
front_is f s None h = by_front (without_front f s) refl
  where
    by_front : (o : Option (List ℕ)) → without_front f s ≡ o → None ≡ o
    by_front None e = refl
    by_front (Some t) e = absurd (h t (without_is f s t e))

-- ---- an empty fragment at the end

hash_last : (x : List ℕ) → without_hash (x ++ 35 ∷ []) ≡ x
hash_last [] = refl
hash_last (c ∷ []) = refl
hash_last (c ∷ d ∷ x) = ap (λ l. c ∷ l) (hash_last (d ∷ x))

hash_none : (s : List ℕ) → ((front : List ℕ) → s ≢ front ++ 35 ∷ []) → s ≡ without_hash s
hash_none [] none = refl
hash_none (c ∷ []) none = by_test (c == 35) refl
  where
    by_test : (b : Bool) → (c == 35) ≡ b → c ∷ [] ≡ (if b then [] else c ∷ [])
    by_test false e = refl
    by_test true e = absurd (none [] (ap (λ x. x ∷ []) (eqb-true c 35 e)))
hash_none (c ∷ d ∷ s) none = ap (λ l. c ∷ l) (hash_none (d ∷ s) (λ front e. none (c ∷ front) (ap (λ l. c ∷ l) e)))

pub if_some : (s : List ℕ) (r : Option (Bor (List ℕ))) (x : Bor (List ℕ)) → MatchOption r ((front : List ℕ) → s ≢ front ++ 35 ∷ []) (λ x. s ≡ x.now ++ 35 ∷ []) → r ≡ Some x → x.now ≡ without_hash s
if_some s None x h e = absurd cc
if_some s (Some y) x h e =
    let same : y ≡ x = cc in
    sym (hash_last x.now) ∙ ap without_hash (sym (subst (λ z. s ≡ z.now ++ 35 ∷ []) same h))

pub if_none : (s : List ℕ) (r : Option (Bor (List ℕ))) → MatchOption r ((front : List ℕ) → s ≢ front ++ 35 ∷ []) (λ x. s ≡ x.now ++ 35 ∷ []) → r ≡ None → s ≡ without_hash s
if_none s None h e = hash_none s h
if_none s (Some y) h e = absurd cc
