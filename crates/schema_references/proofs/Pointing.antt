-- A text is a pointer if it is empty, or begins with a slash and has whole escapes.
use Rattle.std.proofs.Common.{◌≡◌, ◌≢◌, ℕ, ◌==◌, List, [], ◌∷◌, length, Bool, true, false, ◌&&◌, ◌||◌, if◌then◌else◌, Option, Some, None, is_some, option_map, option_and_then, MatchOption, Bor, refl, sym, ap, subst, ◌∙◌, arith, eqb-true, ne_eqb}
use Rattle.doc_pointer.specs.Reading.{unescaped, after_tilde, parts, onto_first, tokens_of, pointer_of}
use Rattle.schema_references.specs.Escapes.{are_whole, has_whole_escapes}

-- each of the parts writes a token
abbrev plain : List (List ℕ) → Bool
plain [] = true
plain (p ∷ ps) = is_some (unescaped p) && is_some (tokens_of ps)

-- the same, if a `~` is before the first
abbrev tilded : List (List ℕ) → Bool
tilded [] = false
tilded (p ∷ ps) = is_some (after_tilde p) && is_some (tokens_of ps)

tokens_plain : (ps : List (List ℕ)) → is_some (tokens_of ps) ≡ plain ps
tokens_plain [] = refl
tokens_plain (p ∷ ps) = both (unescaped p) (tokens_of ps)
  where
    both : (o : Option (List ℕ)) (q : Option (List (List ℕ))) → is_some (option_and_then (λ k. option_map (λ ks. k ∷ ks) q) o) ≡ (is_some o && is_some q)
    both None q = refl
    both (Some k) None = refl
    both (Some k) (Some ks) = refl

mapped_some : (c : ℕ) (o : Option (List ℕ)) → is_some (option_map (λ k. c ∷ k) o) ≡ is_some o
mapped_some c None = refl
mapped_some c (Some k) = refl

-- the parts of a text, beside the text
record AreParted (cs : List ℕ) (ps : List (List ℕ)) : Type 0 where
  some : (p : List ℕ) × (rest : List (List ℕ)) × (ps ≡ p ∷ rest)
  plainly : plain ps ≡ are_whole false cs
  tildedly : tilded ps ≡ are_whole true cs

module _ (c : ℕ) (cs p : List ℕ) (rest : List (List ℕ)) (plainly : plain (p ∷ rest) ≡ are_whole false cs) (tildedly : tilded (p ∷ rest) ≡ are_whole true cs) where
  by_tilde : (b : Bool) → (is_some (if b then after_tilde p else option_map (λ k. c ∷ k) (unescaped p)) && is_some (tokens_of rest)) ≡ are_whole b cs
  by_tilde true = tildedly
  by_tilde false = ap (λ t. t && is_some (tokens_of rest)) (mapped_some c (unescaped p)) ∙ plainly

  by_digit : (a b : Bool) → (c == 48) ≡ a → (c == 49) ≡ b
      → (is_some (if a then option_map (λ k. 126 ∷ k) (unescaped p) else (if b then option_map (λ k. 47 ∷ k) (unescaped p) else None)) && is_some (tokens_of rest)) ≡ ((a || b) && are_whole (c == 126) cs)
  by_digit true b e f = ap (λ t. t && is_some (tokens_of rest)) (mapped_some 126 (unescaped p)) ∙ plainly ∙ ap (λ t. are_whole t cs) (sym (ap (λ x. x == 126) (eqb-true c 48 e)))
  by_digit false true e f = ap (λ t. t && is_some (tokens_of rest)) (mapped_some 47 (unescaped p)) ∙ plainly ∙ ap (λ t. are_whole t cs) (sym (ap (λ x. x == 126) (eqb-true c 49 f)))
  by_digit false false e f = refl

  longer : AreParted (c ∷ cs) (onto_first c (p ∷ rest))
  longer = record { some = (c ∷ p, rest, refl); plainly = by_tilde (c == 126); tildedly = by_digit (c == 48) (c == 49) refl refl }

by_slash : (b : Bool) (c : ℕ) (cs : List ℕ) (ps : List (List ℕ)) → (c == 47) ≡ b → AreParted cs ps → AreParted (c ∷ cs) (if b then [] ∷ ps else onto_first c ps)
by_slash true c cs ps e h =
    let is : c ≡ 47 = eqb-true c 47 e in
    record {
      some = ([], ps, refl);
      plainly = tokens_plain ps ∙ h.plainly ∙ ap (λ t. are_whole t cs) (sym (ap (λ x. x == 126) is));
      tildedly = sym (ap (λ t. t && are_whole (c == 126) cs) (ap (λ x. x == 48 || x == 49) is));
    }
by_slash false c cs ps e h =
    let s = h.some in
    subst (λ l. AreParted (c ∷ cs) (onto_first c l)) (sym s.2) (longer c cs s.0 s.1 (sym (ap plain s.2) ∙ h.plainly) (sym (ap tilded s.2) ∙ h.tildedly))

are_parted : (cs : List ℕ) → AreParted cs (parts cs)
are_parted [] = record { some = ([], [], refl); plainly = refl; tildedly = refl }
are_parted (c ∷ cs) = by_slash (c == 47) c cs (parts cs) refl (are_parted cs)

-- what follows the first slash
pub after_slash : (s t u : List ℕ) (b : Bool) → s ≡ 47 ∷ t → u ≡ t → b ≡ has_whole_escapes u → b ≡ is_some (pointer_of s)
after_slash s t u b is same e = e ∙ ap (are_whole false) same ∙ sym (tokens_plain (parts t) ∙ (are_parted t).plainly) ∙ ap (λ l. is_some (pointer_of l)) (sym is)

pub no_slash : (s : List ℕ) → ((rest : List ℕ) → s ≢ 47 ∷ rest) → (length s == 0) ≡ is_some (pointer_of s)
no_slash [] none = refl
no_slash (c ∷ cs) none = by_first (c == 47) refl
  where
    by_first : (b : Bool) → (c == 47) ≡ b → (length (c ∷ cs) == 0) ≡ is_some (if b then tokens_of (parts cs) else None)
    by_first true e = absurd (none cs (ap (λ x. x ∷ cs) (eqb-true c 47 e)))
    by_first false e = ne_eqb (length (c ∷ cs)) 0 (λ n. omega (arith, n))

-- what a search for the slash in front found
pub if_slash : (s : List ℕ) (r : Option (Bor (List ℕ))) (x : Bor (List ℕ)) → MatchOption r ((rest : List ℕ) → s ≢ 47 ∷ rest) (λ y. s ≡ 47 ∷ y.now) → r ≡ Some x → s ≡ 47 ∷ x.now
if_slash s None x h e = absurd cc
if_slash s (Some y) x h e = let same : y ≡ x = cc in subst (λ z. s ≡ 47 ∷ z.now) same h

pub if_no_slash : (s : List ℕ) (r : Option (Bor (List ℕ))) → MatchOption r ((rest : List ℕ) → s ≢ 47 ∷ rest) (λ y. s ≡ 47 ∷ y.now) → r ≡ None → (length s == 0) ≡ is_some (pointer_of s)
if_no_slash s None h e = no_slash s h
if_no_slash s (Some y) h e = absurd cc

pub none_if : (o : Option (List (List ℕ))) → is_some o ≡ false → None ≡ o
none_if None e = refl
none_if (Some ks) e = absurd cc
