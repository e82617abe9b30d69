-- What a step of reading says.
use Rattle.std.proofs.Common.{◌≡◌, ℕ, Bool, true, false, cond, eqb, List, [], ◌∷◌, ◌++◌, Option, Some, None, ◌⊎◌, inl, inr, refl, ap, subst, ◌∙◌}
use Rattle.std.proofs.lemmas.Bool.{eqb-true}
use Rattle.path_grammar.specs.Characters.{Text, is_blank, Blanks, no_blank, blank}
use Rattle.path_grammar.specs.Reading.{◌>>=◌, on, after_character, skip, after_word, after_doubled}

pub bind_some : {A B : Type 0} (o : Option A) (f : A → Option B) (y : B) → (o >>= f) ≡ Some y → (x : A) × (o ≡ Some x) × (f x ≡ Some y)
bind_some None f y e = absurd cc
bind_some (Some x) f y e = (x, refl, e)

pub on_cases : {A B : Type 0} (o : Option A) (f : A → B) (d z : B) → on o f d ≡ z → ((x : A) × (o ≡ Some x) × (f x ≡ z)) ⊎ ((o ≡ None) × (d ≡ z))
on_cases None f d z e = inr (refl, e)
on_cases (Some x) f d z e = inl (x, refl, e)

pub chosen : {A : Type 0} (b : Bool) (x y z : A) → cond b x y ≡ z → ((b ≡ true) × (x ≡ z)) ⊎ ((b ≡ false) × (y ≡ z))
chosen true x y z e = inl (refl, e)
chosen false x y z e = inr (refl, e)

pub guarded : {A : Type 0} (b : Bool) (x : Option A) (y : A) → cond b x None ≡ Some y → (b ≡ true) × (x ≡ Some y)
guarded true x y e = (refl, e)
guarded false x y e = absurd cc

abbrev one : {A : Type 0} → A → Option A
one x = Some x

pub some_is : {A : Type 0} (x y : A) → one x ≡ one y → x ≡ y
some_is x y e = cc

pub none_is : {A B : Type 0} (y : A) → one y ≡ None → B
none_is y e = absurd cc

pub none_some : {A B : Type 0} (y : A) → None ≡ one y → B
none_some y e = absurd cc

pub at_is : (c : ℕ) (t r : Text) → after_character c t ≡ Some r → t ≡ c ∷ r
at_is c [] r e = absurd cc
at_is c (d ∷ t) r e = let g = guarded (eqb d c) (Some t) r e in let same = eqb-true d c g.0 in cc

blank_step : (c : ℕ) (t : Text) (b : Bool) → is_blank c ≡ b → Blanks t (skip t) → Blanks (c ∷ t) (cond b (skip t) (c ∷ t))
blank_step c t true e more = blank e more
blank_step c t false e more = no_blank

pub skip_blanks : (t : Text) → Blanks t (skip t)
skip_blanks [] = no_blank
skip_blanks (c ∷ t) = blank_step c t (is_blank c) refl (skip_blanks t)

pub word_is : (w : List ℕ) (t r : Text) → after_word w t ≡ Some r → t ≡ w ++ r
word_is [] t r e = some_is t r e
word_is (c ∷ []) t r e = at_is c t r e
word_is (c ∷ d ∷ w) t r e =
    let b = bind_some (after_character c t) (after_word (d ∷ w)) r e in
    at_is c t b.0 b.1 ∙ ap (λ x. c ∷ x) (word_is (d ∷ w) b.0 r b.2)

pub skipped : (c : ℕ) (t r : Text) → after_character c (skip t) ≡ Some r → Blanks t (c ∷ r)
skipped c t r e = subst (Blanks t) (at_is c (skip t) r e) (skip_blanks t)

pub doubled_is : (c : ℕ) (t u : Text) → after_doubled c t ≡ Some u → t ≡ c ∷ c ∷ u
doubled_is c t u e =
    let b = bind_some (after_character c t) (after_character c) u e in
    at_is c t b.0 b.1 ∙ ap (λ w. c ∷ w) (at_is c b.0 u b.2)
