-- What is read of a text, beside what is written of tokens.
use Rattle.std.proofs.Common.{◌≡◌, ◌≢◌, ℕ, suc, ◌==◌, List, [], ◌∷◌, ◌++◌, length, drop, Bool, true, false, if◌then◌else◌, Option, Some, None, option_map, option_and_then, refl, sym, ap, ap₂, ◌∙◌, arith, eqb-true, ne_eqb}
use Rattle.doc_pointer.specs.Lacks.{Lacks}
use Rattle.doc_pointer.specs.Text.{escaped, pointer_text}
use Rattle.doc_pointer.specs.Reading.{unescaped, after_tilde, parts, onto_first, tokens_of, pointer_of}
use Rattle.doc_pointer.proofs.Escapes.{lacks_tail, lacks_cons, lacks-escaped, unescaped-escaped}

-- ---- from tokens to text and back

onto_first_part : (c : ℕ) (p : List ℕ) (ps qs : List (List ℕ)) → qs ≡ p ∷ ps → onto_first c qs ≡ (c ∷ p) ∷ ps
onto_first_part c p ps qs e = ap (onto_first c) e

parts_ends : (a : List ℕ) → Lacks 47 a → parts (a ++ []) ≡ a ∷ []
parts_ends [] h = refl
parts_ends (c ∷ a) h = rw (ne_eqb c 47 (h 0 (omega arith))) (onto_first_part c a [] _ (parts_ends a (lacks_tail 47 c a h)))

parts_slash : (a xs : List ℕ) → Lacks 47 a → parts (a ++ 47 ∷ xs) ≡ a ∷ parts xs
parts_slash [] xs h = refl
parts_slash (c ∷ a) xs h = rw (ne_eqb c 47 (h 0 (omega arith))) (onto_first_part c a (parts xs) _ (parts_slash a xs (lacks_tail 47 c a h)))

first_token : (k : List ℕ) (ps : List (List ℕ)) (ks : List (List ℕ)) → tokens_of ps ≡ Some ks → tokens_of (escaped k ∷ ps) ≡ Some (k ∷ ks)
first_token k ps ks e = rw (unescaped-escaped k, e) refl

tokens_of-written : (k : List ℕ) (ks : List (List ℕ)) → tokens_of (parts (escaped k ++ pointer_text ks)) ≡ Some (k ∷ ks)
tokens_of-written k [] = ap tokens_of (parts_ends (escaped k) (lacks-escaped k)) ∙ first_token k [] [] refl
tokens_of-written k (l ∷ ks) = ap tokens_of (parts_slash (escaped k) (escaped l ++ pointer_text ks) (lacks-escaped k)) ∙ first_token k (parts (escaped l ++ pointer_text ks)) (l ∷ ks) (tokens_of-written l ks)

pointer_of_written : (ks : List (List ℕ)) → pointer_of (pointer_text ks) ≡ Some ks
pointer_of_written [] = refl
pointer_of_written (k ∷ ks) = tokens_of-written k ks

pub pointer_of-pointer_text : (text : List ℕ) (ks : List (List ℕ)) → pointer_text ks ≡ text → pointer_of text ≡ Some ks
pointer_of-pointer_text text ks e = ap pointer_of (sym e) ∙ pointer_of_written ks

-- ---- from text to tokens and back

-- what an option was made from
mapped : {A B : Type 0} (f : A → B) (o : Option A) (b : B) → option_map f o ≡ Some b → (a : A) × (o ≡ Some a) × (b ≡ f a)
mapped f None b h = absurd (cc)
mapped f (Some a) b h = (a, refl, cc)

escaped_plain_byte : (c : ℕ) (k : List ℕ) → (c == 126) ≡ false → c ≢ 47 → escaped (c ∷ k) ≡ c ∷ escaped k
escaped_plain_byte c k n m = rw (n, ne_eqb c 47 m) refl

-- what is read after a `~` is written back, by the digit there
digit_back : (a b : Bool) (d : ℕ) (cs k : List ℕ) → (d == 48) ≡ a → (d == 49) ≡ b → ((l : List ℕ) → unescaped cs ≡ Some l → escaped l ≡ cs)
    → (if a then option_map (λ l. 126 ∷ l) (unescaped cs) else (if b then option_map (λ l. 47 ∷ l) (unescaped cs) else None)) ≡ Some k → escaped k ≡ 126 ∷ d ∷ cs
digit_back true b d cs k e f back h =
    let m = mapped (λ l. 126 ∷ l) (unescaped cs) k h in
    ap escaped m.2 ∙ ap (λ l. 126 ∷ 48 ∷ l) (back m.0 m.1) ∙ ap (λ x. 126 ∷ x ∷ cs) (sym (eqb-true d 48 e))
digit_back false true d cs k e f back h =
    let m = mapped (λ l. 47 ∷ l) (unescaped cs) k h in
    ap escaped m.2 ∙ ap (λ l. 126 ∷ 49 ∷ l) (back m.0 m.1) ∙ ap (λ x. 126 ∷ x ∷ cs) (sym (eqb-true d 49 f))
digit_back false false d cs k e f back h = absurd cc

tilde_back : (cs k : List ℕ) → ((d : ℕ) (es l : List ℕ) → cs ≡ d ∷ es → unescaped es ≡ Some l → escaped l ≡ es) → after_tilde cs ≡ Some k → escaped k ≡ 126 ∷ cs
tilde_back [] k back h = absurd cc
tilde_back (d ∷ es) k back h = digit_back (d == 48) (d == 49) d es k refl refl (λ l. back d es l refl) h

byte_back : (a : Bool) (c : ℕ) (cs k : List ℕ) → (c == 126) ≡ a → c ≢ 47 → ((l : List ℕ) → unescaped cs ≡ Some l → escaped l ≡ cs)
    → ((d : ℕ) (es l : List ℕ) → cs ≡ d ∷ es → unescaped es ≡ Some l → escaped l ≡ es)
    → (if a then after_tilde cs else option_map (λ l. c ∷ l) (unescaped cs)) ≡ Some k → escaped k ≡ c ∷ cs
byte_back true c cs k e n here later h = tilde_back cs k later h ∙ ap (λ x. x ∷ cs) (sym (eqb-true c 126 e))
byte_back false c cs k e n here later h =
    let m = mapped (λ l. c ∷ l) (unescaped cs) k h in
    ap escaped m.2 ∙ escaped_plain_byte c m.0 e n ∙ ap (λ l. c ∷ l) (here m.0 m.1)

-- what is read as a token is that token written
unescaped_back : (p k : List ℕ) → Lacks 47 p → unescaped p ≡ Some k → escaped k ≡ p
unescaped_back [] k h e = let same : [] ≡ k = cc in ap escaped (sym same)
unescaped_back (c ∷ []) k h e = byte_back (c == 126) c [] k refl (h 0 (omega arith)) (λ l f. let same : [] ≡ l = cc in ap escaped (sym same)) (λ d es l g. absurd cc) e
unescaped_back (c ∷ d ∷ es) k h e =
    let tail = lacks_tail 47 c (d ∷ es) h in
    byte_back (c == 126) c (d ∷ es) k refl (h 0 (omega arith)) (λ l f. unescaped_back (d ∷ es) l tail f)
    (λ b fs l g f. let same : es ≡ fs = ap (λ x. drop 1 x) g in unescaped_back es l (lacks_tail 47 d es tail) (ap unescaped same ∙ f) ∙ same) e

-- the parts, each after a slash
abbrev joined : List (List ℕ) → List ℕ
joined [] = []
joined (p ∷ ps) = 47 ∷ (p ++ joined ps)

abbrev AllLack : List (List ℕ) → Type 0
AllLack [] = Unit {0}
AllLack (p ∷ ps) = Lacks 47 p × AllLack ps

record AreParts (cs : List ℕ) (ps : List (List ℕ)) : Type 0 where
  whole : joined ps ≡ 47 ∷ cs
  lack : AllLack ps

longer : (c : ℕ) (cs : List ℕ) (ps : List (List ℕ)) → c ≢ 47 → AreParts cs ps → AreParts (c ∷ cs) (onto_first c ps)
longer c cs [] n h = absurd (let e : 0 ≡ suc (length cs) = ap length h.whole in omega (arith, e))
longer c cs (p ∷ ps) n h = record { whole = ap (λ l. 47 ∷ c ∷ l) (ap (λ l. drop 1 l) h.whole); lack = (lacks_cons 47 c p n (h.lack.0), h.lack.1) }

lacks_nil : Lacks 47 []
lacks_nil i less = absurd (omega arith)

by_slash : (a : Bool) (c : ℕ) (cs : List ℕ) (ps : List (List ℕ)) → (c == 47) ≡ a → AreParts cs ps → AreParts (c ∷ cs) (if a then [] ∷ ps else onto_first c ps)
by_slash true c cs ps e h = record { whole = ap (λ l. 47 ∷ l) h.whole ∙ ap (λ x. 47 ∷ x ∷ cs) (sym (eqb-true c 47 e)); lack = (lacks_nil, h.lack) }
by_slash false c cs ps e h = longer c cs ps (λ is. absurd (grind (arith, is, e))) h

are_parts : (cs : List ℕ) → AreParts cs (parts cs)
are_parts [] = record { whole = refl; lack = (lacks_nil, tt) }
are_parts (c ∷ cs) = by_slash (c == 47) c cs (parts cs) refl (are_parts cs)

first_back : (p : List ℕ) (ps ks : List (List ℕ)) (o : Option (List ℕ)) → unescaped p ≡ o → option_and_then (λ k. option_map (λ ls. k ∷ ls) (tokens_of ps)) o ≡ Some ks → Lacks 47 p
    → ((ls : List (List ℕ)) → tokens_of ps ≡ Some ls → pointer_text ls ≡ joined ps) → pointer_text ks ≡ joined (p ∷ ps)
first_back p ps ks None is e h back = absurd cc
first_back p ps ks (Some k) is e h back =
    let m = mapped (λ ls. k ∷ ls) (tokens_of ps) ks e in
    ap pointer_text m.2 ∙ ap₂ (λ a b. 47 ∷ (a ++ b)) (unescaped_back p k h is) (back m.0 m.1)

tokens_back : (ps ks : List (List ℕ)) → AllLack ps → tokens_of ps ≡ Some ks → pointer_text ks ≡ joined ps
tokens_back [] ks h e = let same : [] ≡ ks = cc in ap pointer_text (sym same)
tokens_back (p ∷ ps) ks h e = first_back p ps ks (unescaped p) refl e h.0 (λ ls. tokens_back ps ls h.1)

from_slash : (a : Bool) (c : ℕ) (cs : List ℕ) (ks : List (List ℕ)) → (c == 47) ≡ a → (if a then tokens_of (parts cs) else None) ≡ Some ks → pointer_text ks ≡ c ∷ cs
from_slash true c cs ks e h = let are = are_parts cs in tokens_back (parts cs) ks are.lack h ∙ are.whole ∙ ap (λ x. x ∷ cs) (sym (eqb-true c 47 e))
from_slash false c cs ks e h = absurd cc

-- what is read as a pointer is that pointer written
pub pointer_of-Some : (text : List ℕ) (ks : List (List ℕ)) → pointer_of text ≡ Some ks → pointer_text ks ≡ text
pointer_of-Some [] ks e = let same : [] ≡ ks = cc in ap pointer_text (sym same)
pointer_of-Some (c ∷ cs) ks e = from_slash (c == 47) c cs ks refl e
