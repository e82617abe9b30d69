-- Where a pointer's text is cut.
use Rattle.std.proofs.Common.{inl, inr, ◌≡◌, ◌≢◌, ℕ, ◌<◌, List, [], ◌∷◌, ◌++◌, length, get_or, drop, refl, sym, ap, ap₂, ◌∙◌, subst, arith, append_assoc, append-nil, Result, Ok, Err, IfErr, IsErrAnd}
use Rattle.std.specs.Prelude.{⊤}
use Rattle.doc_pointer.specs.Lacks.{Lacks}
use Rattle.doc_pointer.specs.Fault.{IsFaultOf, IsTokenFaultOf}
use Rattle.doc_pointer.specs.Text.{escaped, pointer_text}
use Rattle.doc_pointer.specs.declared.fault.PointerFault.{PointerFault}
use Rattle.doc_pointer.proofs.Escapes.{lacks_tail, lacks-escaped, escaped_injective}

-- nothing, or what begins at a slash
abbrev pub StartsPart : List ℕ → Type 0
StartsPart [] = ⊤
StartsPart (x ∷ xs) = x ≡ 47

pub starts_part : (ks : List (List ℕ)) → StartsPart (pointer_text ks)
starts_part [] = tt
starts_part (k ∷ ks) = refl

pub starts_part_before : (ks : List (List ℕ)) (xs : List ℕ) → StartsPart xs → StartsPart (pointer_text ks ++ xs)
starts_part_before [] xs h = h
starts_part_before (k ∷ ks) xs h = refl

-- two texts that are cut at their first slash
pub cut : (a b x y : List ℕ) → Lacks 47 a → Lacks 47 b → StartsPart x → StartsPart y → a ++ x ≡ b ++ y → (a ≡ b) × (x ≡ y)
cut [] [] x y la lb sx sy e = (refl, e)
cut [] (d ∷ b) x y la lb sx sy e = absurd (lb 0 (omega arith) (subst StartsPart e sx))
cut (c ∷ a) [] x y la lb sx sy e = absurd (la 0 (omega arith) (subst StartsPart (sym e) sy))
cut (c ∷ a) (d ∷ b) x y la lb sx sy e =
    let heads : c ≡ d = ap (λ l. get_or l 0 0) e in
    let rest = cut a b x y (lacks_tail 47 c a la) (lacks_tail 47 d b lb) sx sy (ap (λ l. drop 1 l) e) in
    (ap₂ (λ u v. u ∷ v) heads rest.0, rest.1)

pub pointer_text_injective : (ks ls : List (List ℕ)) → pointer_text ks ≡ pointer_text ls → ks ≡ ls
pointer_text_injective [] [] e = refl
pointer_text_injective [] (l ∷ ls) e = absurd cc
pointer_text_injective (k ∷ ks) [] e = absurd cc
pointer_text_injective (k ∷ ks) (l ∷ ls) e =
    let parts = cut (escaped k) (escaped l) (pointer_text ks) (pointer_text ls) (lacks-escaped k) (lacks-escaped l) (starts_part ks) (starts_part ls) (ap (λ t. drop 1 t) e) in
    ap₂ (λ u v. u ∷ v) (escaped_injective k l parts.0) (pointer_text_injective ks ls parts.1)

pub pointer_text-append : (ks ls : List (List ℕ)) → pointer_text (ks ++ ls) ≡ pointer_text ks ++ pointer_text ls
pointer_text-append [] ls = refl
pointer_text-append (k ∷ ks) ls = ap (λ t. 47 ∷ (escaped k ++ t)) (pointer_text-append ks ls) ∙ ap (λ t. 47 ∷ t) (sym (append_assoc (escaped k) (pointer_text ks) (pointer_text ls)))

-- a part that is no token spoils the text
pub no_text : (done ks : List (List ℕ)) (p y : List ℕ) → Lacks 47 p → StartsPart y → ((k : List ℕ) → escaped k ≢ p) → pointer_text ks ≢ pointer_text done ++ 47 ∷ (p ++ y)
no_text [] [] p y lp sy none e = absurd cc
no_text [] (k ∷ ks) p y lp sy none e =
    none k (cut (escaped k) p (pointer_text ks) y (lacks-escaped k) lp (starts_part ks) sy (ap (λ t. drop 1 t) e)).0
no_text (d ∷ done) [] p y lp sy none e = absurd cc
no_text (d ∷ done) (k ∷ ks) p y lp sy none e =
    let more = 47 ∷ (p ++ y) in
    let tails : escaped k ++ pointer_text ks ≡ escaped d ++ (pointer_text done ++ more) = ap (λ t. drop 1 t) e ∙ append_assoc (escaped d) (pointer_text done) more in
    let rest = cut (escaped k) (escaped d) (pointer_text ks) (pointer_text done ++ more) (lacks-escaped k) (lacks-escaped d) (starts_part ks) (starts_part_before done more refl) tails in
    no_text done ks p y lp sy none rest.1

-- ---- reading a text: `done` has been read, and `rest` is left of `text`

pushed : (done : List (List ℕ)) (k : List ℕ) → pointer_text (done ++ k ∷ []) ≡ pointer_text done ++ 47 ∷ escaped k
pushed done k = pointer_text-append done (k ∷ []) ∙ ap (λ l. pointer_text done ++ 47 ∷ l) (append-nil (escaped k))

pub text_grows : (done : List (List ℕ)) (k part more rest text : List ℕ) → rest ≡ part ++ 47 ∷ more → escaped k ≡ part → pointer_text done ++ 47 ∷ rest ≡ text → pointer_text (done ++ k ∷ []) ++ 47 ∷ more ≡ text
text_grows done k part more rest text is token held =
    ap (λ l. l ++ 47 ∷ more) (pushed done k) ∙ append_assoc (pointer_text done) (47 ∷ escaped k) (47 ∷ more) ∙ ap (λ l. pointer_text done ++ 47 ∷ l) (ap (λ l. l ++ 47 ∷ more) token ∙ sym is) ∙ held

pub text_ends : (done : List (List ℕ)) (k rest text : List ℕ) → escaped k ≡ rest → pointer_text done ++ 47 ∷ rest ≡ text → pointer_text (done ++ k ∷ []) ≡ text
text_ends done k rest text token held = pushed done k ∙ ap (λ l. pointer_text done ++ 47 ∷ l) token ∙ held

pub no_slash : (text : List ℕ) → 0 < length text → ((rest : List ℕ) → text ≢ 47 ∷ rest) → (ks : List (List ℕ)) → pointer_text ks ≢ text
no_slash text some h [] e = absurd (omega (arith, some, ap length e))
no_slash text some h (k ∷ ks) e = h (escaped k ++ pointer_text ks) (sym e)

-- a fault of a part is one of the text
pub fault_within : (done : List (List ℕ)) (part more rest text : List ℕ) (e : PointerFault) → Lacks 47 part → rest ≡ part ++ 47 ∷ more → pointer_text done ++ 47 ∷ rest ≡ text → IsTokenFaultOf part e → IsFaultOf text e
fault_within done part more rest text e lp is held (inl none) = inl (none.0, λ ks f. no_text done ks part (47 ∷ more) lp refl none.1 (f ∙ sym held ∙ ap (λ l. pointer_text done ++ 47 ∷ l) is))
fault_within done part more rest text e lp is held (inr memory) = inr memory

pub fault_at_end : (done : List (List ℕ)) (rest text : List ℕ) (e : PointerFault) → Lacks 47 rest → pointer_text done ++ 47 ∷ rest ≡ text → IsTokenFaultOf rest e → IsFaultOf text e
fault_at_end done rest text e lr held (inl none) = inl (none.0, λ ks f. no_text done ks rest [] lr tt none.1 (f ∙ sym held ∙ ap (λ l. pointer_text done ++ 47 ∷ l) (sym (append-nil rest))))
fault_at_end done rest text e lr held (inr memory) = inr memory

-- an error that `?` hands on as it is
pub err_same : {A E : Type 0} (r : Result A E) (e : E) (P : E → Type 0) → P e → IsErrAnd r (λ d. d ≡ e) → IfErr r P
err_same (Ok a) e P p h = tt
err_same (Err d) e P p h = subst P (sym h) p
