-- A token and how it is written.
use Rattle.std.proofs.Common.{◌≡◌, ◌≢◌, ℕ, zero, suc, ◌<◌, ◌==◌, List, [], ◌∷◌, ◌++◌, Bool, true, false, if◌then◌else◌, Some, None, option_map, refl, sym, ap, ap₂, ◌∙◌, subst, arith, append_assoc, append-nil, eqb-true, ne_eqb, encode_utf8}
use Rattle.std.proofs.lemmas.Str.Pattern.{NoCharPasses-char}
use Rattle.doc_pointer.specs.Lacks.{Lacks}
use Rattle.doc_pointer.specs.Reading.{unescaped, after_tilde}
use Rattle.doc_pointer.specs.Text.{escaped_byte, escaped}

-- what a byte is written as, by the tests
abbrev by_tests : Bool → Bool → ℕ → List ℕ
by_tests a b c = if a then 126 ∷ 48 ∷ [] else (if b then 126 ∷ 49 ∷ [] else c ∷ [])

unescaped_by : (a b : Bool) (c : ℕ) (xs : List ℕ) → (c == 126) ≡ a → (c == 47) ≡ b → unescaped (by_tests a b c ++ xs) ≡ option_map (λ k. c ∷ k) (unescaped xs)
unescaped_by true b c xs e f = ap (λ x. option_map (λ k. x ∷ k) (unescaped xs)) (sym (eqb-true c 126 e))
unescaped_by false true c xs e f = ap (λ x. option_map (λ k. x ∷ k) (unescaped xs)) (sym (eqb-true c 47 f))
unescaped_by false false c xs e f = ap (λ t. if t then after_tilde xs else option_map (λ k. c ∷ k) (unescaped xs)) e

unescaped_byte : (c : ℕ) (xs : List ℕ) → unescaped (escaped_byte c ++ xs) ≡ option_map (λ k. c ∷ k) (unescaped xs)
unescaped_byte c xs = unescaped_by (c == 126) (c == 47) c xs refl refl

pub some_over : (t xs k : List ℕ) → unescaped xs ≡ Some k → unescaped (escaped t ++ xs) ≡ Some (t ++ k)
some_over [] xs k h = h
some_over (c ∷ t) xs k h = ap unescaped (append_assoc (escaped_byte c) (escaped t) xs) ∙ unescaped_byte c (escaped t ++ xs) ∙ ap (option_map (λ l. c ∷ l)) (some_over t xs k h)

pub none_over : (t xs : List ℕ) → unescaped xs ≡ None → unescaped (escaped t ++ xs) ≡ None
none_over [] xs h = h
none_over (c ∷ t) xs h = ap unescaped (append_assoc (escaped_byte c) (escaped t) xs) ∙ unescaped_byte c (escaped t ++ xs) ∙ ap (option_map (λ l. c ∷ l)) (none_over t xs h)

pub unescaped-escaped : (k : List ℕ) → unescaped (escaped k) ≡ Some k
unescaped-escaped k = ap unescaped (sym (append-nil (escaped k))) ∙ some_over k [] [] refl ∙ ap Some (append-nil k)

some_injective : (a b : List ℕ) → Some a ≡ Some b → a ≡ b
some_injective a b e = cc

pub escaped_injective : (k l : List ℕ) → escaped k ≡ escaped l → k ≡ l
escaped_injective k l e = some_injective k l (sym (unescaped-escaped k) ∙ ap unescaped e ∙ unescaped-escaped l)

-- a `~` that neither a `0` nor a `1` follows
after_tilde_none : (more : List ℕ) → ((rest : List ℕ) → more ≢ 48 ∷ rest) → ((rest : List ℕ) → more ≢ 49 ∷ rest) → after_tilde more ≡ None
after_tilde_none [] z o = refl
after_tilde_none (d ∷ cs) z o = rw (ne_eqb d 48 (λ e. z cs (ap (λ x. x ∷ cs) e)), ne_eqb d 49 (λ e. o cs (ap (λ x. x ∷ cs) e))) refl

pub not_escaped : (t more : List ℕ) → ((rest : List ℕ) → more ≢ 48 ∷ rest) → ((rest : List ℕ) → more ≢ 49 ∷ rest) → (k : List ℕ) → escaped k ≢ escaped t ++ 126 ∷ more
not_escaped t more z o k e =
    let nothing : unescaped (escaped k) ≡ None = ap unescaped e ∙ none_over t (126 ∷ more) (after_tilde_none more z o) in
    let something : unescaped (escaped k) ≡ Some k = unescaped-escaped k in
    absurd cc

pub escaped-append : (a b : List ℕ) → escaped (a ++ b) ≡ escaped a ++ escaped b
escaped-append [] b = refl
escaped-append (c ∷ a) b = ap (λ l. escaped_byte c ++ l) (escaped-append a b) ∙ sym (append_assoc (escaped_byte c) (escaped a) (escaped b))

pub lacks_tail : (c x : ℕ) (xs : List ℕ) → Lacks c (x ∷ xs) → Lacks c xs
lacks_tail c x xs h = λ i less. h (suc i) (omega arith)

pub lacks_cons : (c x : ℕ) (xs : List ℕ) → x ≢ c → Lacks c xs → Lacks c (x ∷ xs)
lacks_cons c x xs n h zero less = n
lacks_cons c x xs n h (suc i) less = h i (omega arith)

pub escaped_plain : (xs : List ℕ) → Lacks 126 xs → Lacks 47 xs → escaped xs ≡ xs
escaped_plain [] h g = refl
escaped_plain (c ∷ xs) h g = rw (ne_eqb c 126 (h 0 (omega arith)), ne_eqb c 47 (g 0 (omega arith))) (ap (λ l. c ∷ l) (escaped_plain xs (lacks_tail 126 c xs h) (lacks_tail 47 c xs g)))

lacks_by : (a b : Bool) (c : ℕ) (xs : List ℕ) → (c == 47) ≡ b → Lacks 47 xs → Lacks 47 (by_tests a b c ++ xs)
lacks_by true b c xs e h = lacks_cons 47 126 (48 ∷ xs) (omega arith) (lacks_cons 47 48 xs (omega arith) h)
lacks_by false true c xs e h = lacks_cons 47 126 (49 ∷ xs) (omega arith) (lacks_cons 47 49 xs (omega arith) h)
lacks_by false false c xs e h = lacks_cons 47 c xs (λ is. absurd (grind (arith, is, e))) h

-- a written token has no slash
pub lacks-escaped : (k : List ℕ) → Lacks 47 (escaped k)
lacks-escaped [] i less = absurd (omega arith)
lacks-escaped (c ∷ k) i less = lacks_by (c == 126) (c == 47) c (escaped k) refl (lacks-escaped k) i less

-- a character that needs no escape
escaped_char : (c : ℕ) → c ≢ 126 → c ≢ 47 → escaped (encode_utf8 c) ≡ encode_utf8 c
escaped_char c n m =
    let lacks : (d : ℕ) → d < 128 → c ≢ d → Lacks d (encode_utf8 c) = λ d low other i less. NoCharPasses-char d (encode_utf8 c) i (c ∷ [], append-nil (encode_utf8 c), (ne_eqb c d other, tt)) low less in
    escaped_plain (encode_utf8 c) (lacks 126 (omega arith) n) (lacks 47 (omega arith) m)

pub escaped_past : (c : ℕ) (rest : List ℕ) → c ≢ 126 → c ≢ 47 → escaped (encode_utf8 c ++ rest) ≡ encode_utf8 c ++ escaped rest
escaped_past c rest n m = escaped-append (encode_utf8 c) rest ∙ ap (λ l. l ++ escaped rest) (escaped_char c n m)

-- ---- reading a token: `t` has been read, and `rest` is left of `part`

lacks_front : (c : ℕ) (a b : List ℕ) → Lacks c (a ++ b) → Lacks c a
lacks_front c [] b h i less = absurd (omega arith)
lacks_front c (x ∷ a) b h zero less = h 0 (omega arith)
lacks_front c (x ∷ a) b h (suc i) less = lacks_front c a b (lacks_tail c x (a ++ b) h) i (omega arith)

lacks_back : (c : ℕ) (a b : List ℕ) → Lacks c (a ++ b) → Lacks c b
lacks_back c [] b h = h
lacks_back c (x ∷ a) b h = lacks_back c a b (lacks_tail c x (a ++ b) h)

escaped_run : (t plain : List ℕ) → Lacks 126 plain → Lacks 47 plain → escaped (t ++ plain) ≡ escaped t ++ plain
escaped_run t plain h g = escaped-append t plain ∙ ap (λ l. escaped t ++ l) (escaped_plain plain h g)

pub token_grows : (a : ℕ) (t plain after rest part new : List ℕ) → Lacks 126 plain → Lacks 47 rest → rest ≡ plain ++ (escaped_byte a ++ after) → escaped t ++ rest ≡ part → new ≡ (t ++ plain) ++ a ∷ [] → Lacks 47 after × (escaped new ++ after ≡ part)
token_grows a t plain after rest part new h g is held grown =
    let all : Lacks 47 (plain ++ (escaped_byte a ++ after)) = subst (Lacks 47) is g in
    let run : escaped (t ++ plain) ≡ escaped t ++ plain = escaped_run t plain h (lacks_front 47 plain _ all) in
    let last : escaped (a ∷ []) ≡ escaped_byte a = append-nil (escaped_byte a) in
    let whole : escaped new ≡ (escaped t ++ plain) ++ escaped_byte a = ap escaped grown ∙ escaped-append (t ++ plain) (a ∷ []) ∙ ap₂ (λ x y. x ++ y) run last in (
      lacks_back 47 (escaped_byte a) after (lacks_back 47 plain (escaped_byte a ++ after) all),
      ap (λ l. l ++ after) whole ∙ append_assoc (escaped t ++ plain) (escaped_byte a) after ∙ append_assoc (escaped t) plain (escaped_byte a ++ after) ∙ ap (λ l. escaped t ++ l) (sym is) ∙ held,
    )

pub token_spoilt : (t plain escape rest part : List ℕ) → Lacks 126 plain → Lacks 47 rest → rest ≡ plain ++ 126 ∷ escape → ((more : List ℕ) → escape ≢ 48 ∷ more) → ((more : List ℕ) → escape ≢ 49 ∷ more) → escaped t ++ rest ≡ part → (k : List ℕ) → escaped k ≢ part
token_spoilt t plain escape rest part h g is z o held k e =
    let run : escaped (t ++ plain) ≡ escaped t ++ plain = escaped_run t plain h (lacks_front 47 plain (126 ∷ escape) (subst (Lacks 47) is g)) in
    not_escaped (t ++ plain) escape z o k (e ∙ sym held ∙ ap (λ l. escaped t ++ l) is ∙ sym (append_assoc (escaped t) plain (126 ∷ escape)) ∙ ap (λ l. l ++ 126 ∷ escape) (sym run))

pub token_ends : (t rest part new : List ℕ) → Lacks 126 rest → Lacks 47 rest → escaped t ++ rest ≡ part → new ≡ t ++ rest → escaped new ≡ part
token_ends t rest part new h g held grown = ap escaped grown ∙ escaped_run t rest h g ∙ held
