-- Tokens as their texts.
use Rattle.std.proofs.Common.{◌≡◌, ℕ, ◌-◌, ◌<◌, ◌≤◌, zero, suc, Some, [], ◌∷◌, List, length, String, string_bytes, Global, Bool, true, refl, sym, ap, ◌∙◌, arith}
use Rattle.std.specs.Cmp.Derive.Mapped.{pointwise-map}
use Rattle.std.specs.Cmp.Lexicographic.{pointwise}
use Rattle.std.proofs.lemmas.Slice.Eq.{bytes_eq-Decides, slice_eq-Decides}
use Rattle.std.specs.Str.{bytes_eq}
use Rattle.std.specs.String.{string_eq}
use Rattle.std.specs.List.{slice_get}
use Rattle.doc_edits.specs.Change.{tokens_of}
use Rattle.doc_edits.specs.Edit.{Token}
use Rattle.doc_edits.specs.Keeping.{last_of}

-- tokens that are compared as texts
pub same_tokens : (xs ys : List (String Global)) → pointwise string_eq xs ys ≡ pointwise bytes_eq (tokens_of xs) (tokens_of ys)
same_tokens xs ys = sym (pointwise-map string_bytes bytes_eq xs ys)

pub same_place : (xs ys : List (String Global)) (r : Bool) → r ≡ pointwise string_eq xs ys → r ≡ true → tokens_of xs ≡ tokens_of ys
same_place xs ys r is same = (slice_eq-Decides bytes_eq-Decides (tokens_of xs) (tokens_of ys) r (is ∙ same_tokens xs ys)).0 same

pub tokens_len : (xs : List (String Global)) → length (tokens_of xs) ≡ length xs
tokens_len [] = refl
tokens_len (x ∷ xs) = ap (λ n. suc n) (tokens_len xs)

last_at : (t : Token) (xs : List (String Global)) (n : ℕ) (x : String Global) → 1 ≤ length xs → n ≡ length xs - 1 → Some x ≡ slice_get xs n → last_of t (tokens_of xs) ≡ string_bytes x
last_at t [] n x some e h = absurd (omega arith)
last_at t (y ∷ []) zero x some e h = let same : x ≡ y = cc in ap string_bytes (sym same)
last_at t (y ∷ []) (suc n) x some e h = absurd (omega (arith, e))
last_at t (y ∷ z ∷ zs) zero x some e h = absurd (omega (arith, e))
last_at t (y ∷ z ∷ zs) (suc n) x some e h = last_at (string_bytes y) (z ∷ zs) n x (omega arith) (omega (arith, e)) h

none_in : (n : ℕ) (x : String Global) → Some x ≡ slice_get [] n → ⊥
none_in zero x h = absurd (cc)
none_in (suc n) x h = absurd (cc)

-- the last of the tokens
pub last_token : (t : Token) (xs : List (String Global)) (x : String Global) → Some x ≡ slice_get xs (length xs - 1) → last_of t (tokens_of xs) ≡ string_bytes x
last_token t [] x e = absurd (none_in (length {A = String Global} [] - 1) x e)
last_token t (y ∷ ys) x e = last_at t (y ∷ ys) (length (y ∷ ys) - 1) x (omega arith) refl e

pub no_tokens : (xs : List (String Global)) → length xs < 1 → tokens_of xs ≡ []
no_tokens [] h = refl
no_tokens (x ∷ xs) h = absurd (omega arith)
