-- What the bytes of a name are: none is escaped in a text, and all are ASCII.
use Rattle.std.proofs.Common.{◌≡◌, ℕ, ◌≤◌, true, List, [], ◌∷◌, ◌++◌, length, length-append, ◌&&◌, nat_le, nat_lt, nat_eq, IsUtf8, inl, inr, refl, ap, ap₂, arith}
use Rattle.std.proofs.lemmas.Bool.{and_parts, and_from, or_cases, leb-true, eqb-true, lt-ltb}
use Rattle.std.specs.List.{list_all}
use Rattle.json.specs.Print.{escape, quoted}
use Rattle.json.proofs.Printed.Strings.{escape_byte_plain}
use Rattle.json.proofs.Printed.Utf8.{are_ascii, IsUtf8-are_ascii}
use Rattle.doc_changes.specs.Names.{is_name, is_name_byte}
use Rattle.doc_changes.specs.declared.limits.TheConstants.{NAME_BYTES}

-- a byte of a name is ASCII, at or behind `-` and before `{`, and no `\`
pub record IsPlainByte (x : ℕ) : Type 0 where
  pub low : 45 ≤ x
  pub high : x ≤ 122
  pub other : x ≡ 92 → ⊥

between : (l h x : ℕ) → (nat_le l x && nat_le x h) ≡ true → (l ≤ x) × (x ≤ h)
between l h x e = let both = and_parts (nat_le l x) (nat_le x h) e in (leb-true l x both.0, leb-true x h both.1)

pub plain_byte : (x : ℕ) → is_name_byte x ≡ true → IsPlainByte x
plain_byte x e = elim (or_cases _ (nat_eq x 46) e) [
  | inr a ↦ let r = eqb-true x 46 a in record { low = omega (arith, r); high = omega (arith, r); other = λ is. omega (arith, r, is) }
  | inl e1 ↦ elim (or_cases _ (nat_eq x 95) e1) [
    | inr a ↦ let r = eqb-true x 95 a in record { low = omega (arith, r); high = omega (arith, r); other = λ is. omega (arith, r, is) }
    | inl e2 ↦ elim (or_cases _ (nat_eq x 45) e2) [
      | inr a ↦ let r = eqb-true x 45 a in record { low = omega (arith, r); high = omega (arith, r); other = λ is. omega (arith, r, is) }
      | inl e3 ↦ elim (or_cases _ (nat_le 48 x && nat_le x 57) e3) [
        | inr a ↦ let r = between 48 57 x a in record { low = omega (arith, r.0); high = omega (arith, r.1); other = λ is. omega (arith, r.1, is) }
        | inl e4 ↦ elim (or_cases (nat_le 97 x && nat_le x 122) (nat_le 65 x && nat_le x 90) e4) [
          | inl a ↦ let r = between 97 122 x a in record { low = omega (arith, r.0); high = r.1; other = λ is. omega (arith, r.0, is) }
          | inr a ↦ let r = between 65 90 x a in record { low = omega (arith, r.0); high = omega (arith, r.1); other = λ is. omega (arith, r.1, is) }
        ]
      ]
    ]
  ]
]

escape-name : (n : List ℕ) → list_all is_name_byte n ≡ true → escape n ≡ n
escape-name [] e = refl
escape-name (x ∷ xs) e =
    let both = and_parts (is_name_byte x) (list_all is_name_byte xs) e in
    let byte = plain_byte x both.0 in
    let low = byte.low in
    ap₂ (λ (a b : List ℕ). a ++ b) (escape_byte_plain x (λ is. omega (arith, low, is)) byte.other (omega (arith, low))) (escape-name xs both.1)

ascii-name : (n : List ℕ) → list_all is_name_byte n ≡ true → are_ascii n ≡ true
ascii-name [] e = refl
ascii-name (x ∷ xs) e =
    let both = and_parts (is_name_byte x) (list_all is_name_byte xs) e in
    let high = (plain_byte x both.0).high in
    and_from (nat_lt x 128) (are_ascii xs) (lt-ltb x 128 (omega (arith, high))) (ascii-name xs both.1)

bytes_of_name : (n : List ℕ) → is_name n ≡ true → (list_all is_name_byte n ≡ true) × (length n ≤ NAME_BYTES)
bytes_of_name n e =
    let all = and_parts _ (list_all is_name_byte n) e in
    let few = and_parts _ (nat_le (length n) NAME_BYTES) all.0 in
    (all.1, leb-true (length n) NAME_BYTES few.1)

pub IsUtf8-name : (n : List ℕ) → is_name n ≡ true → IsUtf8 n
IsUtf8-name n e = IsUtf8-are_ascii n (ascii-name n (bytes_of_name n e).0)

pub length-quoted-name : (n : List ℕ) → is_name n ≡ true → length (quoted n) ≤ 66
length-quoted-name n e =
    let b = bytes_of_name n e in
    let same : length (escape n) ≡ length n = ap length (escape-name n b.0) in
    let all = length-append (escape n) (34 ∷ []) in
    let few = b.1 in
    omega (arith, same, all, few)
