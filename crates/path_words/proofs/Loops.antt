-- Loops over characters that go into a `String`.
use Rattle.std.proofs.Common.{◌≡◌, ℕ, suc, ◌+◌, ◌-◌, ◌<◌, ◌≤◌, List, [], ◌∷◌, ◌++◌, length, Option, Some, None, refl, sym, ap, ◌∙◌, encode_utf8_all, arith}
use Rattle.std.specs.Prelude.{encode_utf8}
use Rattle.path_grammar.specs.Characters.{Text}
use Rattle.path_grammar.specs.Reading.{◌>>=◌, after_character, read_character, read_characters, read_quoted}

-- the bytes so far and those of the characters that are read, and what follows them
abbrev pub name_after : List ℕ → List ℕ × Text → List ℕ × Text
name_after bytes x = (bytes ++ encode_utf8_all x.0, x.1)

abbrev pub string_after : List ℕ → Option (List ℕ × Text) → Option (List ℕ × Text)
string_after bytes read = read >>= λ x. Some (bytes ++ encode_utf8_all x.0, x.1)

pub quoted_begins : (q n : ℕ) (t : Text) → n ≡ suc (length t) → string_after [] (read_characters q n t) ≡ read_quoted q t
unfolding read_quoted
quoted_begins q n t e = rw e refl

append_assoc : (a b c : List ℕ) → ((a ++ b) ++ c) ≡ (a ++ (b ++ c))
append_assoc [] b c = refl
append_assoc (x ∷ a) b c = ap (λ y. x ∷ y) (append_assoc a b c)

append_nil : (a : List ℕ) → (a ++ []) ≡ a
append_nil [] = refl
append_nil (x ∷ a) = ap (λ y. x ∷ y) (append_nil a)

-- a turn of the loop over a string's characters, after bytes that it has, with k - i turns left
module _ (q : ℕ) (bytes : List ℕ) (k i : ℕ) (rest : Text) (total : Option (List ℕ × Text)) (so_far : string_after bytes (read_characters q (k - i) rest) ≡ total) where
  opened : i < k → string_after bytes (read_characters q (suc (k - (i + 1))) rest) ≡ total
  opened lt = let e : k - i ≡ suc (k - (i + 1)) = omega arith in ap (λ n. string_after bytes (read_characters q n rest)) (sym e) ∙ so_far

  pub characters_on : (c : ℕ) (more : Text) → i < k → after_character q rest ≡ None → read_character q rest ≡ Some (c, more)
      → string_after (bytes ++ encode_utf8 c) (read_characters q (k - (i + 1)) more) ≡ total
  unfolding read_characters
  characters_on c more lt no_end is = regroup (read_characters q (k - (i + 1)) more) ∙ (rw (no_end, is) at (opened lt))
    where
      regroup : (o : Option (List ℕ × Text)) → string_after (bytes ++ encode_utf8 c) o ≡ string_after bytes (o >>= λ y. Some (c ∷ y.0, y.1))
      regroup None = refl
      regroup (Some y) = ap (λ (x : List ℕ). Some (x, y.1)) (append_assoc bytes (encode_utf8 c) (encode_utf8_all y.0))

  pub characters_done : (r : Text) → i < k → after_character q rest ≡ Some r → Some (bytes, r) ≡ total
  unfolding read_characters
  characters_done r lt is = ap (λ (x : List ℕ). Some (x, r)) (sym (append_nil bytes)) ∙ (rw is at (opened lt))

  pub characters_refused : i < k → after_character q rest ≡ None → read_character q rest ≡ None → None ≡ total
  unfolding read_characters
  characters_refused lt no_end no_character = rw (no_end, no_character) at (opened lt)

  pub characters_over : k ≤ i → None ≡ total
  unfolding read_characters
  characters_over le = let e : k - i ≡ 0 = omega arith in rw e at so_far
