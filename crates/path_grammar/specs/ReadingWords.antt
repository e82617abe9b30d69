-- For the clauses within the crate: no definition of the grammar, but what `Reading` reads words with, from left to right (characters, strings, numbers).
use Prim.Native.String.{String}
use Rattle.std.specs.Prelude.{codes, ℕ, zero, suc, ◌+◌, ◌*◌, ◌-◌, Bool, true, false, ◌||◌, ◌==◌, List, [], ◌∷◌, length, Option, Some, None, ℤ, pos, neg_ℤ, encode_utf8_all, if◌then◌else◌}
use Rattle.doc_tree.specs.Doc.{null, boolean, text}
use Rattle.path_grammar.specs.Syntax.{Literal, json}
use Rattle.path_grammar.specs.Profile.{literal_left_out}
use Rattle.path_grammar.specs.Kept.{literal_kept}
use Rattle.path_grammar.specs.Characters.{Text, is_blank, is_digit, is_nonzero_digit, is_name_first, is_name_char}
use Rattle.path_grammar.specs.Strings.{is_hex_digit, hex_value, is_high_surrogate, is_low_surrogate, surrogate_pair, is_unescaped, escapable}
use Rattle.path_grammar.specs.Numbers.{is_exact, is_e, number_of}

-- goes on with a value, if there is one
infixl 10 ◌>>=◌
abbrev pub ◌>>=◌ : {A B : Type 0} → Option A → (A → Option B) → Option B
None >>= f = None
(Some x) >>= f = f x

-- one way if there is a value, and another if there is none
abbrev pub on : {A B : Type 0} → Option A → (A → B) → B → B
on None f d = d
on (Some x) f d = f x

-- what follows the character, if the text begins with it
abbrev pub after_character : ℕ → Text → Option Text
after_character c [] = None
after_character c (d ∷ t) = if d == c then Some t else None

-- what follows the character twice
abbrev pub after_doubled : ℕ → Text → Option Text
after_doubled c t = after_character c t >>= after_character c

-- what follows the word
abbrev pub after_word : List ℕ → Text → Option Text
after_word [] t = Some t
after_word (c ∷ []) t = after_character c t
after_word (c ∷ d ∷ w) t = after_character c t >>= after_word (d ∷ w)

-- what follows these characters
abbrev pub after : String → Text → Option Text
after s t = after_word (codes s) t

-- what follows the blanks
abbrev pub skip : Text → Text
skip [] = []
skip (c ∷ t) = if is_blank c then skip t else c ∷ t

-- the characters up to the first that fails the test
abbrev pub read_run : (ℕ → Bool) → Text → List ℕ × Text
read_run p [] = ([], [])
read_run p (c ∷ t) = if p c then (c ∷ (read_run p t).0, (read_run p t).1) else ([], c ∷ t)

-- `member-name-shorthand`
abbrev pub read_shorthand : Text → Option (List ℕ × Text)
read_shorthand [] = None
read_shorthand (c ∷ t) = if is_name_first c then Some (encode_utf8_all (c ∷ (read_run is_name_char t).0), (read_run is_name_char t).1) else None

-- there is a first character, and it passes the test
abbrev pub begins : (ℕ → Bool) → Text → Bool
begins p [] = false
begins p (c ∷ t) = p c

-- ---- strings

-- a hexadecimal digit after digits with the value n
abbrev pub read_hex_digit : ℕ → Text → Option (ℕ × Text)
read_hex_digit n [] = None
read_hex_digit n (c ∷ t) = if is_hex_digit c then Some (n * 16 + hex_value c, t) else None

-- four hexadecimal digits
unfoldable pub read_four_hex_digits : Text → Option (ℕ × Text)
read_four_hex_digits t = read_hex_digit 0 t >>= λ a. read_hex_digit a.0 a.1 >>= λ b. read_hex_digit b.0 b.1 >>= λ c. read_hex_digit c.0 c.1

-- a low surrogate after the high one h
unfoldable pub read_low_surrogate : ℕ → Text → Option (ℕ × Text)
read_low_surrogate h t = after "\\" t >>= λ u. after "u" u >>= λ v. read_four_hex_digits v >>= λ l. if is_low_surrogate l.0 then Some (surrogate_pair h l.0, l.1) else None

-- after the `u`
unfoldable pub read_hex_escape : Text → Option (ℕ × Text)
read_hex_escape t = read_four_hex_digits t >>= λ n. if is_high_surrogate n.0 then read_low_surrogate n.0 n.1 else if is_low_surrogate n.0 then None else Some (n.0, n.1)

-- one character after the backslash
abbrev pub read_short_escape : ℕ → Text → Option (ℕ × Text)
read_short_escape q [] = None
read_short_escape q (d ∷ t) = on (escapable q d) (λ c. Some (c, t)) None

-- the character that is written after a backslash, between two of this quote
unfoldable pub read_escaped : ℕ → Text → Option (ℕ × Text)
read_escaped q t = on (after "u" t) read_hex_escape (read_short_escape q t)

-- a character that is itself between two of this quote
abbrev pub read_unescaped : ℕ → Text → Option (ℕ × Text)
read_unescaped q [] = None
read_unescaped q (c ∷ t) = if is_unescaped q c then Some (c, t) else None

-- one character between two of this quote
unfoldable pub read_character : ℕ → Text → Option (ℕ × Text)
read_character q t = on (after "\\" t) (read_escaped q) (read_unescaped q t)

-- the characters up to the closing quote
unfoldable pub read_characters : ℕ → ℕ → Text → Option (List ℕ × Text)
read_characters q zero t = None
read_characters q (suc k) t = on (after_character q t) (λ r. Some ([], r)) (read_character q t >>= λ x. read_characters q k x.1 >>= λ y. Some (x.0 ∷ y.0, y.1))

-- the string after its opening quote
unfoldable pub read_quoted : ℕ → Text → Option (List ℕ × Text)
read_quoted q t = read_characters q (suc (length t)) t >>= λ x. Some (encode_utf8_all x.0, x.1)

-- `string-literal`
unfoldable pub read_string : Text → Option (List ℕ × Text)
read_string t = on (after "\"" t) (read_quoted 34) (after "'" t >>= read_quoted 39)

-- begins with a quote
abbrev pub begins_string : Text → Bool
begins_string [] = false
begins_string (c ∷ t) = (c == 34) || (c == 39)

-- ---- numbers

-- the number of the digits, after digits with the value n
abbrev pub read_digits : ℕ → Text → ℕ × Text
read_digits n [] = (n, [])
read_digits n (c ∷ t) = if is_digit c then read_digits (n * 10 + (c - 48)) t else (n, c ∷ t)

-- a digit 1 to 9 and any digits
abbrev pub read_positive : Text → Option (ℕ × Text)
read_positive [] = None
read_positive (c ∷ t) = if is_nonzero_digit c then Some (read_digits (c - 48) t) else None

-- a whole number below the limit, with its sign
unfoldable pub read_int : Text → Option (ℤ × Text)
read_int t =
    on (after "0" t) (λ r. Some (pos 0, r))
    (on (after "-" t)
    (λ r. read_positive r >>= λ x. if is_exact x.0 then Some (neg_ℤ (pos x.0), x.1) else None)
    (read_positive t >>= λ x. if is_exact x.0 then Some (pos x.0, x.1) else None))

-- the digits of an `int` of any size
unfoldable pub read_magnitude : Text → Option (ℕ × Text)
read_magnitude t = on (after "0" t) (λ r. Some (0, r)) (read_positive t)

-- `int` of any size, or `-0`
unfoldable pub read_signed : Text → Option (Bool × ℕ × Text)
read_signed t =
    on (after "-" t)
    (λ r. read_magnitude r >>= λ x. Some (true, x.0, x.1))
    (read_magnitude t >>= λ x. Some (false, x.0, x.1))

-- the digits after the point
abbrev pub read_fraction_digits : Text → Option (List ℕ × Text)
read_fraction_digits [] = None
read_fraction_digits (c ∷ t) = if is_digit c then Some (c ∷ (read_run is_digit t).0, (read_run is_digit t).1) else None

-- `frac` or nothing
unfoldable pub read_fraction : Text → Option (List ℕ × Text)
read_fraction t = on (after "." t) read_fraction_digits (Some ([], t))

-- one or more digits
abbrev pub read_natural : Text → Option (ℕ × Text)
read_natural [] = None
read_natural (c ∷ t) = if is_digit c then Some (read_digits (c - 48) t) else None

-- what follows the `e` of an exponent
abbrev pub after_e : Text → Option Text
after_e [] = None
after_e (c ∷ t) = if is_e c then Some t else None

-- `exp` or nothing
unfoldable pub read_exponent : Text → Option (Option ℤ × Text)
read_exponent t =
    on (after_e t)
    (λ r. on (after "+" r)
    (λ u. read_natural u >>= λ x. Some (Some (pos x.0), x.1))
    (on (after "-" r)
    (λ u. read_natural u >>= λ x. Some (Some (neg_ℤ (pos x.0)), x.1))
    (read_natural r >>= λ x. Some (Some (pos x.0), x.1))))
    (Some (None, t))

-- a number goes on with it: a digit, the point of `frac`, or what `exp` begins with
abbrev pub goes_on_number : ℕ → Bool
goes_on_number c = is_digit c || ((c == 46) || is_e c)

-- `number`
unfoldable pub read_number : Text → Option (Literal × Bool × Text)
read_number t = read_signed t >>= λ a. read_fraction a.2 >>= λ b. read_exponent b.1 >>= λ c. Some (literal_kept (number_of a.0 a.1 b.0 c.0), literal_left_out (number_of a.0 a.1 b.0 c.0), c.1)

-- `literal`
unfoldable pub read_literal : Text → Option (Literal × Bool × Text)
read_literal t =
    if begins_string t then (read_string t >>= λ x. Some (json (text x.0), false, x.1)) else
    on (after "true" t) (λ r. Some (json (boolean true), false, r))
    (on (after "false" t) (λ r. Some (json (boolean false), false, r))
    (on (after "null" t) (λ r. Some (json null, false, r))
    (read_number t)))

-- begins with `-` or a digit
abbrev pub begins_int : Text → Bool
begins_int [] = false
begins_int (c ∷ t) = (c == 45) || is_digit c
