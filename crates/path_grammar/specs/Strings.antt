-- String literals of queries (RFC 9535, section 2.3.1.1).
use Rattle.std.specs.Prelude.{codes, ◌≡◌, ℕ, ◌+◌, ◌*◌, ◌-◌, ◌==◌, nat_le, Bool, true, false, ◌&&◌, ◌||◌, not, List, [], ◌∷◌, ◌++◌, Option, Some, None, encode_utf8_all, if◌then◌else◌}
use Rattle.path_grammar.specs.Characters.{Text, is_digit}

-- `HEXDIG`, of either case
abbrev pub is_hex_digit : ℕ → Bool
is_hex_digit c = is_digit c || ((nat_le 65 c && nat_le c 70) || (nat_le 97 c && nat_le c 102))

-- what a hexadecimal digit counts
abbrev pub hex_value : ℕ → ℕ
hex_value c = if nat_le c 57 then c - 48 else if nat_le c 70 then c - 55 else c - 87

-- `high-surrogate`: U+D800 to U+DBFF
abbrev pub is_high_surrogate : ℕ → Bool
is_high_surrogate n = nat_le 55296 n && nat_le n 56319

-- `low-surrogate`: U+DC00 to U+DFFF
abbrev pub is_low_surrogate : ℕ → Bool
is_low_surrogate n = nat_le 56320 n && nat_le n 57343

-- the code point that a high and a low surrogate represent
abbrev pub surrogate_pair : ℕ → ℕ → ℕ
surrogate_pair high low = 65536 + (high - 55296) * 1024 + (low - 56320)

-- a character that is itself between two quotes: `unescaped` and the other quote
abbrev pub is_unescaped : ℕ → ℕ → Bool
is_unescaped quote c = nat_le 32 c && (not (c == quote) && not (c == 92))

-- the character that is meant by one after a backslash: the quote is itself; or, as `escapable`, `b` is U+0008, `f`
-- U+000C, `n` U+000A, `r` U+000D, `t` U+0009, and `/` and `\` are themselves
abbrev pub escapable : ℕ → ℕ → Option ℕ
escapable quote c =
    if c == quote then Some quote else
    if c == 98 then Some 8 else
    if c == 102 then Some 12 else
    if c == 110 then Some 10 else
    if c == 114 then Some 13 else
    if c == 116 then Some 9 else
    if c == 47 then Some 47 else
    if c == 92 then Some 92 else None

-- a hexadecimal digit after digits with the value n: the number of all of them
pub data HexDigit : ℕ → ℕ → Text → Text → Type 0 where
  hex_digit : {n c : ℕ} {r : Text} → is_hex_digit c ≡ true → HexDigit n (n * 16 + hex_value c) (c ∷ r) r

-- four hexadecimal digits
pub data FourHexDigits : ℕ → Text → Text → Type 0 where
  four_hex_digits : {a b c d : ℕ} {t u v w r : Text} → HexDigit 0 a t u → HexDigit a b u v → HexDigit b c v w → HexDigit c d w r → FourHexDigits d t r

-- the text after a backslash: `escapable` or the quote; or `u` and `hexchar`, four digits that are no surrogate or a
-- high surrogate and, after another `\u`, a low one
pub data Escaped : ℕ → ℕ → Text → Text → Type 0 where
  short_escape : {quote c d : ℕ} {r : Text} → escapable quote d ≡ Some c → Escaped quote c (d ∷ r) r
  hex_escape : {quote n : ℕ} {t r : Text} → FourHexDigits n t r → is_high_surrogate n ≡ false → is_low_surrogate n ≡ false → Escaped quote n (codes "u" ++ t) r
  pair_escape : {quote high low : ℕ} {t u r : Text} → FourHexDigits high t (codes "\\u" ++ u) → is_high_surrogate high ≡ true → FourHexDigits low u r → is_low_surrogate low ≡ true → Escaped quote (surrogate_pair high low) (codes "u" ++ t) r

-- any number of `double-quoted` or `single-quoted`, as the quote is, and the closing quote: the code points
pub data Quoted : ℕ → List ℕ → Text → Text → Type 0 where
  closed : {quote : ℕ} {r : Text} → Quoted quote [] (quote ∷ r) r
  unescaped : {quote c : ℕ} {cs : List ℕ} {t r : Text} → is_unescaped quote c ≡ true → Quoted quote cs t r → Quoted quote (c ∷ cs) (c ∷ t) r
  escaped : {quote c : ℕ} {cs : List ℕ} {t u r : Text} → Escaped quote c t u → Quoted quote cs u r → Quoted quote (c ∷ cs) (codes "\\" ++ t) r

-- `string-literal`: the text that it spells, as UTF-8 bytes
pub data StringLiteral : List ℕ → Text → Text → Type 0 where
  double_quoted : {cs : List ℕ} {t r : Text} → Quoted 34 cs t r → StringLiteral (encode_utf8_all cs) (codes "\"" ++ t) r
  single_quoted : {cs : List ℕ} {t r : Text} → Quoted 39 cs t r → StringLiteral (encode_utf8_all cs) (codes "'" ++ t) r
