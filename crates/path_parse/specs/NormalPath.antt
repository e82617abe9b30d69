-- The normalized path of a location (RFC 9535, section 2.7), as its code points.
use Rattle.std.specs.Prelude.{ℕ, ◌+◌, ◌/◌, ◌%◌, ◌==◌, nat_lt, List, [], ◌∷◌, ◌++◌, Option, Some, None, flat_map, unwrap_or, codes, chars, decimal, if◌then◌else◌}
use Rattle.doc_tree.specs.Doc.{Place, name, index}
use Rattle.path_grammar.specs.Characters.{Text}

-- `normal-escapable` but for its last choice: a backslash and one character, for backspace, tab, line feed, form feed,
-- carriage return, `'` and `\`
abbrev pub short_escape : ℕ → Option Text
short_escape c =
    if c == 8 then Some (codes "\\b") else
    if c == 9 then Some (codes "\\t") else
    if c == 10 then Some (codes "\\n") else
    if c == 12 then Some (codes "\\f") else
    if c == 13 then Some (codes "\\r") else
    if c == 39 then Some (codes "\\'") else
    if c == 92 then Some (codes "\\\\") else None

-- `normal-HEXDIG` of a number below 16: 0 to 9, a to f
abbrev pub hex_digit : ℕ → ℕ
hex_digit n = if nat_lt n 10 then 48 + n else 87 + n

-- `normal-hexchar` after its `u`, of a code point below 20 hex: four digits
abbrev pub four_digits : ℕ → Text
four_digits c = codes "00" ++ hex_digit (c / 16) ∷ hex_digit (c % 16) ∷ []

-- `normal-single-quoted`: one character of a name as it is written
abbrev pub normal_character : ℕ → Text
normal_character c = unwrap_or (short_escape c) (if nat_lt c 32 then codes "\\u" ++ four_digits c else c ∷ [])

-- `normal-index-segment`: a step in its brackets, which is a name between quotes or an index in decimal
abbrev pub normal_step : Place → Text
normal_step (name k) = codes "['" ++ flat_map normal_character (chars k) ++ codes "']"
normal_step (index n) = codes "[" ++ decimal n ++ codes "]"

-- `normalized-path`: `$`, and then the steps in order
abbrev pub normal_path : List Place → Text
normal_path ps = codes "$" ++ flat_map normal_step ps
