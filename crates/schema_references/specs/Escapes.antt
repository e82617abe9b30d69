-- For the clauses within the crate: a text whose escapes are those of a pointer (RFC 6901, section 3).
use Rattle.std.specs.Prelude.{ℕ, List, [], ◌∷◌, ◌==◌, Bool, false, not, ◌&&◌, ◌||◌}
use Rattle.doc_pointer.specs.Reading.{zero_digit, one_digit}
use Rattle.doc_pointer.specs.Text.{tilde}

-- a `0` or a `1` follows each `~`, and comes first if a `~` was before
abbrev pub are_whole : Bool → List ℕ → Bool
are_whole in_escape [] = not in_escape
are_whole in_escape (c ∷ cs) = (not in_escape || (c == zero_digit || c == one_digit)) && are_whole (c == tilde) cs

abbrev pub has_whole_escapes : List ℕ → Bool
has_whole_escapes = are_whole false
