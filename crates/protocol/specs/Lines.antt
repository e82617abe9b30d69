-- Lines: the parts of a text that line feeds end, and which of them are answered.
use Rattle.std.specs.Prelude.{◌≢◌, ℕ, Bool, not, List, [], ◌∷◌, filter, if◌then◌else◌, nat_eq, ◌||◌, ⊤}
use Rattle.std.specs.List.{list_all}

-- the byte that ends a line
abbrev pub line_feed : ℕ
line_feed = 10

-- the lines, with b at the front of the first, or as a line of its own if there is none
abbrev pub onto : ℕ → List (List ℕ) → List (List ℕ)
onto b [] = (b ∷ []) ∷ []
onto b (line ∷ lines) = (b ∷ line) ∷ lines

-- the lines of a text: the part before each line feed, and a rest that isn't empty
abbrev pub cut : List ℕ → List (List ℕ)
cut [] = []
cut (b ∷ bytes) = if nat_eq b line_feed then [] ∷ cut bytes else onto b (cut bytes)

-- lines that end, with b at the front of the first, or none
abbrev pub onto_ended : ℕ → List (List ℕ) → List (List ℕ)
onto_ended b [] = []
onto_ended b (line ∷ lines) = (b ∷ line) ∷ lines

-- the lines that a line feed ends
abbrev pub ended : List ℕ → List (List ℕ)
ended [] = []
ended (b ∷ bytes) = if nat_eq b line_feed then [] ∷ ended bytes else onto_ended b (ended bytes)

-- no line feed in it
abbrev pub HasNoBreak : List ℕ → Type 0
HasNoBreak [] = ⊤
HasNoBreak (b ∷ bytes) = (b ≢ line_feed) × HasNoBreak bytes

-- space, tab or carriage return
abbrev pub is_blank_byte : ℕ → Bool
is_blank_byte b = nat_eq b 32 || nat_eq b 9 || nat_eq b 13

-- a line of nothing but these, whatever its length
abbrev pub is_blank : List ℕ → Bool
is_blank line = list_all is_blank_byte line

-- the lines that have a reply
abbrev pub answered : List (List ℕ) → List (List ℕ)
answered lines = filter (λ line. not (is_blank line)) lines

-- the lines of a text that have a reply
abbrev pub lines_of : List ℕ → List (List ℕ)
lines_of bytes = answered (cut bytes)
