-- The text that writes a pointer (RFC 6901, section 3). A token is its bytes.
use Rattle.std.specs.Prelude.{ℕ, List, [], ◌∷◌, ◌++◌, ◌==◌, if◌then◌else◌, codes}

-- the character `/`
abbrev pub slash : ℕ
slash = 47

-- the character `~`
abbrev pub tilde : ℕ
tilde = 126

-- a byte of a token as it is written: `~` as `~0`, `/` as `~1`, any other as itself
abbrev pub escaped_byte : ℕ → List ℕ
escaped_byte c = if c == tilde then codes "~0" else (if c == slash then codes "~1" else c ∷ [])

-- a token as it is written
abbrev pub escaped : List ℕ → List ℕ
escaped [] = []
escaped (c ∷ cs) = escaped_byte c ++ escaped cs

-- a list of tokens as it is written: each after a `/`
abbrev pub pointer_text : List (List ℕ) → List ℕ
pointer_text [] = []
pointer_text (k ∷ ks) = slash ∷ (escaped k ++ pointer_text ks)
