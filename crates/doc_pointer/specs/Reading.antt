-- The tokens that a text writes (RFC 6901, sections 3 and 4): what `pointer_text` writes, read back.
use Rattle.std.specs.Prelude.{ℕ, List, [], ◌∷◌, ◌==◌, if◌then◌else◌, Option, Some, None, option_map, option_and_then}
use Rattle.doc_pointer.specs.Text.{slash, tilde}

-- the digit 0, which after a `~` represents a `~`
abbrev pub zero_digit : ℕ
zero_digit = 48

-- the digit 1, which after a `~` represents a `/`
abbrev pub one_digit : ℕ
one_digit = 49

-- the token that a part writes
abbrev mutual
  -- of the text outside of an escape
  pub unescaped : List ℕ → Option (List ℕ)
  unescaped [] = Some []
  unescaped (c ∷ cs) = if c == tilde then after_tilde cs else option_map (λ k. c ∷ k) (unescaped cs)

  -- what follows a `~`
  pub after_tilde : List ℕ → Option (List ℕ)
  after_tilde [] = None
  after_tilde (d ∷ cs) = if d == zero_digit then option_map (λ k. tilde ∷ k) (unescaped cs) else (if d == one_digit then option_map (λ k. slash ∷ k) (unescaped cs) else None)

-- the byte before the first of the parts
abbrev pub onto_first : ℕ → List (List ℕ) → List (List ℕ)
onto_first c [] = []
onto_first c (p ∷ ps) = (c ∷ p) ∷ ps

-- the parts of a text between its slashes, before the first and after the last
abbrev pub parts : List ℕ → List (List ℕ)
parts [] = [] ∷ []
parts (c ∷ cs) = if c == slash then [] ∷ parts cs else onto_first c (parts cs)

-- the token of each part
abbrev pub tokens_of : List (List ℕ) → Option (List (List ℕ))
tokens_of [] = Some []
tokens_of (p ∷ ps) = option_and_then (λ k. option_map (λ ks. k ∷ ks) (tokens_of ps)) (unescaped p)

-- the tokens that the text writes, if it is a pointer
abbrev pub pointer_of : List ℕ → Option (List (List ℕ))
pointer_of [] = Some []
pointer_of (c ∷ cs) = if c == slash then tokens_of (parts cs) else None
