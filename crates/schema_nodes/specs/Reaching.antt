-- For the clauses within the crate: the number of the schema at the end of a pointer's tokens.
use Rattle.std.specs.Prelude.{◌≡◌, ⊤, ℕ, suc, List, [], ◌∷◌, if◌then◌else◌, Option, Some, None, option_and_then, option_to_list, slice_get, decimal, String}
use Rattle.std.specs.Global.{Vec}
use Rattle.std.specs.Str.{bytes_eq}
use Rattle.std.specs.declared.alloc.Global.{Global}
use Rattle.doc_tree.specs.Doc.{Doc, Members, member}
use Rattle.schema_levels.specs.Below.{number_named}
use Rattle.schema_rules.specs.Pointers.{held_at, shape_at}
use Rattle.schema_rules.specs.declared.keyword.Shape.{Shape}
use Rattle.schema_rules.specs.declared.keyword.Shape.TheVariants.{One, Several, Named}
use Rattle.schema_nodes.specs.declared.held.Held.{Held}

-- the row beside a name, empty without
abbrev pub row_named : List ℕ → Members → List (Vec ℕ) → List ℕ
row_named n (member k v ms) (row ∷ rows) = if bytes_eq k n then row.items else row_named n ms rows
row_named n _ _ = []

-- the number at the index, counted from i, whose decimal text the token is
abbrev pub number_at : ℕ → List ℕ → List ℕ → Option ℕ
number_at i k [] = None
number_at i k (n ∷ row) = if bytes_eq (decimal i) k then Some n else number_at (suc i) k row

-- what the member of that name holds
abbrev pub held_named : List ℕ → List Held → Option Held
held_named k [] = None
held_named k (h ∷ hs) = if bytes_eq h.name.now k then Some h else held_named k hs

-- in the schema of the first number
abbrev pub held_from : List (Vec Held) → List ℕ → List ℕ → Option Held
held_from all k [] = None
held_from all k (n ∷ row) = option_and_then (λ hs. held_named k hs.items) (slice_get all n)

abbrev pub row_of : Option Held → List ℕ
row_of None = []
row_of (Some h) = h.row.now

abbrev pub names_of : Option Held → List (String Global × ℕ) → List (String Global × ℕ)
names_of None names = names
names_of (Some h) names = h.named.entries

-- the numbers of the schemas that the value holds to which a token leads, if the row and the names have those that the value before it holds
abbrev pub row_at : List (Vec Held) → Shape → List ℕ → List ℕ → List (String Global × ℕ) → List ℕ
row_at all One k row names = row_of (held_from all k row)
row_at all Several k row names = option_to_list (number_at 0 k row)
row_at all Named k row names = option_to_list (number_named k names)
row_at all _ k row names = []

-- the same by their names
abbrev pub names_at : List (Vec Held) → Shape → List ℕ → List ℕ → List (String Global × ℕ) → List (String Global × ℕ)
names_at all One k row names = names_of (held_from all k row) names
names_at all _ k row names = names

-- from a value of that shape, with the numbers of the schemas that it holds
abbrev pub number_to : List (Vec Held) → Shape → List (List ℕ) → Doc → List ℕ → List (String Global × ℕ) → Option ℕ
number_to all One [] d row names = slice_get row 0
number_to all _ [] d row names = None
number_to all shape (k ∷ ks) d row names = option_and_then (λ v. number_to all (shape_at shape k) ks v (row_at all shape k row names) (names_at all shape k row names)) (held_at shape k d)

-- the number is that of the schema, if there is one
abbrev pub Reached : (ℕ → Option Doc) → Option ℕ → Option Doc → Type 0
Reached at None None = ⊤
Reached at (Some n) (Some d) = at n ≡ Some d
Reached at _ _ = ⊥
