-- A device of the code that lists nodes: places known by their numbers. The root has the number 0, and what the n-th mark
-- leads to has n.
use Rattle.std.specs.Prelude.{◌≡◌, ◌≤◌, ◌⊎◌, ℕ, take, List, [], ◌∷◌, ◌++◌, map, length, get_or}
use Rattle.std.specs.List.{AllByRecursion}
use Rattle.doc_tree.specs.Doc.{Place}
use Rattle.doc_tree.specs.TreeView.{view}
use Rattle.path_select.specs.Nodes as nodes
use Rattle.path_grammar.specs.Lent.{lent_place}
use Rattle.path_select.specs.declared.paths.Mark.{Mark}
use Rattle.path_select.specs.declared.paths.Spot.{Spot}
use Rattle.path_select.specs.declared.paths.Walk.{Walk}

-- the location to which a mark leads, from those of the places that are known
abbrev pub marked : List (List Place) → Mark → List Place
marked ps m = get_or ps m.above [] ++ lent_place m.step ∷ []

-- the locations of the places, and of those to which the marks lead, in the order of their numbers
abbrev pub locations : List (List Place) → List Mark → List (List Place)
locations ps [] = ps
locations ps (m ∷ ms) = locations (ps ++ marked ps m ∷ []) ms

-- the location of the place of that number
abbrev pub location : List Mark → ℕ → List Place
location ms n = get_or (locations ([] ∷ []) ms) n []

-- a node of a list
abbrev pub spot_of : List Mark → Spot → nodes.Located
spot_of ms s = (location ms s.place, view s.value.now)

abbrev pub all_spots : List Mark → List Spot → List nodes.Located
all_spots ms ss = map (spot_of ms) ss

-- the places of the nodes are among the first n
abbrev pub stand : ℕ → List Spot → Type 0
stand n ss = AllByRecursion (λ s. s.place ≤ n) ss

-- a walk went on: its trail and its list are longer, if at all, and its nodes are in the trail
abbrev pub GoesOn : Walk → Walk → Type 0
GoesOn w x = (ms : List Mark) × (ss : List Spot) × (x.trail.items ≡ w.trail.items ++ ms) × (x.listed.items ≡ w.listed.items ++ ss) × stand (length x.trail.items) x.listed.items

-- what a walk has listed
abbrev pub seen : Walk → List nodes.Located
seen w = all_spots w.trail.items w.listed.items

-- the walk is the same, or without the marks after the first ones if it has no more nodes than it had
abbrev pub Returns : ℕ → ℕ → Walk → Walk → Type 0
Returns known count w x =
    (x.listed.items ≡ w.listed.items) × ((x.trail.items ≡ w.trail.items) ⊎ ((x.trail.items ≡ take known w.trail.items) × (length w.listed.items ≡ count)))
