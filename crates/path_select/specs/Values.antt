-- A device of the code that evaluates filters: the values of lists of nodes, without their locations, which don't
-- matter there.
use Rattle.std.specs.Prelude.{Bool, true, false, List, [], ◌∷◌, map, flat_map, if◌then◌else◌, Option, Some, None}
use Rattle.doc_tree.specs.Doc.{Doc}
use Rattle.path_select.specs.Nodes.{Located, Child, descendants}

-- of nodes
abbrev pub values : List Located → List Doc
values ns = map (λ n. n.1) ns

-- of children
abbrev pub child_values : List Child → List Doc
child_values cs = map (λ c. c.1) cs

-- the value itself and its descendants
abbrev pub values_below : Doc → List Doc
values_below d = values (descendants d)

abbrev pub visited_values : Bool → List Doc → List Doc
visited_values descend ds = if descend then flat_map values_below ds else ds

-- what is selected of each of the values
abbrev pub each_selected : (Doc → List Child) → List Doc → List Doc
each_selected select ds = flat_map (λ d. child_values (select d)) ds

abbrev pub values_after : (Doc → List Child) → Bool → List Doc → List Doc
values_after select descend ds = each_selected select (visited_values descend ds)

abbrev pub only : List Doc → Option Doc
only (d ∷ []) = Some d
only _ = None

abbrev pub is_some_value : List Doc → Bool
is_some_value [] = false
is_some_value (d ∷ ds) = true
