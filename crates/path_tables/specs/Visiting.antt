-- For the clauses within the crate: the nodes that a segment visits, what is selected there, and what is refused.
use Rattle.std.specs.Prelude.{Bool, true, false, List, [], ◌∷◌, map, flat_map, if◌then◌else◌}
use Rattle.std.specs.List.{list_any}
use Rattle.doc_tree.specs.Doc.{Doc, list, object}
use Rattle.path_plans.specs.Planned.{PlanSelectors, all_taken, choices_refused}
use Rattle.path_select.specs.Nodes.{Located, child_at, beneath, descendants}

abbrev pub selected_at : PlanSelectors → List Located → List Located
selected_at cs us = flat_map (λ u. map (child_at u.0) (all_taken cs u.1)) us

abbrev pub refused_at : PlanSelectors → List Located → Bool
refused_at cs us = list_any (λ u. choices_refused cs u.1) us

-- the nodes at which a segment selects for one node
abbrev pub visited_from : Bool → Located → List Located
visited_from descend n = if descend then map (beneath n.0) (descendants n.1) else n ∷ []

-- it is neither a list nor an object, so that nothing can be selected of it
abbrev pub is_leaf : Doc → Bool
is_leaf (list ds) = false
is_leaf (object ms) = false
is_leaf _ = true
