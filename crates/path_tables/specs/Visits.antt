-- For the clauses within the crate: nodes that a segment visited, and lists in the making.
use Rattle.std.specs.Prelude.{◌≡◌, ◌≤◌, ◌+◌, ◌++◌, ◌||◌, Bool, false, List, drop, length, take, IfSome, Result, Ok, Err}
use Rattle.std.specs.List.{AllByRecursion}
use Rattle.path_plans.specs.Planned.{PlanSelectors}
use Rattle.path_plans.specs.PlanValues.{IsWithin}
use Rattle.path_tables.specs.FilterTables.{picks_view}
use Rattle.path_tables.specs.Visiting.{refused_at, selected_at, visited_from}
use Rattle.path_tables.specs.declared.by_number.Listing.{Listing}
use Rattle.path_tables.specs.declared.table_plan.TableSegment.{TableSegment}
use Rattle.path_tables.specs.declared.visits.Part.{Part}
use Rattle.path_tables.specs.declared.visits.Visit.{Visit}
use Rattle.path_select.specs.Gives.{Stops}
use Rattle.path_select.specs.Indexed.{at_number, at_numbers}
use Rattle.path_select.specs.Limit.{is_over}
use Rattle.path_select.specs.Nodes.{Located}
use Rattle.path_select.specs.declared.index.Index.{Index}
use Rattle.path_select.specs.declared.stop.Stop.{Stop}

-- the part of the list is what is selected at these nodes, and nothing is refused there
abbrev pub IsPart : PlanSelectors → List Located → List Located → Part → Type 0
IsPart ss listed us p =
    (refused_at ss us ≡ false) × (p.first + p.count ≤ length listed) × (take p.count (drop p.first listed) ≡ selected_at ss us)

-- if the part of a node is known, it is what is selected of that node
abbrev pub IsVisit : PlanSelectors → Bool → Index → List Located → Visit → Type 0
IsVisit ss descend x listed v = IfSome v.part (IsPart ss listed (visited_from descend (at_number x v.number)))

abbrev pub AreVisits : PlanSelectors → Bool → Index → List Located → List Visit → Type 0
AreVisits ss descend x listed vs = AllByRecursion (IsVisit ss descend x listed) vs

-- a list in the making, within the limit
abbrev pub IsBegun : Index → TableSegment → Listing → Type 0
IsBegun x p l =
    IsWithin (at_numbers x l.found.items) × AreVisits (picks_view p.picks.items) p.descend x (at_numbers x l.found.items) l.visits.items

-- it goes on with what is selected at these nodes
abbrev pub AddsAt : Index → TableSegment → List Located → List Located → Result Listing Stop → Type 0
AddsAt x p before us (Ok l) =
    let ss = picks_view p.picks.items in let all = before ++ selected_at ss us in ((refused_at ss us || is_over (length all)) ≡ false) × (at_numbers x l.found.items ≡ all) × AreVisits ss p.descend x (at_numbers x l.found.items) l.visits.items
AddsAt x p before us (Err e) =
    let ss = picks_view p.picks.items in Stops e (refused_at ss us || is_over (length (before ++ selected_at ss us)))
