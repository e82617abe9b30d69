use Rattle.std.proofs.Common.{◌≡◌, ◌<◌, ◌+◌, ◌-◌, ◌*◌, ◌++◌, ◌∙◌, ◌∷◌, [], Ok, ap, ap₂, arith, drop, length, refl, rules, sym, true}
use Rattle.std.proofs.lemmas.Result.{err_from_is_err_and}
use Rattle.doc_tree.specs.Doc.{height}
use Rattle.doc_tree.specs.TreeView.{view}
use Rattle.path_tables.proofs.Once.{child_next, leaf_added, more_on, more_stops, nodes_both, nodes_on, nodes_stop, part_again, part_fits, part_made}
use Rattle.path_tables.specs.FilterTables.{picks_view}
use Rattle.path_tables.specs.Visiting.{is_leaf, visited_from}
use Rattle.path_tables.specs.Visits.{AddsAt, IsPart}
use Rattle.path_tables.specs.declared.by_number.Listing.{Listing}
use Rattle.path_tables.specs.declared.visits.Part.{Part}
use Rattle.path_select.proofs.Numbered.{child_low, family}
use Rattle.path_select.specs.Indexed.{at_number, at_numbers, children_at}
use Rattle.path_select.specs.Nodes.{visited}
use Rattle.path_select.specs.Paths.{seen}
use Rattle.path_tables.proofs.by_number.+visiting.Goals as goal

pub and_below-and_node-requires : goal.and_below-and_node-requires
and_below-and_node-requires t c =
    let x = c.args.index.now in
    let low : height (at_number x (c.span_of-span.result.first + c.loop-place.place)).1 < height (at_number x c.args.number).1 = child_low (view x.root.now) (seen x.walk) c.span_of-span.result (at_number x c.args.number) c.loop-place.place c.span_of-span.ensures c.loop-place-test.true in
    let lower : 4 * height (at_number x (c.span_of-span.result.first + c.loop-place.place)).1 + 3 < 4 * height (at_number x c.args.number).1 = omega (arith, low) in
    (search rules, (c.requires.index, (c.requires.right, c.loop-place.invariant.2)))

pub and_below-returns-in_err-listing : goal.and_below-returns-in_err-listing
and_below-returns-in_err-listing t c =
    let x = c.args.index.now in
    let p = c.args.phase.now in
    let l = c.loop-place in
    let us = children_at (at_number x c.args.number) in
    let v = at_number x (c.span_of-span.result.first + l.place) in
    let rest = visited true (drop (l.place + 1) us) in
    let here = child_next x c.span_of-span.result (at_number x c.args.number) l.place c.span_of-span.ensures c.loop-place-test.true in
    let next : visited true (drop l.place us) ≡ visited_from p.descend v ++ rest = ap (visited true) here ∙ ap (λ d. visited_from d v ++ rest) (sym c.requires.descend) in
    let q = err_from_is_err_and c.from_residual.result c.from_residual.ensures.1 in
    rw (q.1, q.2) (nodes_stop x p (at_numbers x l.listing.found.items) (visited_from p.descend v) rest (visited true (drop l.place us)) _ _ next l.invariant.0 l.invariant.1 c.in_err-listing.field-0.0 c.in_err-listing.ensures)

pub and_below-loop-place-preserved : goal.and_below-loop-place-preserved
and_below-loop-place-preserved t c =
    let x = c.args.index.now in
    let p = c.args.phase.now in
    let l = c.loop-place in
    let us = children_at (at_number x c.args.number) in
    let v = at_number x (c.span_of-span.result.first + l.place) in
    let rest = visited true (drop (l.place + 1) us) in
    let here = child_next x c.span_of-span.result (at_number x c.args.number) l.place c.span_of-span.ensures c.loop-place-test.true in
    let next : visited true (drop l.place us) ≡ visited_from p.descend v ++ rest = ap (visited true) here ∙ ap (λ d. visited_from d v ++ rest) (sym c.requires.descend) in
    nodes_on x p (at_numbers x l.listing.found.items) (visited_from p.descend v) rest (visited true (drop l.place us)) _ _ next l.invariant.0 l.invariant.1 c.in_ok-listing.listing c.in_ok-listing.ensures

pub and_node-returns-then-is_leaf : goal.and_node-returns-then-is_leaf
and_node-returns-then-is_leaf t c =
    let x = c.args.index.now in
    let u = at_number x c.args.number in
    let leaf : is_leaf u.1 ≡ true = sym (ap is_leaf c.value_of.ensures) ∙ sym c.is_leaf.ensures ∙ c.if-is_leaf.true in
    leaf_added x c.args.phase.now u c.args.listing leaf c.requires.begun

pub and_node-and_again-requires : goal.and_node-and_again-requires
and_node-and_again-requires t c =
    let x = c.args.index.now in
    let p = c.args.phase.now in
    let ss = picks_view p.picks.items in
    let us = visited_from p.descend (at_number x c.args.number) in
    let known : IsPart ss (at_numbers x c.args.listing.found.items) us c.in-Some.part = c.in-Some.ensures ss p.descend x (at_numbers x c.args.listing.found.items) c.requires.begun.1 in
    part_fits x ss us c.args.listing.found.items c.in-Some.part known

pub and_node-returns-in_err-found-in-Some : goal.and_node-returns-in_err-found-in-Some
and_node-returns-in_err-found-in-Some t c =
    let x = c.args.index.now in
    let p = c.args.phase.now in
    let ss = picks_view p.picks.items in
    let us = visited_from p.descend (at_number x c.args.number) in
    let known : IsPart ss (at_numbers x c.args.listing.found.items) us c.in-Some.part = c.in-Some.ensures ss p.descend x (at_numbers x c.args.listing.found.items) c.requires.begun.1 in
    let q = err_from_is_err_and c.from_residual.result c.from_residual.ensures.1 in
    rw (q.1, q.2) (more_stops x p us c.args.listing.found.items _ c.in_err-found-in-Some.field-0.0 (part_again x ss us c.args.listing.found.items c.in-Some.part known) c.in_err-found-in-Some.ensures)

pub and_node-returns-in_ok-found-in-Some : goal.and_node-returns-in_ok-found-in-Some
and_node-returns-in_ok-found-in-Some t c =
    let x = c.args.index.now in
    let p = c.args.phase.now in
    let ss = picks_view p.picks.items in
    let us = visited_from p.descend (at_number x c.args.number) in
    let known : IsPart ss (at_numbers x c.args.listing.found.items) us c.in-Some.part = c.in-Some.ensures ss p.descend x (at_numbers x c.args.listing.found.items) c.requires.begun.1 in
    let m : Listing = record { found = c.in_ok-found-in-Some.found; visits = c.args.listing.visits } in
    let h = c.in_ok-found-in-Some.ensures in
    more_on x p us c.args.listing m _ known.0 (part_again x ss us c.args.listing.found.items c.in-Some.part known) c.requires.begun.1 h.0 h.1 refl

pub and_noted-returns : goal.and_noted-returns
and_noted-returns t c =
    let x = c.args.index.now in
    let p = c.args.phase.now in
    let ss = picks_view p.picks.items in
    let us = visited_from p.descend (at_number x c.args.number) in
    let found = c.args.listing.found in
    let l = c.in_ok-found.field-0 in
    let h : AddsAt x p (at_numbers x found.items) us (Ok l) = c.in_ok-found.ensures in
    let q : Part = record { first = c.len-first.result; count = c.len.result - c.len-first.result } in
    let first : q.first ≡ length found.items = c.len-first.ensures ∙ found.ok.0 in
    let all : c.len.result ≡ length l.found.items = c.len.ensures ∙ l.found.ok.0 in
    let part = part_made x p found.items us l h q first (ap₂ (λ a b. a - b) all first) in
    (h.0, h.1, c.with_part.ensures ss p.descend x (at_numbers x l.found.items) h.2 part)

pub and_visited-returns-then-phase : goal.and_visited-returns-then-phase
and_visited-returns-then-phase t c =
    let x = c.args.index.now in
    let p = c.args.phase.now in
    let u = at_number x c.args.number in
    nodes_both x p (at_numbers x c.args.listing.found.items) (u ∷ []) (visited true (children_at u)) (visited_from p.descend u) c.in_ok-listing.listing
    (ap (λ d. visited_from d u) c.if-phase.true ∙ family u) c.in_ok-listing.ensures c.and_below.result c.and_below.ensures
