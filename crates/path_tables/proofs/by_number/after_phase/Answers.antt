use Rattle.std.proofs.Common.{◌≡◌, ◌+◌, ◌++◌, ◌∙◌, ◌∷◌, [], suc, ap, arith, drop, drop-cons, get_or, refl}
use Rattle.path_tables.proofs.Once.{nodes_on, visited-cons}
use Rattle.path_tables.specs.FilterTables.{picks_view}
use Rattle.path_tables.specs.Visiting.{visited_from}
use Rattle.path_select.specs.Indexed.{at_number, at_numbers}
use Rattle.path_select.specs.Nodes.{visited}
use Rattle.path_tables.proofs.by_number.after_phase.Goals as goal

pub loop-number-init : goal.loop-number-init
loop-number-init c =
    let p = c.args.phase.now in
    rw c.new.ensures.items (refl, refl, (refl, c.in_ok-visits_of.ensures (picks_view p.picks.items) p.descend c.args.index.now []))

pub loop-number-preserved : goal.loop-number-preserved
loop-number-preserved c =
    let x = c.args.index.now in
    let p = c.args.phase.now in
    let l = c.loop-number in
    let items = c.deref-number-items.result.now in
    let n = get_or items l.number-index 0 in
    let rest = drop (l.number-index + 1) items in
    let one : suc l.number-index ≡ l.number-index + 1 = omega arith in
    let here : drop l.number-index items ≡ n ∷ rest = drop-cons items l.number-index 0 c.loop-number-test.true ∙ ap (λ k. n ∷ drop k items) one in
    let next : visited p.descend (at_numbers x (drop l.number-index items)) ≡ visited_from p.descend (at_number x n) ++ visited p.descend (at_numbers x rest) =
    ap (λ ns. visited p.descend (at_numbers x ns)) here ∙ visited-cons p.descend (at_number x n) (at_numbers x rest) in
    nodes_on x p (at_numbers x l.listing.found.items) (visited_from p.descend (at_number x n)) (visited p.descend (at_numbers x rest)) (visited p.descend (at_numbers x (drop l.number-index items))) _ _ next l.invariant.0 l.invariant.1 c.in_ok-listing.listing c.in_ok-listing.ensures
