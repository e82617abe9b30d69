use Rattle.std.proofs.Common.{◌≡◌, ◌++◌, drop}
use Rattle.path_select.specs.Indexed.{at_numbers}
use Rattle.path_select.specs.Paths.{all_spots}
use Rattle.path_eval.proofs.listing.spots_of.Given as goal

abbrev pub invariant-loop-number : goal.invariant-loop-number
invariant-loop-number l =
    all_spots l.index.walk.trail.items l.spots.items ++ at_numbers l.index (drop l.number-index l.number-items) ≡ at_numbers l.index l.number-items
