use Rattle.std.proofs.Common.{◌≡◌, ◌++◌, drop, map}
use Rattle.doc_tree.specs.Place.{place_of}
use Rattle.path_grammar.specs.Lent.{lent_places}
use Rattle.path_eval.proofs.listing.steps_of.Given as goal

abbrev pub invariant-loop-step : goal.invariant-loop-step
invariant-loop-step l = map place_of l.steps.items ++ lent_places (drop l.step-index l.step-items) ≡ lent_places l.step-items
