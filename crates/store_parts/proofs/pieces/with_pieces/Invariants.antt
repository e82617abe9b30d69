use Rattle.store_parts.specs.Parts.{AreParts, HaveTails}
use Rattle.store_parts.proofs.pieces.with_pieces.Given as goal

abbrev pub invariant-loop-at : goal.invariant-loop-at
invariant-loop-at l = record {
  parts : AreParts l.sectors l.parts.items;
  tails : HaveTails l.slots l.parts.items;
}
