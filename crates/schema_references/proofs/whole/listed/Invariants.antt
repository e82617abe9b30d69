use Rattle.std.proofs.Common.{map, drop}
use Rattle.schema_references.proofs.Listed.{Listing}
use Rattle.schema_references.proofs.whole.listed.Given as goal

abbrev pub invariant-loop-name : goal.invariant-loop-name
invariant-loop-name l = Listing (map (λ s. s.now) l.names) l.all.names l.all.are_different (map (λ s. s.now) (drop l.name-index l.names))
