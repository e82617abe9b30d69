use Rattle.std.proofs.Common.{◌≡◌, drop}
use Rattle.schema_nodes.specs.Reaching.{held_named}
use Rattle.schema_nodes.proofs.targets.held_named.Given as goal

abbrev pub invariant-loop-held : goal.invariant-loop-held
invariant-loop-held l = held_named l.name (drop l.held-index l.members) ≡ held_named l.name l.members
