use Rattle.std.proofs.Common.{◌+◌, ◌≤◌, drop, length}
use Rattle.schema_levels.specs.Counters.{wanted_in}
use Rattle.schema_levels.proofs.Giving.{NodesLeft}
use Rattle.schema_levels.proofs.counters.counters_of.Given as goal

abbrev pub invariant-loop-node : goal.invariant-loop-node
invariant-loop-node l = NodesLeft l.counters (drop l.node-index l.nodes) l.nodes × (length l.counters.counted.items + wanted_in (drop l.node-index l.nodes) ≤ wanted_in l.nodes)
