use Rattle.std.proofs.Common.{◌≡◌, ◌≢◌, ℕ, ◌<◌}
use Rattle.schema_graph.specs.Marks.{mark}
use Rattle.schema_graph.specs.Orders.{IsWalk}
use Rattle.schema_graph.specs.declared.walk.Mark.TheVariants.{Open, Done}
use Rattle.schema_graph.proofs.walk.order_of.Given as goal

abbrev pub invariant-loop-place : goal.invariant-loop-place
invariant-loop-place l = IsWalk l.graph l.walk × ((a : ℕ) → mark l.walk.marks.items a ≢ Open) × ((a : ℕ) → a < l.place → mark l.walk.marks.items a ≡ Done)
