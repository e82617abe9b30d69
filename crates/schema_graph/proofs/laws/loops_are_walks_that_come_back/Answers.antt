use Rattle.std.proofs.Common.{eqb}
use Rattle.schema_graph.proofs.Numbers.{same_number}
use Rattle.schema_graph.proofs.Rounds.{same_loops}
use Rattle.schema_graph.proofs.laws.loops_are_walks_that_come_back.Goals as goal

pub returns : goal.returns
returns c = λ next places closed. same_loops next eqb same_number places closed
