use Rattle.schema_graph.proofs.Rounds.{same_loops}
use Rattle.doc_schema.specs.Loops.{leads}
use Rattle.doc_schema.specs.Positions.{positions}
use Rattle.doc_schema.proofs.Lifted.{same_position, same_position-Decides}
use Rattle.doc_schema.proofs.Placed.{closed}
use Rattle.doc_schema.proofs.laws.loops_are_walks_that_come_back.Goals as goal

pub returns : goal.returns
returns c = λ schema. same_loops (leads schema) same_position same_position-Decides (positions schema) (closed schema)
