use Rattle.schema_nodes.proofs.Naming.{Naming}
use Rattle.schema_nodes.proofs.names.numbers_named.Given as goal

abbrev pub invariant-loop-key : goal.invariant-loop-key
invariant-loop-key l = Naming l.named.entries l.row l.numbers.entries l.key-iterator.a l.key-iterator.b.rest.now
