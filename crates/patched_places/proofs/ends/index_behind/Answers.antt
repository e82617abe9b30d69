use Rattle.std.proofs.Common.{arith}
use Rattle.patched_places.proofs.AtEnd.{none_behind, none_named}
use Rattle.patched_places.proofs.ends.index_behind.Goals as goal

pub returns-else-index-len : goal.returns-else-index-len
returns-else-index-len c = none_behind c.args.len _ c.in-Some.index c.args.token.now c.index_within.result (omega arith) c.index_within.ensures.named c.in-Some.is c.if-index-len.false

pub returns-in-None : goal.returns-in-None
returns-in-None c = none_named c.args.len _ c.args.token.now c.index_within.result (omega arith) c.index_within.ensures.named c.in-None.is
