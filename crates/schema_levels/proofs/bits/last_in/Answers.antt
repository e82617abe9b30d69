use Rattle.std.proofs.Common.{arith}
use Rattle.schema_levels.proofs.Words.{none_low, last_below}
use Rattle.schema_levels.proofs.bits.last_in.Goals as goal

pub returns-then-low-eq0 : goal.returns-then-low-eq0
returns-then-low-eq0 c = λ k lt. none_low c.args.word c.args.upto k c.requires c.if-low-eq0.true lt

pub returns-else-low-eq0 : goal.returns-else-low-eq0
returns-else-low-eq0 c = last_below c.args.word c.args.upto c.ranges.word.fits c.requires (let ne = c.if-low-eq0.false in omega arith)
