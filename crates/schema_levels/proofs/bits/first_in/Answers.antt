use Rattle.std.proofs.Common.{arith}
use Rattle.schema_levels.proofs.Words.{none_left, first_within, first_none}
use Rattle.schema_levels.proofs.bits.first_in.Goals as goal

pub returns-then-left-eq0-clause-none : goal.returns-then-left-eq0-clause-none
returns-then-left-eq0-clause-none c = λ k le lt. none_left c.args.word c.args.from k c.if-left-eq0.true le

pub returns-else-left-eq0-clause-at_most : goal.returns-else-left-eq0-clause-at_most
returns-else-left-eq0-clause-at_most c = first_within c.args.word c.args.from c.ranges.word.fits (let ne = c.if-left-eq0.false in omega arith)

pub returns-else-left-eq0-clause-none : goal.returns-else-left-eq0-clause-none
returns-else-left-eq0-clause-none c = first_none c.args.word c.args.from c.ranges.word.fits (let ne = c.if-left-eq0.false in omega arith)
