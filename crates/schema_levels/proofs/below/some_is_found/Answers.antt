use Rattle.std.proofs.Common.{refl, sym, ◌∙◌}
use Rattle.schema_levels.proofs.Finding.{looking_on, looking_found}
use Rattle.schema_levels.proofs.below.some_is_found.Goals as goal

pub loop-pattern-preserved : goal.loop-pattern-preserved
loop-pattern-preserved c = looking_on c.args.found c.args.patterns.now c.loop-pattern.pattern-index c.pattern-item.result c.loop-pattern-test.true c.pattern-item.is c.if-has.ensures c.loop-pattern.invariant

pub returns-then-has : goal.returns-then-has
returns-then-has c = looking_found c.args.found c.args.patterns.now c.loop-pattern.pattern-index c.pattern-item.result c.loop-pattern-test.true c.pattern-item.is c.if-has.ensures c.loop-pattern.invariant
