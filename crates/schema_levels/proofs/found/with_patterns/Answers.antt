use Rattle.std.proofs.Common.{◌+◌, [], ◌∷◌, drop, subst, arith}
use Rattle.schema_levels.proofs.Finding.{Left, begins_left, ends_left, goes_left, patterns_past, is_with, kept, kept_on, kept_with, only, patterns_left}
use Rattle.schema_levels.proofs.found.with_patterns.Goals as goal

pub loop-pattern-init : goal.loop-pattern-init
loop-pattern-init c = (begins_left c.args.before c.args.patterns.now, kept c.args.before)

pub loop-pattern-preserved : goal.loop-pattern-preserved
loop-pattern-preserved c =
    let p = c.pattern-item.result in
    let now = c.loop-pattern.sought in
    let rest = drop (c.loop-pattern.pattern-index + 1) c.args.patterns.now in
    let keeps = kept_with now c.with-sought.result p.number c.with-sought.ensures in (
      goes_left now c.with-sought.result (p ∷ []) rest c.args.patterns.now (subst (λ l. Left now l c.args.patterns.now) (patterns_left c.args.patterns.now c.loop-pattern.pattern-index p c.loop-pattern-test.true c.pattern-item.is) c.loop-pattern.invariant.0) keeps
          (only c.with-sought.result p (λ lt. is_with now c.with-sought.result p.number c.with-sought.ensures lt)),
      kept_on c.args.before now c.with-sought.result c.loop-pattern.invariant.1 keeps,
    )

pub returns-clause-all : goal.returns-clause-all
returns-clause-all c = ends_left c.loop-pattern.sought _ c.args.patterns.now (patterns_past c.args.patterns.now c.loop-pattern.pattern-index (omega (arith, c.loop-pattern-test.false))) c.loop-pattern.invariant.0
