use Rattle.std.proofs.Common.{sym, subst}
use Rattle.schema_levels.specs.Known.{AllIn}
use Rattle.schema_levels.specs.NamePatterns.{patterns_by}
use Rattle.schema_levels.proofs.Finding.{is_with, kept_with, only}
use Rattle.schema_levels.proofs.found.with_rule.Goals as goal

pub returns-in-Matching-clause-all : goal.returns-in-Matching-clause-all
returns-in-Matching-clause-all c =
    let p = c.in-Matching.pattern in
    subst (λ r. AllIn c.with.result (patterns_by r)) (sym c.in-Matching.is) (only c.with.result p (λ lt. is_with c.args.before c.with.result p.number c.with.ensures lt))

pub returns-in-Matching-clause-keeps : goal.returns-in-Matching-clause-keeps
returns-in-Matching-clause-keeps c = kept_with c.args.before c.with.result c.in-Matching.pattern.number c.with.ensures
