use Rattle.std.proofs.Common.{subst}
use Rattle.store_parts.specs.Copies.{IsBestOf, IsFoundAt}
use Rattle.store_parts.proofs.Commits.{best_first, best_none, best_other, best_stays}
use Rattle.store_parts.proofs.findings.higher.Goals as goal

pub returns-in_default-None-clause-best : goal.returns-in_default-None-clause-best
returns-in_default-None-clause-best c = λ sectors slots places best found. best_none sectors slots places c.args.one best (subst (IsFoundAt sectors slots places) c.in_default-None.is-1 found)

pub returns-in-None-Some-clause-best : goal.returns-in-None-Some-clause-best
returns-in-None-Some-clause-best c = λ sectors slots places best found.
    best_first sectors slots places c.in-None-Some.other (subst (IsBestOf sectors slots places) c.in-None-Some.is-0 best) (subst (IsFoundAt sectors slots places) c.in-None-Some.is-1 found)

pub returns-then-one-other-clause-best : goal.returns-then-one-other-clause-best
returns-then-one-other-clause-best c = λ sectors slots places best found.
    best_other sectors slots places c.in-Some-Some.one c.in-Some-Some.other c.if-one-other.true (subst (IsBestOf sectors slots places) c.in-Some-Some.is-0 best) (subst (IsFoundAt sectors slots places) c.in-Some-Some.is-1 found)

pub returns-else-one-other-clause-best : goal.returns-else-one-other-clause-best
returns-else-one-other-clause-best c = λ sectors slots places best found.
    best_stays sectors slots places c.in-Some-Some.one c.in-Some-Some.other c.if-one-other.false (subst (IsBestOf sectors slots places) c.in-Some-Some.is-0 best) (subst (IsFoundAt sectors slots places) c.in-Some-Some.is-1 found)
