use Rattle.std.proofs.Common.{subst}
use Rattle.commit_slots.specs.Finding.{IsBestOf, IsFoundAt}
use Rattle.commit_slots.proofs.Four.{best_first, best_none, best_other, best_stays}
use Rattle.commit_slots.proofs.counted.higher.Goals as goal

pub returns-in_default-None : goal.returns-in_default-None
returns-in_default-None c = λ image places best found. best_none image places c.args.one best (subst (IsFoundAt places image) c.in_default-None.is-1 found)

pub returns-in-None-Some : goal.returns-in-None-Some
returns-in-None-Some c = λ image places best found. best_first image places c.in-None-Some.other (subst (IsBestOf places image) c.in-None-Some.is-0 best) (subst (IsFoundAt places image) c.in-None-Some.is-1 found)

pub returns-then-one-other : goal.returns-then-one-other
returns-then-one-other c = λ image places best found.
    best_other image places c.in-Some-Some.one c.in-Some-Some.other c.if-one-other.true (subst (IsBestOf places image) c.in-Some-Some.is-0 best) (subst (IsFoundAt places image) c.in-Some-Some.is-1 found)

pub returns-else-one-other : goal.returns-else-one-other
returns-else-one-other c = λ image places best found.
    best_stays image places c.in-Some-Some.one c.in-Some-Some.other c.if-one-other.false (subst (IsBestOf places image) c.in-Some-Some.is-0 best) (subst (IsFoundAt places image) c.in-Some-Some.is-1 found)
