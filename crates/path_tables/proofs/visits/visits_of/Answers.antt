use Rattle.std.proofs.Common.{subst, sym}
use Rattle.std.specs.List.{AllByRecursion}
use Rattle.path_tables.proofs.Once.{visit_more}
use Rattle.path_tables.specs.Visits.{IsVisit}
use Rattle.path_tables.proofs.visits.visits_of.Goals as goal
use Rattle.path_tables.proofs.visits.visits_of.Goals.{then-not-is_last+in_ok-push, else-not-is_last}

pub loop-number-preserved : goal.loop-number-preserved
loop-number-preserved c = λ ss descend x listed.
    let l = c.loop-number in
    let h = l.invariant ss descend x listed in
    elim c.if-not-is_last.branch [
      | then-not-is_last+in_ok-push w ↦ rw w.visits-is (subst (AllByRecursion (IsVisit ss descend x listed)) (sym w.in_ok-push.ensures.items) (visit_more (IsVisit ss descend x listed) l.visits.items _ h tt))
      | else-not-is_last w ↦ rw w.visits-is h
    ]
