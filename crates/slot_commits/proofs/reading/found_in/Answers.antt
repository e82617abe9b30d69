use Rattle.std.proofs.Common.{◌↔◌, ℕ, List, length, ap, subst, arith, IsTrue, Option}
use Rattle.commit_slots.specs.Finding.{IsFoundIn}
use Rattle.commit_slots.specs.declared.counted.Counted.{Counted}
use Rattle.slot_commits.specs.Finds.{HasBoth}
use Rattle.slot_commits.proofs.Survey.{both_there, counted_of, marked_there, reached_there}
use Rattle.slot_commits.proofs.Taken.{fresh_above}
use Rattle.slot_commits.proofs.reading.found_in.Goals as goal

pub holds_both-both-requires-clause-fits : goal.holds_both-both-requires-clause-fits
holds_both-both-requires-clause-fits c =
    let of = (counted_of c.args.slots.now c.args.sectors c.in_ok-counted_in.field-0 c.in-Some.counted c.in-Some.is c.requires.whole c.requires.room c.in_ok-counted_in.ensures).0 in
    omega (arith, of.tail_fits, ap length c.deref.ensures.value)

pub returns-in-None : goal.returns-in-None
returns-in-None c = λ image long begins.
    let slots = c.args.slots.now in
    let size = c.requires.whole in
    record {
      counted = subst (λ (o : Option Counted). IsFoundIn image o) c.in-None.is (c.in_ok-counted_in.ensures image long begins);
      beside = tt;
      fresh = fresh_above slots image c.highest_in-highest.result size begins c.highest_in-highest.ensures.above;
      reached = reached_there slots image size begins c.highest_in-highest.result c.highest_in-highest.ensures.reached;
      marked = marked_there slots image size begins c.marks-marked.result c.marks-marked.ensures;
    }

pub returns-in_ok-other-in-Some : goal.returns-in_ok-other-in-Some
returns-in_ok-other-in-Some c = λ image long begins.
    let slots = c.args.slots.now in
    let size = c.requires.whole in
    let counted = c.in-Some.counted in
    let of = (counted_of slots c.args.sectors c.in_ok-counted_in.field-0 counted c.in-Some.is size c.requires.room c.in_ok-counted_in.ensures).0 in
    let both = subst (λ (l : List ℕ). IsTrue c.holds_both-both.result ↔ HasBoth counted.slot l slots) c.deref.ensures.value c.holds_both-both.ensures in
    record {
      counted = subst (λ (o : Option Counted). IsFoundIn image o) c.in-Some.is (c.in_ok-counted_in.ensures image long begins);
      beside = (both_there slots image size begins counted.slot counted.tail.items c.holds_both-both.result of.tail_fits both, c.in_ok-other-in-Some.ensures image long begins);
      fresh = fresh_above slots image c.highest_in-highest.result size begins c.highest_in-highest.ensures.above;
      reached = reached_there slots image size begins c.highest_in-highest.result c.highest_in-highest.ensures.reached;
      marked = marked_there slots image size begins c.marks-marked.result c.marks-marked.ensures;
    }
