use Rattle.std.proofs.Common.{◌≤◌, sym, ◌∙◌, ap, List, [], ◌∷◌, length, length-append, take, take_all, drop, arith}
use Rattle.std.proofs.lemmas.List.{take-append-le}
use Rattle.doc_changes.specs.State.{State}
use Rattle.doc_machine.specs.Trial.{first_or}
use Rattle.doc_machine.proofs.Pasts.{state_kept, state_all}
use Rattle.doc_machine.proofs.machine.trial.Trial.keep.Goals as goal

more : (c : goal.After-len-left-in-loop-left) → c.args.oldest ≤ length c.revert.new.self.past
more c =
    let size = ap length c.revert.ensures in
    let now = c.loop-left.invariant.left in
    omega (arith, size, now, length-append c.revert.new.self.past (c.revert.new.self.state ∷ []), c.loop-left-test.true)

pub loop-left-smaller : goal.loop-left-smaller
loop-left-smaller c =
    let size = ap length c.revert.ensures in
    let now = c.loop-left.invariant.left in
    omega (arith, size, now, length-append c.revert.new.self.past (c.revert.new.self.state ∷ []), c.len-left-in-loop-left.ensures.len)

pub loop-left-preserved : goal.loop-left-preserved
loop-left-preserved c = record {
  state = sym (state_kept c.args.oldest c.loop-left.self.state c.revert.new.self.state c.revert.new.self.past (more c))
      ∙ ap (λ (l : List State). first_or c.loop-left.self.state (drop c.args.oldest l)) (sym c.revert.ensures) ∙ c.loop-left.invariant.state;
  past = sym (take-append-le c.args.oldest c.revert.new.self.past (c.revert.new.self.state ∷ []) (more c))
      ∙ ap (take c.args.oldest) (sym c.revert.ensures) ∙ c.loop-left.invariant.past;
  left = c.len-left-in-loop-left.ensures.len;
  good = c.len-left-in-loop-left.ensures.good;
}

few : (c : goal.After-loop-left) → length c.loop-left.self.past ≤ c.args.oldest
few c = let now = c.loop-left.invariant.left in omega (arith, now, c.loop-left-test.false)

pub returns-clause-state : goal.returns-clause-state
returns-clause-state c = sym (state_all c.args.oldest c.loop-left.self.state c.loop-left.self.past (few c)) ∙ c.loop-left.invariant.state

pub returns-clause-past : goal.returns-clause-past
returns-clause-past c = sym (take_all c.args.oldest c.loop-left.self.past (few c)) ∙ c.loop-left.invariant.past
