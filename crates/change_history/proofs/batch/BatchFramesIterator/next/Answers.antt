use Rattle.std.proofs.Common.{◌+◌, ◌∙◌, arith, subst, sym}
use Rattle.std.specs.Vec.Iter.{into_iter_items}
use Rattle.change_history.specs.Frames.{EndsWith}
use Rattle.change_history.proofs.Blocks.{first_part, next_ends}
use Rattle.change_history.proofs.batch.BatchFramesIterator.next.Goals as goal

pub of-requires-clause-within : goal.of-requires-clause-within
of-requires-clause-within c =
    let b = c.self.inside in
    let own = c.in_ok-own.own in
    let fits = first_part b.block c.in-Some.block b.from (into_iter_items b.left) own (into_iter_items c.next.new.self) c.self.invariant c.in-Some.is c.in_ok-own.ensures.cases.0 in
    let size = c.len.ensures in
    let ok = own.ok.0 in
    omega (arith, fits, size, ok)

pub invariant_of-self-2 : goal.invariant_of-self-2
invariant_of-self-2 c =
    let b = c.self.inside in
    let own = c.in_ok-own.own in
    let ends = next_ends b.block c.in-Some.block b.from (into_iter_items b.left) own (into_iter_items c.next.new.self) c.self.invariant c.in-Some.is c.in_ok-own.ensures.cases.0 in
    subst (λ n. EndsWith b.block (b.from + n) (into_iter_items c.next.new.self)) (sym (c.len.ensures ∙ own.ok.0)) ends
