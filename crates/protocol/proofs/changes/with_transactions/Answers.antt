use Rattle.std.proofs.Common.{◌≡◌, [], ℕ, List, true, false, ap, subst, sym}
use Rattle.std.proofs.lemmas.Result.{IfOk-weaker}
use Rattle.std.specs.VecDeque.Iter.{deque_iter_rest}
use Rattle.change_history.specs.History.{Told}
use Rattle.protocol.specs.Changes.{AreToldFrom}
use Rattle.protocol.proofs.Frames.{next}
use Rattle.protocol.proofs.Told.{TellsOn, no_more, tells, tells_all, tells_more}
use Rattle.protocol.proofs.changes.with_transactions.Goals as goal

pub loop-transaction-init : goal.loop-transaction-init
loop-transaction-init c =
    let line = c.args.line.items in
    let same = ap (deque_iter_rest {X = Told}) c.into_iter-transaction-iterator.ensures.into_iter_gives in
    record {
      can_next = tt;
      is_finite = tt;
      left = (c.requires.0, subst (λ (rest : List Told). AreToldFrom c.args.from rest c.requires.0) (sym same) c.requires.1);
      line = λ ts told. subst (λ (rest : List Told). TellsOn c.args.from ts line line false c.args.from rest) (sym same) (tells c.args.from ts line (deque_iter_rest c.args.told) told);
    }

pub with_transaction-requires : goal.with_transaction-requires
with_transaction-requires c =
    let l = c.loop-transaction in
    let left = l.invariant.left in
    let n = next l.before (deque_iter_rest l.transaction-iterator) c.in-Some.transaction.now (deque_iter_rest c.next.new.self) left.0 left.1 c.in-Some.ensures.steps in
    (n.first, n.one)

pub loop-transaction-preserved : goal.loop-transaction-preserved
loop-transaction-preserved c =
    let l = c.loop-transaction in
    let rest = deque_iter_rest l.transaction-iterator in
    let more = deque_iter_rest c.next.new.self in
    let x = c.in-Some.transaction.now in
    let left = l.invariant.left in
    let n = next l.before rest x more left.0 left.1 c.in-Some.ensures.steps in
    let last : c.transaction.inside.last ≡ x.last = ap (λ (t : Told). t.last) c.transaction.view_is in
    record {
      can_next = tt;
      is_finite = tt;
      left = (n.others, subst (λ (k : ℕ). AreToldFrom k more n.others) (sym last) n.rest);
      line = λ ts told. subst (λ (k : ℕ). TellsOn c.args.from ts c.args.line.items c.in_ok-longer.longer.items true k more) (sym last)
          (tells_more c.args.from ts c.args.line.items l.longer.items l.later l.before rest x more c.in_ok-parted.parted.items c.in_ok-longer.longer.items (l.invariant.line ts told) c.in-Some.ensures.steps c.in_ok-parted.ensures c.in_ok-longer.ensures);
    }

pub returns : goal.returns
returns c = λ ts told.
    let l = c.loop-transaction in
    let none : deque_iter_rest l.transaction-iterator ≡ [] = no_more (deque_iter_rest l.transaction-iterator) c.in-None.ensures.steps.0 in
    IfOk-weaker c.with_bytes.result _ _ (λ longer is. tells_all c.args.from ts c.args.line.items l.longer.items l.later l.before (deque_iter_rest l.transaction-iterator) longer.items (l.invariant.line ts told) none is) c.with_bytes.ensures
