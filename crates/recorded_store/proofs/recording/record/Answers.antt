use Rattle.std.proofs.Common.{◌∙◌, ◌+◌, ◌++◌, ℕ, List, Vec, Global, length, drop, arith, refl, sym, ap, subst}
use Rattle.change_history.specs.History.{History, newest, with_each}
use Rattle.store_commits.specs.Given.{bytes_each}
use Rattle.store_commits.specs.declared.event.Reply.TheVariants.{Done}
use Rattle.recorded_store.specs.Numbers.{Rise, numbers_in, told_with}
use Rattle.recorded_store.proofs.Telling.{not_done, numbers_past, numbers_step}
use Rattle.recorded_store.proofs.recording.record.Goals as goal

pub loop-reply-init : goal.loop-reply-init
loop-reply-init c =
    let bytes = c.new-given.ensures in
    let replies = c.deref-reply-items.ensures.value in
    let numbers = ap numbers_in replies in
    let h = c.args.history.now.history in
    let room = c.requires.room in
    let count = ap length bytes in
    record {
      each = ap length numbers ∙ c.requires.each ∙ sym count;
      rise = subst (λ (ns : List ℕ). Rise (newest h.floor h.told) ns) (sym numbers) c.requires.rise;
      room = omega (arith, room, count);
      told = (λ i. with_each h (told_with (numbers i) (bytes i)));
    }

pub loop-reply-preserved-in_default : goal.loop-reply-preserved-in_default
loop-reply-preserved-in_default c =
    let l = c.loop-reply in
    let rs = c.deref-reply-items.result.now in
    let step = numbers_step rs l.reply-index _ (Done 0) c.loop-reply-test.true refl ∙ ap (λ (ns : List ℕ). ns ++ numbers_in (drop (l.reply-index + 1) rs)) (not_done _ c.in_default.not-Done) in
    record {
      each = ap length (sym step) ∙ l.invariant.each;
      rise = subst (λ (ns : List ℕ). Rise (newest l.history.history.floor l.history.history.told) ns) step l.invariant.rise;
      room = l.invariant.room;
      told = ap (λ (ns : List ℕ). with_each l.history.history (told_with ns l.given)) (sym step) ∙ l.invariant.told;
    }

pub unreachable-requires : goal.unreachable-requires
unreachable-requires c =
    let l = c.loop-reply in
    let rs = c.deref-reply-items.result.now in
    let step = ap length (numbers_step rs l.reply-index (Done c.in-Done.last) (Done 0) c.loop-reply-test.true c.in-Done.is) in
    let all = l.invariant.each in
    let none = ap length c.in_default-next.ensures.steps.0 in
    omega (arith, step, all, none)

pub push-requires-clause-room : goal.push-requires-clause-room
push-requires-clause-room c =
    let l = c.loop-reply in
    let room = l.invariant.room in
    let count = ap length c.in-Some.ensures.steps in
    omega (arith, room, count)

pub push-requires-clause-larger : goal.push-requires-clause-larger
push-requires-clause-larger c =
    let l = c.loop-reply in
    let rs = c.deref-reply-items.result.now in
    let step = numbers_step rs l.reply-index (Done c.in-Done.last) (Done 0) c.loop-reply-test.true c.in-Done.is in
    let rise = subst (λ (ns : List ℕ). Rise (newest l.history.history.floor l.history.history.told) ns) step l.invariant.rise in
    rise.0

pub loop-reply-preserved : goal.loop-reply-preserved
loop-reply-preserved c =
    let l = c.loop-reply in
    let rs = c.deref-reply-items.result.now in
    let h = l.history.history in
    let k = c.push.new.self.history in
    let step = numbers_step rs l.reply-index (Done c.in-Done.last) (Done 0) c.loop-reply-test.true c.in-Done.is in
    let bytes = c.in-Some.ensures.steps in
    let rise = subst (λ (ns : List ℕ). Rise (newest h.floor h.told) ns) step l.invariant.rise in
    let numbers = ap length step in
    let count = ap length bytes in
    let all = l.invariant.each in
    let room = l.invariant.room in
    let len = c.push.ensures.len in
    let capacity = c.push.ensures.capacity in
    record {
      each = omega (arith, numbers, count, all);
      rise = subst (λ (n : ℕ). Rise n (numbers_in (drop (l.reply-index + 1) rs))) (sym c.push.ensures.newest) rise.1;
      room = omega (arith, room, count, len, capacity);
      told = ap (λ (x : History). with_each x (told_with (numbers_in (drop (l.reply-index + 1) rs)) c.next.new.self)) c.push.ensures.pushed
          ∙ (λ i. with_each h (told_with (sym step i) (sym bytes i))) ∙ l.invariant.told;
    }

pub returns-clause-told : goal.returns-clause-told
returns-clause-told c =
    let l = c.loop-reply in
    let rs = c.deref-reply-items.result.now in
    let none = numbers_past rs l.reply-index c.loop-reply-test.false in
    ap (λ (ns : List ℕ). with_each l.history.history (told_with ns l.given)) (sym none) ∙ l.invariant.told
