use Rattle.std.proofs.Common.{rules, ◌≡◌, ◌∙◌, ◌+◌, ◌<◌, ◌≤◌, Some, None, drop, length, sym, ap, subst, arith}
use Rattle.std.proofs.lemmas.List.Sorted.{answers_always}
use Rattle.change_history.specs.History.{since}
use Rattle.change_history.proofs.After.{found, missing, since_here}
use Rattle.change_history.proofs.history.History.start.Goals as goal

pub returns-then-from-self-clause-start : goal.returns-then-from-self-clause-start
returns-then-from-self-clause-start c =
    let h = c.args.self.now.history in
    sym (since_here h.floor h.told c.args.from (c.if-from-self.true ∙ ap (λ r. r.history.floor) c.self.view_is))

-- the closure gives a transaction's number, and the queue is the history's transactions
pub returns-in-Ok : goal.returns-in-Ok
returns-in-Ok c =
    let h = c.self.inside in
    let by_last = c.in-Ok.ensures.position (λ t. t.last) (answers_always _ _ _ (λ f a r g called. search rules)) in
    let bound = c.in-Ok.ensures.bound in
    let len = h.told.ok.0 in
    let below : c.in-Ok.at < length h.told.items = omega (arith, bound, len) in record {
      start = subst (λ r. Some (drop (c.in-Ok.at + 1) r.history.told) ≡ since r.history.floor r.history.told c.args.from) c.self.view_is (sym (found h.floor h.told.items c.args.from c.in-Ok.at c.self.invariant.0.rises below by_last));
      bound = subst (λ r. c.in-Ok.at + 1 ≤ length r.history.told) c.self.view_is (omega (arith, below));
    }

pub returns-in-Err-clause-start : goal.returns-in-Err-clause-start
returns-in-Err-clause-start c =
    let h = c.self.inside in
    let by_last = c.in-Err.ensures.position (λ t. t.last) (answers_always _ _ _ (λ f a r g called. search rules)) in
    let bound = c.in-Err.ensures.bound in
    let len = h.told.ok.0 in
    let within : c.in-Err.field-0 ≤ length h.told.items = omega (arith, bound, len) in
    subst (λ r. None ≡ since r.history.floor r.history.told c.args.from) c.self.view_is (sym (missing h.floor h.told.items c.args.from c.in-Err.field-0 c.if-from-self.false c.self.invariant.0.rises within by_last))
