use Rattle.std.proofs.Common.{◌≡◌, ◌++◌, ◌∷◌, [], ◌∙◌, ap, sym, subst, List, map, length, arith, add-one, ◌+◌}
use Rattle.std.proofs.lemmas.List.{map-append, append-nil, append_assoc, nil_from_length}
use Rattle.std.specs.Vec.Iter.{into_iter_items}
use Rattle.store_commits.specs.Events.{event_of}
use Rattle.store_commits.specs.Run.{Ran}
use Rattle.store_commits.specs.declared.event.Event.{Event as ProgramEvent}
use Rattle.store_commits.proofs.Modelled.{both_models}
use Rattle.store_commits.proofs.Running.{ran_joined, ran_nothing}
use Rattle.doc_store.proofs.store.Store.run.Goals as goal

pub loop-event-init : goal.loop-event-init
loop-event-init g c =
    let items = c.into_iter-event-iterator.ensures.into_iter_gives.0 in
    let made = c.in_ok-replies.ensures in
    record {
      ran = rw made.items (ran_nothing g.D.SectorDevice.disk (both_models g.D.SectorDevice.disk g.met.D.SectorDevice.coherent g.met.D.SectorDevice.torn_coherent) c.args.self.now c.know.ensures.standing);
      standing = c.know.ensures.standing;
      good = c.know.ensures.good;
      left = sym items;
      room = omega (arith, ap length items, c.len.ensures, c.args.events.ok, made.len, made.exact);
      can_next = tt;
      is_finite = tt;
    }

pub loop-event-preserved : goal.loop-event-preserved
loop-event-preserved g c =
    let l = c.loop-event in
    let e = c.in-Some.event in
    let r = c.answer-reply.result in
    let rest = into_iter_items c.next.new.self in
    let steps = c.in-Some.ensures.steps.0 in
    let items = rw c.unwrap.ensures at c.push.ensures.items in
    let pushed = rw c.unwrap.ensures at c.push.ensures.len in
    let len : length (into_iter_items l.event-iterator) ≡ length rest + 1 = ap length steps ∙ sym (add-one (length rest)) in
    record {
      ran = rw items (simp map-append (ran_joined g.D.SectorDevice.disk (both_models g.D.SectorDevice.disk g.met.D.SectorDevice.coherent g.met.D.SectorDevice.torn_coherent) c.args.self.now l.self c.answer-reply.new.self
          (map event_of l.yielded) (event_of e ∷ []) l.replies.items (r ∷ []) l.invariant.ran c.answer-reply.ensures.ran));
      standing = c.answer-reply.ensures.standing;
      good = c.answer-reply.ensures.good;
      left = l.invariant.left ∙ ap (λ (es : List ProgramEvent). l.yielded ++ es) steps ∙ sym (append_assoc l.yielded (e ∷ []) rest);
      room = omega (arith, len, l.invariant.room, pushed, c.push.ensures.capacity);
      can_next = tt;
      is_finite = tt;
    }

pub returns-clause-ran : goal.returns-clause-ran
returns-clause-ran g c =
    let l = c.loop-event in
    let none : into_iter_items l.event-iterator ≡ [] = nil_from_length _ (sym l.event-iterator.rest.ok.0 ∙ c.in-None.ensures.steps.0) in
    let all : c.args.events.items ≡ l.yielded = l.invariant.left ∙ ap (λ (es : List ProgramEvent). l.yielded ++ es) none ∙ append-nil l.yielded in
    subst (λ (es : List ProgramEvent). Ran g.D.SectorDevice.disk c.args.self.now l.self (map event_of es) l.replies.items) (sym all) l.invariant.ran
