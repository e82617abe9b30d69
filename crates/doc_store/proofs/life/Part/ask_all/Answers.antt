use Rattle.std.proofs.Common.{◌≡◌, ◌++◌, ◌∷◌, [], ◌∙◌, ap, sym, subst, List, map, length, arith, add-one, ℕ, ◌+◌}
use Rattle.std.proofs.lemmas.List.{map-append, append-nil, append_assoc, nil_from_length}
use Rattle.std.specs.Vec.Iter.{into_iter_items}
use Rattle.store_commits.proofs.Modelled.{both_models}
use Rattle.doc_store.proofs.Telling.{told_nothing}
use Rattle.store_commits.specs.Events.{event_of}
use Rattle.doc_store.specs.Ending.{Told, HasPlaces}
use Rattle.store_commits.specs.declared.event.Event.{Event as ProgramEvent}
use Rattle.doc_store.proofs.life.Part.ask_all.Goals as goal

pub loop-event-init : goal.loop-event-init
loop-event-init g c =
    let items = c.into_iter-event-iterator.ensures.into_iter_gives.0 in
    record {
      told = told_nothing g.D.SectorDevice.disk (both_models g.D.SectorDevice.disk g.met.D.SectorDevice.coherent g.met.D.SectorDevice.torn_coherent) c.args.store.now c.args.self.now c.requires.nothing c.know.ensures.standing;
      standing = c.know.ensures.standing;
      left = sym items;
      room = subst (λ (l : List ProgramEvent). HasPlaces (length l) c.args.self.now) (sym items) c.requires.room;
      can_next = tt;
      is_finite = tt;
    }

pub ask-requires-clause-room : goal.ask-requires-clause-room
ask-requires-clause-room g c =
    let len = ap length c.in-Some.ensures.steps.0 in
    let room = c.loop-event.invariant.room in
    record { replies = omega (arith, len, room.replies); accepted = omega (arith, len, room.accepted); acknowledged = omega (arith, len, room.acknowledged) }

pub loop-event-preserved : goal.loop-event-preserved
loop-event-preserved g c =
    let l = c.loop-event in
    let e = c.in-Some.event in
    let rest = into_iter_items c.next.new.self in
    let steps = c.in-Some.ensures.steps.0 in
    let len : length (into_iter_items l.event-iterator) ≡ length rest + 1 = ap length steps ∙ sym (add-one (length rest)) in
    record {
      told = simp map-append (c.ask.ensures.told c.args.store.now (map event_of l.yielded) l.invariant.told);
      standing = c.ask.ensures.standing;
      left = l.invariant.left ∙ ap (λ (es : List ProgramEvent). l.yielded ++ es) steps ∙ sym (append_assoc l.yielded (e ∷ []) rest);
      room = c.ask.ensures.room (length rest) (subst (λ (n : ℕ). HasPlaces n l.self) len l.invariant.room);
      can_next = tt;
      is_finite = tt;
    }

pub returns-clause-told : goal.returns-clause-told
returns-clause-told g c =
    let l = c.loop-event in
    let steps = c.in-None.ensures.steps.0 in
    let none : into_iter_items l.event-iterator ≡ [] = nil_from_length _ (sym l.event-iterator.rest.ok.0 ∙ steps) in
    let all : c.args.events.items ≡ l.yielded = l.invariant.left ∙ ap (λ (es : List ProgramEvent). l.yielded ++ es) none ∙ append-nil l.yielded in
    subst (λ (es : List ProgramEvent). Told g.D.SectorDevice.disk c.args.store.now l.store (map event_of es) l.self) (sym all) l.invariant.told
