use Rattle.std.proofs.Common.{◌≡◌, ◌-◌, ⊎_elim, inl, inr, List, Bool, true, refl, sym, ◌∙◌, ap, subst, map}
use Rattle.store_journal.specs.Models.{model}
use Rattle.doc_changes.specs.Refusals.{plain}
use Rattle.doc_changes.specs.State.{State}
use Rattle.refusals.specs.declared.numbers.TheConstants.{DEVICE}
use Rattle.doc_store.specs.Lives.{events_of, replies_of}
use Rattle.doc_store.specs.Ending.{Told}
use Rattle.doc_store.specs.Timed.{left}
use Rattle.store_commits.specs.Events.{event_of}
use Rattle.store_commits.specs.Images.{rides_for}
use Rattle.store_commits.specs.Run.{Event}
use Rattle.store_commits.proofs.Modelled.{both_models}
use Rattle.doc_store.proofs.Ending.{failed_to_open, leaves_opened, leaves_unopened, rooms_unopened, sized_unopened, unopened}
use Rattle.doc_store.proofs.Opened.{why_of}
use Rattle.doc_store.proofs.Rides.{model_adds, of_format, stands_rides}
use Rattle.doc_store.proofs.Timing.{late_from, left_has_room, run_leaves, timely_from}
use Rattle.doc_store.proofs.living.spend.Goals as goal

pub returns-clause-leaves : goal.returns-clause-leaves
returns-clause-leaves g c = rw c.into_device.ensures.device (λ s life settled same all alone honest image is_left.
    let disk = g.D.SectorDevice.disk in
    let given = disk c.args.device in
    let opened = c.in-Ok.ensures.opened in
    let start = c.in-Ok.store in
    let end = c.ask_all.new.store in
    let told = subst (λ (es : List Event). Told disk start end es c.ask_all.new.self) (ap (λ events. map event_of events.items) (sym same)) c.ask_all.ensures.told in
    let faults = (disk end.device).own_failures - given.own_failures in
    let at_open = told.ran.lasts.honest.1 honest in
    let at_first = c.in-Ok.ensures.honest at_open in
    let coherent = g.met.D.SectorDevice.coherent c.args.device at_first in
    let sectors = opened.sectors_is ∙ sym (coherent.shape given.seen coherent.seen).count in
    let state = c.in-Ok.ensures.exact s (all given.seen (model_adds (rides_for s.profile) given (g.met.D.SectorDevice.torn_coherent c.args.device at_first) given.seen coherent.seen)) at_open in
    let found = opened.found at_open in
    let rides : start.account.rides ≡ rides_for s.profile = found.opened_as.rides_is ∙ stands_rides start.account.state given.seen found.stands ∙ ap (λ (t : State). rides_for t.profile) state in
    let in_first = subst (λ (r : Bool). (model r (disk end.device)).left image) (sym rides) is_left in
    let in_last = subst (λ (r : Bool). (model r (disk end.device)).left image) (sym told.ran.lasts.rides_is) in_first in
    leaves_opened disk given start end faults settled s life c.ask_all.new.self c.status-began.result.seq told at_open opened.works opened.no_copy state
    (ap (λ status. status.seq) c.status-began.ensures.status ∙ ap (λ state. state.seq) state) image in_first
    (λ t. timely_from disk c.args.device start end life.stop (events_of life) (replies_of c.ask_all.new.self) opened.works c.know.ensures.stands_as found opened.blocks
    (rw (opened.found_is at_open) (opened.names at_open)) sectors (rw (opened.found_is at_open) opened.made) told.ran s settled (left t image true) refl honest in_last))

pub returns-in-Err-clause-leaves : goal.returns-in-Err-clause-leaves
returns-in-Err-clause-leaves g c = λ s life settled same all alone honest image is_left.
    let old = g.D.SectorDevice.disk c.args.device in
    let new = g.D.SectorDevice.disk c.in-Err.fault.device in
    let rides = rides_for s.profile in
    let at_first = c.in-Err.ensures.honest_err honest in
    let was = g.met.D.SectorDevice.coherent c.args.device at_first in
    let now = both_models g.D.SectorDevice.disk g.met.D.SectorDevice.coherent g.met.D.SectorDevice.torn_coherent rides c.in-Err.fault.device honest in
    let stands = all old.seen (model_adds rides old (g.met.D.SectorDevice.torn_coherent c.args.device at_first) old.seen was.seen) in
    let either = unopened rides old new s stands now (c.in-Err.ensures.any_moment_err honest rides (of_format s old.seen stands)) image is_left in
    let number : c.in-Err.fault.number ≡ DEVICE =
    ⊎_elim (λ device. device) (⊎_elim (λ memory. absurd (c.if-number-eq-MEMORY.false memory)) (λ none. absurd (c.if-number-eq-NO_ROOM.false none.0))) (c.in-Err.ensures.exact s stands honest) in
    leaves_unopened old (new.own_failures - old.own_failures) settled s life c.in_ok-part.part image c.in_ok-part.ensures.nothing
    (late_from rides old new life.stop s stands (failed_to_open old new s stands ((why_of old new c.in-Err.fault.number c.in-Err.ensures.refused).1 number) honest) settled (left s image true) alone refl
    (⊎_elim inl (λ other. inr other.1) either) (sized_unopened rides old new was now (c.in-Err.ensures.sectors_err honest) image is_left))
    (⊎_elim (all image) (λ other. other.0) either)

pub returns-then-number-eq-MEMORY-clause-err : goal.returns-then-number-eq-MEMORY-clause-err
returns-then-number-eq-MEMORY-clause-err g c =
    let fault = c.in-Err.fault in
    let why = why_of (g.D.SectorDevice.disk c.args.device) (g.D.SectorDevice.disk fault.device) fault.number c.in-Err.ensures.refused in
    ⊎_elim (λ memory. inl (c.plain.ensures ∙ ap plain memory)) (λ none. inr (c.plain.ensures ∙ ap plain none.1, (λ honest. (why.0 none.1).no_room (honest fault.device)))) c.then-number-eq-MEMORY.either

-- ---- the room of a half

pub returns-clause-rooms : goal.returns-clause-rooms
returns-clause-rooms g c = rw c.into_device.ensures.device (λ s all honest lacks.
    let disk = g.D.SectorDevice.disk in
    let told = c.ask_all.ensures.told in
    let last = c.ask_all.new.store in
    absurd (left_has_room told.ran.commits last.account lacks.0
    (run_leaves disk c.in-Ok.store last (map event_of c.args.events.items) (replies_of c.ask_all.new.self) told.ran c.in-Ok.ensures.opened.works c.know.ensures.stands_as honest lacks.0
    (model_adds last.account.rides (disk last.device) (g.met.D.SectorDevice.torn_coherent last.device honest) lacks.0 lacks.1)) lacks.2))

pub returns-in-Err-clause-rooms : goal.returns-in-Err-clause-rooms
returns-in-Err-clause-rooms g c = λ s all honest lacks.
    let disk = g.D.SectorDevice.disk in
    let old = disk c.args.device in
    let new = c.in-Err.fault.device in
    let rides = rides_for s.profile in
    let at_first = c.in-Err.ensures.honest_err honest in
    let was = g.met.D.SectorDevice.coherent c.args.device at_first in
    let stands = all old.seen (model_adds rides old (g.met.D.SectorDevice.torn_coherent c.args.device at_first) old.seen was.seen) in
    rooms_unopened rides old (disk new) s refl was (λ r. both_models disk g.met.D.SectorDevice.coherent g.met.D.SectorDevice.torn_coherent r new honest) (g.met.D.SectorDevice.torn_coherent new honest) (c.in-Err.ensures.sectors_err honest)
    (c.in-Err.ensures.any_moment_err honest rides (of_format s old.seen stands)) all stands lacks
