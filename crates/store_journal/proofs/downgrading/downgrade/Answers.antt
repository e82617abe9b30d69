use Rattle.std.proofs.Common.{◌≡◌, ◌-◌, Bool, true, false, length, refl, ap, subst, sym, arith}
use Rattle.sector_device.specs.Disk.{LeavesOnly}
use Rattle.commit_slots.specs.declared.slot.Slot.{Slot}
use Rattle.half_journal.specs.Known.{Knows as HalfKnows}
use Rattle.half_journal.specs.States.{state_in as half_state_in}
use Rattle.store_journal.specs.Carries.{EitherCarried, half_of, turned}
use Rattle.store_journal.specs.Held.{IsOf, is_settled, numbers_of}
use Rattle.store_journal.specs.Models.{model}
use Rattle.store_journal.specs.Turning.{commit_turned}
use Rattle.store_journal.specs.declared.held.Held.{Held}
use Rattle.store_journal.proofs.Slots.{in_slots}
use Rattle.store_journal.proofs.downgrading.downgrade.Goals as goal

pub returns-clause-tried : goal.returns-clause-tried
returns-clause-tried g c = λ state honest is.
    let old = g.D.SectorDevice.disk c.args.device.now in
    let new = g.D.SectorDevice.disk c.to_half.new.device in
    let known = c.in-InSlots.known in
    let target = c.args.target.now in
    let half = c.in_ok-half-in-InSlots.half in
    let made = c.in_ok-half-in-InSlots.ensures in
    let settled : is_settled c.in-InSlots.awaits ≡ true = subst (λ (h : Held). (numbers_of h).settled ≡ true) c.in-InSlots.is c.requires.settled in
    let zeroth : known.slot.half ≡ 0 = subst (λ (h : Held). (numbers_of h).half ≡ 0) c.in-InSlots.is c.requires.half in
    let now = in_slots c.in-InSlots.awaits settled (subst (λ (h : Held). IsOf old h state) c.in-InSlots.is is) in
    let was : known.slot.half ≡ state.half = ap (λ (s : Slot). s.half) now.knows.slot_is in
    let other : 1 ≡ 1 - state.half = omega (arith, zeroth, was) in
    let same : half_state_in (commit_turned known.slot (length target)) target ≡ half_of (turned false 0 state target) =
    λ i. record { version = 2; half = other i; bytes = target; seq = (now.knows.slot_is i).seq; opens = (now.knows.slot_is i).opens } in
    record {
      any_moment = subst (λ (b : Bool). LeavesOnly (model b old) (model b new) (EitherCarried state (turned false 0 state target))) (sym now.rides_is) (made.any_moment state honest now);
      done = record { plain = refl; identity_is = refl; knows = subst (HalfKnows half) same made.knows; carried = made.done state honest now };
      stays = tt;
    }
