use Rattle.std.proofs.Common.{◌≡◌, ◌+◌, ◌-◌, ◌*◌, List, ℕ, take, drop, ap, arith, refl}
use Rattle.commit_slots.specs.Slots.{IsHeld, IsSlotOf}
use Rattle.commit_slots.specs.declared.slot.Slot.{Slot}
use Rattle.store_parts.proofs.Commits.{commit_in, none_in, none_is, other_in, some_is}
use Rattle.store_parts.proofs.findings.held_in.Goals as goal

pub returns-in-None : goal.returns-in-None
returns-in-None c =
    let slots = c.args.slots.now in
    let place = c.args.place in
    let part = take (32 * place + 32 - 32 * place) (drop (32 * place) slots) in
    let width : 32 * place + 32 - 32 * place ≡ 32 = omega arith in
    none_in c.args.sectors slots part place (ap (λ (n : ℕ). take n (drop (32 * place) slots)) width)
    (none_is c.in_ok-slot_in.field-0 ((one : Slot) (rest : List ℕ) → IsSlotOf c.args.sectors one rest → IsHeld one rest 0 part → ⊥) (λ held. IsSlotOf c.args.sectors held.0 held.1.items × IsHeld held.0 held.1.items 0 part) c.in_ok-slot_in.ensures c.in-None.is)

pub returns-then-slot-place : goal.returns-then-slot-place
returns-then-slot-place c =
    let slots = c.args.slots.now in
    let place = c.args.place in
    let part = take (32 * place + 32 - 32 * place) (drop (32 * place) slots) in
    let width : 32 * place + 32 - 32 * place ≡ 32 = omega arith in
    let found = some_is c.in_ok-slot_in.field-0 (c.in-Some.slot, c.in-Some.tail) ((one : Slot) (rest : List ℕ) → IsSlotOf c.args.sectors one rest → IsHeld one rest 0 part → ⊥)
    (λ held. IsSlotOf c.args.sectors held.0 held.1.items × IsHeld held.0 held.1.items 0 part) c.in_ok-slot_in.ensures c.in-Some.is in (
      record {
        commit = commit_in c.args.sectors slots part place (ap (λ (n : ℕ). take n (drop (32 * place) slots)) width) c.in-Some.slot c.in-Some.tail.items found.0 found.1 c.if-slot-place.true;
        place = c.requires.place;
      },
      refl,
    )

pub returns-else-slot-place : goal.returns-else-slot-place
returns-else-slot-place c =
    let slots = c.args.slots.now in
    let place = c.args.place in
    let part = take (32 * place + 32 - 32 * place) (drop (32 * place) slots) in
    let width : 32 * place + 32 - 32 * place ≡ 32 = omega arith in
    let found = some_is c.in_ok-slot_in.field-0 (c.in-Some.slot, c.in-Some.tail) ((one : Slot) (rest : List ℕ) → IsSlotOf c.args.sectors one rest → IsHeld one rest 0 part → ⊥)
    (λ held. IsSlotOf c.args.sectors held.0 held.1.items × IsHeld held.0 held.1.items 0 part) c.in_ok-slot_in.ensures c.in-Some.is in
    other_in c.args.sectors slots part place (ap (λ (n : ℕ). take n (drop (32 * place) slots)) width) c.in-Some.slot c.in-Some.tail.items found.0 found.1 c.if-slot-place.false
