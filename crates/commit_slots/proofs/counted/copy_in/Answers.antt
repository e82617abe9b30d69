use Rattle.std.proofs.Common.{◌≡◌, ◌+◌, ◌-◌, ◌*◌, ◌/◌, ◌%◌, List, ℕ, take, drop, ap, arith}
use Rattle.commit_slots.specs.Slots.{IsHeld, IsSlotOf}
use Rattle.commit_slots.specs.declared.slot.Slot.{Slot}
use Rattle.commit_slots.proofs.Four.{none_is, none_there, of_part, some_is, there}
use Rattle.commit_slots.proofs.counted.copy_in.Goals as goal

pub returns-in-None : goal.returns-in-None
returns-in-None c = λ image long begins slot tail copy valid is.
    let slots = c.args.slots.now in
    let place = c.args.place in
    let sectors = c.args.sectors in
    let part = take (32 * place + 32 - 32 * place) (drop (32 * place) slots) in
    let width : 32 * place + 32 - 32 * place ≡ 32 = omega arith in
    let part_is : part ≡ take 32 (drop (32 * place) slots) = ap (λ (n : ℕ). take n (drop (32 * place) slots)) width in
    none_is c.in_ok-slot_in.field-0 ((one : Slot) (rest : List ℕ) → IsSlotOf sectors one rest → IsHeld one rest 0 part → ⊥) (λ held. IsSlotOf sectors held.0 held.1.items × IsHeld held.0 held.1.items 0 part) c.in_ok-slot_in.ensures c.in-None.is
    slot tail (of_part slots part image sectors place c.requires.whole c.requires.place part_is long begins slot tail copy valid) (there slots part image sectors place c.requires.whole c.requires.place part_is long begins slot tail copy valid is)

pub returns-else-slot-place : goal.returns-else-slot-place
returns-else-slot-place c = λ image long begins slot tail copy valid is.
    let slots = c.args.slots.now in
    let place = c.args.place in
    let sectors = c.args.sectors in
    let part = take (32 * place + 32 - 32 * place) (drop (32 * place) slots) in
    let width : 32 * place + 32 - 32 * place ≡ 32 = omega arith in
    let part_is : part ≡ take 32 (drop (32 * place) slots) = ap (λ (n : ℕ). take n (drop (32 * place) slots)) width in
    let found = some_is c.in_ok-slot_in.field-0 (c.in-Some.slot, c.in-Some.tail) ((one : Slot) (rest : List ℕ) → IsSlotOf sectors one rest → IsHeld one rest 0 part → ⊥)
    (λ held. IsSlotOf sectors held.0 held.1.items × IsHeld held.0 held.1.items 0 part) c.in_ok-slot_in.ensures c.in-Some.is in
    none_there slots part image sectors place c.requires.whole c.requires.place part_is long begins c.in-Some.slot c.in-Some.tail.items found.0 found.1 c.if-slot-place.false slot tail copy valid is
