use Rattle.std.proofs.Common.{◌≡◌, ℕ, List, length, true, false, sym, ap, subst, arith}
use Rattle.commit_slots.specs.Slots.{IsHeld, IsSlotOf}
use Rattle.commit_slots.specs.declared.slot.Slot.{Slot}
use Rattle.commit_slots.proofs.found.slot_in.Goals as goal

pub returns-in-None : goal.returns-in-None
returns-in-None c = λ one tail of held.
    let same : c.said_in-one.result ≡ one = c.said_in-one.ensures c.args.sectors one tail of (held 0 (omega arith)) in
    c.in-None.ensures.none tail (subst (λ (s : Slot). IsSlotOf c.args.sectors s tail) (sym same) of)

pub returns-then-is_held : goal.returns-then-is_held
returns-then-is_held c =
    let tail = c.in_ok-tail-in-Some.tail.items in
    let held = c.is_held.ensures.0 c.if-is_held.true in
    (c.in-Some.ensures.some tail c.in_ok-tail-in-Some.ensures.size, subst (λ (l : List ℕ). IsHeld c.said_in-one.result l 0 c.args.slot.now) c.deref.ensures.value held)

pub returns-else-is_held : goal.returns-else-is_held
returns-else-is_held c = λ one tail of held.
    let said = c.said_in-one.result in
    let slot = c.args.slot.now in
    let read_tail = c.in_ok-tail-in-Some.tail.items in
    let same : said ≡ one = c.said_in-one.ensures c.args.sectors one tail of (held 0 (omega arith)) in
    let bytes : length tail ≡ c.in-Some.bytes = omega (arith, of.length_is, c.in-Some.ensures.long, ap (λ (s : Slot). s.length) same, ap (λ (s : Slot). s.blocks) same) in
    let read : read_tail ≡ tail = c.in_ok-tail-in-Some.ensures.read one tail bytes held in
    let there : IsHeld said read_tail 0 slot = subst (λ (s : Slot). IsHeld s read_tail 0 slot) (sym same) (subst (λ (l : List ℕ). IsHeld one l 0 slot) (sym read) held) in
    let yes : c.is_held.result ≡ true = c.is_held.ensures.1 (subst (λ (l : List ℕ). IsHeld said l 0 slot) (sym c.deref.ensures.value) there) in
    let no : c.is_held.result ≡ false = c.if-is_held.false in
    cc (yes, no)
