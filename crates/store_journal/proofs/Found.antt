-- What is found in slots, and what a journal knows of it.
use Rattle.std.proofs.Common.{◌≡◌, ℕ, ◌+◌, ◌-◌, ◌*◌, ◌<◌, ◌≤◌, ◌^◌, length, take, drop, Option, None, Some, true, false, refl, ap, subst, sym, ◌∙◌, arith}
use Rattle.sector_device.specs.Charges.{Made}
use Rattle.sector_device.specs.Disk.{Disk}
use Rattle.checksum.specs.Crc.{crc_of}
use Rattle.commit_slots.specs.Slots.{slots_capacity}
use Rattle.commit_slots.specs.declared.slot.Slot.{Slot}
use Rattle.slot_commits.specs.Loads.{Awaits, IsRecovered, OnlyLoaded, load_calls, state_in}
use Rattle.slot_commits.specs.States.{State}
use Rattle.slot_commits.specs.declared.found.Recovered.{Recovered}
use Rattle.slot_commits.proofs.Either.{carries_one as one_state}
use Rattle.slot_journal.specs.declared.known.Known.{Known}
use Rattle.store_journal.specs.Layout.{IsSized}
use Rattle.store_journal.specs.Opening.{IsFoundInSlots}
use Rattle.store_journal.specs.declared.held.Awaiting.{Awaiting}
use Rattle.store_journal.specs.Held.{IsFormed, numbers_of}
use Rattle.store_journal.specs.declared.held.Held.{Held}
use Rattle.store_journal.specs.declared.held.Held.TheVariants.{InHalf, InSlots}

abbrev first_in : Option Awaiting → ℕ
first_in None = 0
first_in (Some awaiting) = awaiting.first

pub slots_found : (old new : Disk) (found : Recovered) (known : Known) → IsSized true old.sectors → IsRecovered old new found → known.slot ≡ found.slot → known.check ≡ found.slot.check → length known.tail.items ≡ 15428
    → take (length found.bytes.items - 4096 * found.slot.blocks) known.tail.items ≡ drop (4096 * found.slot.blocks) found.bytes.items
    → IsFoundInSlots old new (record { held = InSlots known (Some (record { number = found.number; first = found.first })); bytes = found.bytes; notice = found.notice })
slots_found old new found known sized read slot_is check_is room tail_is =
    let of = read.of in
    let long : known.slot.length ≡ length found.bytes.items = ap (λ (s : Slot). s.length) slot_is ∙ read.size in
    let blocks : known.slot.blocks ≡ found.slot.blocks = ap (λ (s : Slot). s.blocks) slot_is in
    let check : known.slot.check ≡ crc_of (take (4096 * known.slot.blocks) found.bytes.items) = ap (λ (s : Slot). s.check) slot_is ∙ sym read.check ∙ ap (λ (n : ℕ). crc_of (take (4096 * n) found.bytes.items)) (sym blocks) in
    let rest : known.slot.length - 4096 * known.slot.blocks ≡ length found.bytes.items - 4096 * found.slot.blocks = omega (arith, long, blocks) in
    record {
      known = known;
      awaiting = record { number = found.number; first = found.first };
      held_is = refl;
      formed = record {
        formed = record {
          size = ap (λ (s : Slot). s.sectors) slot_is ∙ of.sectors_is;
          at_least = sized.at_least;
          at_most = sized.at_most;
          half_fits = subst (λ (s : Slot). s.half ≤ 1) (sym slot_is) of.half_fits;
          used_fits = subst (λ (s : Slot). s.length ≤ slots_capacity old.sectors) (sym slot_is) of.length_fits;
          blocks_fit = subst (λ (s : Slot). 4096 * s.blocks ≤ s.length) (sym slot_is) (omega (arith, of.length_is));
          check_fits = subst (λ (n : ℕ). n < 2 ^ 32) (sym check_is) of.check_fits;
          identity_fits = subst (λ (s : Slot). s.identity < 2 ^ 128) (sym slot_is) of.identity_fits;
          room = room;
        };
        number_fits = λ is. absurd (cc is);
        waiting = λ awaiting is. (subst (λ (s : Slot). s.length ≤ 4096 * s.blocks + 15428) (sym slot_is) (omega (arith, of.length_is, of.tail_fits)), subst (λ (n : ℕ). n ≤ 1) (ap first_in is) read.first_fits);
      };
      size = sym long;
      knows = record {
        slot_is = λ i. record { number = known.slot.number; length = long i; seq = known.slot.seq; opens = known.slot.opens; sectors = known.slot.sectors; half = known.slot.half; blocks = known.slot.blocks; check = check i; identity = known.slot.identity };
        check_is = check_is ∙ sym (ap (λ (s : Slot). s.check) slot_is);
        tail_is = ap (λ (n : ℕ). take n known.tail.items) rest ∙ tail_is ∙ ap (λ (n : ℕ). drop (4096 * n) found.bytes.items) (sym blocks);
      };
      awaits = λ honest. subst (λ (s : Slot). Awaits found.number found.first (state_in s found.bytes.items) old.seen) (sym slot_is) (read.awaits honest);
      numbers = read.numbers;
      notice = read.notice;
      made = subst (λ (s : Slot). Made old new (load_calls s.blocks)) (sym slot_is) read.made;
    }

-- there was no memory for the buffer, after all calls
pub no_buffer : (old new : Disk) (found : Recovered) → IsRecovered old new found → OnlyLoaded old new
no_buffer old new found read = record {
  calls = load_calls found.slot.blocks;
  made = read.made;
  any = omega (arith, read.of.length_is, read.of.length_fits);
  few = λ honest c carries.
      let same : state_in found.slot found.bytes.items ≡ c = one_state old.seen (state_in found.slot found.bytes.items) c (read.awaits honest).carries carries in
      subst (λ (s : State). load_calls found.slot.blocks ≤ load_calls s.blocks) same (omega arith);
}

-- a slot names whole blocks of the bytes that were found, and has room for the others
pub tail_fits : (sectors : ℕ) (held : Held) (count : ℕ) → IsFormed sectors held → (numbers_of held).used ≡ count → ((numbers_of held).rides ≡ true → (numbers_of held).settled ≡ false) → (numbers_of held).rides ≡ true
    → (4096 * (numbers_of held).blocks ≤ count) × (count ≤ 4096 * (numbers_of held).blocks + 15428)
tail_fits sectors (InHalf known) count formed used fresh rides = absurd (cc rides)
tail_fits sectors (InSlots known None) count formed used fresh rides = let settled = fresh rides in absurd (cc settled)
tail_fits sectors (InSlots known (Some awaiting)) count formed used fresh rides =
    let least = formed.formed.blocks_fit in
    let most = (formed.waiting awaiting refl).0 in
    (omega (arith, least, used), omega (arith, most, used))
