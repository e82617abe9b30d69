-- A copy in the half that doesn't count, and the switch to it.
use Rattle.std.proofs.Common.{◌≡◌, ◌≢◌, inl, inr, ℕ, ◌+◌, ◌-◌, ◌*◌, ◌/◌, ◌%◌, ◌≤◌, ◌<◌, ◌^◌, List, [], length, take, drop, refl, ap, subst, sym, ◌∙◌, arith, Bool, true, false, Option}
use Rattle.std.proofs.lemmas.Bool.{cases_lt}
use Rattle.std.proofs.lemmas.List.{drop_all, length-drop, length-take}
use Rattle.sector_device.specs.Disk.{Image, Disk}
use Rattle.checksum.specs.Crc.{crc_of}
use Rattle.commit_slots.specs.Slots.{IsSlotOf, block_start, half_blocks, slots_capacity}
use Rattle.commit_slots.specs.declared.slot.Slot.{Slot}
use Rattle.slot_commits.specs.Asides.{IsAside, IsNeeded}
use Rattle.slot_commits.specs.Commits.{CanCommit}
use Rattle.slot_commits.specs.States.{HoldsBlocks, Stands, State, blocks_of, slot_of, tail_of}
use Rattle.slot_commits.specs.Tears.{IsToldBy, tearing_by}
use Rattle.slot_journal.specs.Journaled.{switched}
use Rattle.slot_journal.specs.Known.{IsFormed, Knows}
use Rattle.slot_journal.specs.declared.known.Known.{Known}
use Rattle.slot_journal.proofs.Larges.{start_0, start_1}
use Rattle.slot_journal.proofs.Smalls.{half_is, length_is, seq_is}

-- the other half is aside
pub other_aside : (sectors : ℕ) (c : State) (place count : ℕ) → c.half ≤ 1 → length c.bytes / 4096 ≤ half_blocks sectors → place + count ≤ 8 * half_blocks sectors → IsAside sectors c (block_start sectors (1 - c.half) + place) count
other_aside sectors c place count low blocks_fit fits k j needed lt = elim (cases_lt c.half 1) [
  | inl none ↦ zeroth (omega (arith, none)) needed
  | inr one ↦ first (omega (arith, one, low)) needed
]
  where
    zeroth : c.half ≡ 0 → IsNeeded sectors c k → k / 8 ≢ (block_start sectors (1 - c.half) + place + j) / 8
    zeroth is (inl slots) = λ same. omega (arith, slots, same, start_1 sectors (1 - c.half) (omega (arith, is)))
    zeroth is (inr blocks) = λ same. omega (arith, blocks.1, blocks_fit, same, start_0 sectors c.half is, start_1 sectors (1 - c.half) (omega (arith, is)))

    first : c.half ≡ 1 → IsNeeded sectors c k → k / 8 ≢ (block_start sectors (1 - c.half) + place + j) / 8
    first is (inl slots) = λ same. omega (arith, slots, same, start_0 sectors (1 - c.half) (omega (arith, is)))
    first is (inr blocks) = λ same. omega (arith, blocks.0, fits, lt, same, start_1 sectors c.half is, start_0 sectors (1 - c.half) (omega (arith, is)))

-- so is what a copy writes
pub copy_aside : (known : Known) (c : State) → Knows known c → (sectors : ℕ) → IsFormed sectors known → (first place count : ℕ) → first ≡ block_start known.slot.sectors (1 - known.slot.half) + place
    → place + count ≤ 8 * half_blocks known.slot.sectors → IsAside sectors c first count
copy_aside known c knows sectors formed first place count first_as room =
    let at : first ≡ block_start sectors (1 - c.half) + place = first_as ∙ (λ i. block_start (formed.size i) (1 - half_is known c knows i) + place) in
    let fits : place + count ≤ 8 * half_blocks sectors = subst (λ (n : ℕ). place + count ≤ 8 * half_blocks n) formed.size room in
    let used : length c.bytes ≤ slots_capacity sectors = subst (λ (n : ℕ). n ≤ slots_capacity sectors) (length_is known c knows) formed.used_fits in
    subst (λ (n : ℕ). IsAside sectors c n count) (sym at) (other_aside sectors c place count (subst (λ (n : ℕ). n ≤ 1) (half_is known c knows) formed.half_fits) (omega (arith, used)) fits)

module _ (known : Known) (c : State) (knows : Knows known c) (target : List ℕ) (adds : ℕ) where
  pub says_switched : (sectors check : ℕ) → known.slot.sectors ≡ sectors → check ≡ crc_of (take (4096 * (length target / 4096)) target)
      → ◌≡◌ {A = Slot} (record { number = known.slot.number + 1; length = length target; seq = known.slot.seq + adds; opens = known.slot.opens; sectors = known.slot.sectors; half = 1 - known.slot.half; blocks = length target / 4096; check = check; identity = known.slot.identity })
      (slot_of (switched c target adds) sectors (known.slot.number + 1))
  says_switched sectors check size check_as = λ i. record {
    number = known.slot.number + 1;
    length = length target;
    seq = seq_is known c knows i + adds;
    opens = ap (λ (s : Slot). s.opens) knows.slot_is i;
    sectors = size i;
    half = 1 - half_is known c knows i;
    blocks = length target / 4096;
    check = check_as i;
    identity = ap (λ (s : Slot). s.identity) knows.slot_is i;
  }

  pub knows_switched : (check : ℕ) (moved : List ℕ) (next : Known) → check ≡ crc_of (take (4096 * (length target / 4096)) target) → take (length target % 4096) moved ≡ drop (4096 * (length target / 4096)) target
      → next.slot ≡ record { number = known.slot.number + 1; length = length target; seq = known.slot.seq + adds; opens = known.slot.opens; sectors = known.slot.sectors; half = 1 - known.slot.half; blocks = length target / 4096; check = check; identity = known.slot.identity }
      → next.check ≡ check → next.tail.items ≡ moved → Knows next (switched c target adds)
  knows_switched check moved next check_as moved_as slot_as next_check next_tail = record {
    slot_is = slot_as ∙ says_switched known.slot.sectors check refl check_as ∙ ap (λ (s : Slot). slot_of (switched c target adds) s.sectors s.number) (sym slot_as);
    check_is = next_check ∙ check_as;
    tail_is = ap (take (length target % 4096)) next_tail ∙ moved_as;
  }

  module _ (torn : Option (List ℕ → Bool)) (disk : Disk) (told : IsToldBy torn) (honest : disk.honest) (formed : IsFormed disk.sectors known) (fits : length target ≤ slots_capacity known.slot.sectors) (was : Stands known.slot.number c disk.seen)
      (number_fits : known.slot.number + 1 < 2 ^ 64) (seq_fits : known.slot.seq + adds < 2 ^ 64) (stands : (image : Image) → (tearing_by torn disk).left image → Stands known.slot.number c image)
      (read : HoldsBlocks (length target / 4096) (switched c target adds) disk.seen) where
    pub can_switch : (first check : ℕ) (tail : List ℕ) → check < 2 ^ 32 → check ≡ crc_of (take (4096 * (length target / 4096)) target) → first ≡ block_start known.slot.sectors (1 - known.slot.half) + 8 * (length target / 4096) → tail ≡ drop (4096 * (length target / 4096)) target
        → CanCommit torn disk first [] true
        (record { number = known.slot.number + 1; length = length target; seq = known.slot.seq + adds; opens = known.slot.opens; sectors = known.slot.sectors; half = 1 - known.slot.half; blocks = length target / 4096; check = check; identity = known.slot.identity })
        tail known.slot.number c (switched c target adds) (length target / 4096)
    can_switch first check tail check_fits check_as first_as tail_as = record {
      told = told;
      honest = honest;
      names = says_switched disk.sectors check formed.size check_as;
      tail_is = tail_as;
      of = record {
        sectors_is = formed.size;
        sectors_fit = formed.at_most;
        half_fits = omega arith;
        length_is = omega (arith, ap length tail_as, length-drop (4096 * (length target / 4096)) target);
        length_fits = room;
        tail_fits = omega (arith, ap length tail_as, length-drop (4096 * (length target / 4096)) target);
        number_fits = number_fits;
        seq_fits = seq_fits;
        opens_fits = subst (λ (n : ℕ). n < 2 ^ 64) (sym (ap (λ (s : Slot). s.opens) knows.slot_is)) was.of.opens_fits;
        blocks_fit = omega (arith, room, formed.at_most);
        check_fits = check_fits;
        identity_fits = formed.identity_fits;
      };
      stands = stands;
      read = read;
      held = λ settles. absurd (cc settles);
      first_is = first_as ∙ (λ i. block_start (formed.size i) (1 - half_is known c knows i) + 8 * (length target / 4096));
      blocks_are = sym (drop_all (4096 * (length target / 4096)) (take (4096 * (length target / 4096)) target) (omega (arith, length-take (4096 * (length target / 4096)) target)));
      apart = λ same. absurd (other same);
      settled = λ settles. absurd (cc settles);
    }
      where
        room : length target ≤ slots_capacity disk.sectors
        room = subst (λ (n : ℕ). length target ≤ slots_capacity n) formed.size fits

        low : c.half ≤ 1
        low = subst (λ (n : ℕ). n ≤ 1) (half_is known c knows) formed.half_fits

        other : 1 - c.half ≢ c.half
        other same = omega (arith, same, low)
