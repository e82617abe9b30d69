-- The commit of an opening.
use Rattle.std.proofs.Common.{◌≡◌, ℕ, ◌+◌, ◌-◌, ◌*◌, ◌/◌, ◌%◌, ◌≤◌, List, ◌++◌, length, take, drop, refl, ap, sym, subst, ◌∙◌, arith, drop-drop, take-add, take-take, Bool, Option, Result, IsErr}
use Rattle.sector_device.specs.Disk.{Image, Disk}
use Rattle.checksum.specs.Crc.{crc_of}
use Rattle.commit_slots.specs.declared.slot.Slot.{Slot}
use Rattle.slot_commits.specs.Loads.{Awaits}
use Rattle.slot_commits.specs.Renewals.{CanRenew, Renewed}
use Rattle.slot_commits.specs.States.{Stands, State, blocks_of, slot_of}
use Rattle.slot_commits.specs.Tears.{IsToldBy, tearing_by}
use Rattle.slot_commits.proofs.Copies.{no_ok}
use Rattle.slot_journal.specs.Journaled.{opened, slot_opened}
use Rattle.slot_journal.specs.Known.{IsFormed, Knows, KnowsFound}
use Rattle.slot_journal.specs.declared.known.Known.{Known}

module _ (known : Known) (c : State) (knows : KnowsFound known c) (number opens : ℕ) where
  says_opened : (sectors : ℕ) → known.slot.sectors ≡ sectors → slot_opened known.slot number opens ≡ slot_of (opened c opens) sectors number
  says_opened sectors size = λ i. record {
    number = number;
    length = (knows.slot_is i).length;
    seq = (knows.slot_is i).seq;
    opens = opens;
    sectors = size i;
    half = (knows.slot_is i).half;
    blocks = (knows.slot_is i).blocks;
    check = (knows.slot_is i).check;
    identity = (knows.slot_is i).identity;
  }

  pub can_renew : (torn : Option (List ℕ → Bool)) (disk : Disk) (tail : List ℕ) (first : ℕ) → IsToldBy torn → disk.honest → IsFormed disk.sectors known → tail ≡ take (known.slot.length - 4096 * known.slot.blocks) known.tail.items
      → ((image : Image) → (tearing_by torn disk).left image → image ≡ disk.seen) → Awaits number first c disk.seen → CanRenew torn disk (slot_opened known.slot number opens) tail first c (opened c opens)
  can_renew torn disk tail first told honest formed tail_as alone awaits = record {
    told = told;
    honest = honest;
    names = says_opened disk.sectors formed.size;
    tail_is = tail_as ∙ knows.tail_is;
    half_is = refl;
    bytes_are = refl;
    blocks_are = refl;
    alone = alone;
    awaits = awaits;
  }

  length_as : known.slot.length ≡ length c.bytes
  length_as = ap (λ (s : Slot). s.length) knows.slot_is

  blocks_as : known.slot.blocks ≡ c.blocks
  blocks_as = ap (λ (s : Slot). s.blocks) knows.slot_is

  -- what is known after it
  pub knows_opened : (rest whole check : ℕ) (moved : List ℕ) (next : Known) → 4096 * known.slot.blocks ≤ known.slot.length → rest ≡ known.slot.length - 4096 * known.slot.blocks → whole ≡ rest / 4096 * 4096
      → check ≡ crc_of (blocks_of c.blocks c.bytes ++ take whole known.tail.items) → take (rest - whole) moved ≡ drop whole (take rest known.tail.items) → next.slot ≡ slot_opened known.slot number opens → next.check ≡ check → next.tail.items ≡ moved
      → Knows next (opened c opens)
  knows_opened rest whole check moved next within rest_as whole_as check_as moved_as slot_as next_check next_tail = record {
    slot_is = slot_as ∙ says_opened known.slot.sectors refl ∙ ap (λ (s : Slot). slot_of (opened c opens) s.sectors s.number) (sym slot_as);
    check_is = next_check ∙ check_as ∙ ap crc_of (ap (λ (l : List ℕ). blocks_of c.blocks c.bytes ++ l) front ∙ sym (take-add (4096 * c.blocks) whole c.bytes) ∙ ap (λ (n : ℕ). take n c.bytes) total);
    tail_is = ap (take (length c.bytes % 4096)) next_tail ∙ ap (λ (n : ℕ). take n moved) left ∙ moved_as ∙ ap (drop whole) there ∙ drop-drop whole (4096 * c.blocks) c.bytes ∙ ap (λ (n : ℕ). drop n c.bytes) total;
  }
    where
      there : take rest known.tail.items ≡ drop (4096 * c.blocks) c.bytes
      there = ap (λ (n : ℕ). take n known.tail.items) rest_as ∙ knows.tail_is

      front : take whole known.tail.items ≡ take whole (drop (4096 * c.blocks) c.bytes)
      front = sym (take-take whole rest known.tail.items (omega (arith, whole_as))) ∙ ap (take whole) there

      total : 4096 * c.blocks + whole ≡ 4096 * (length c.bytes / 4096)
      total = omega (arith, within, rest_as, whole_as, length_as, blocks_as)

      left : length c.bytes % 4096 ≡ rest - whole
      left = omega (arith, within, rest_as, whole_as, length_as, blocks_as)

  -- the checksum of the blocks that were found
  pub check_found : known.check ≡ crc_of (blocks_of c.blocks c.bytes)
  check_found = knows.check_is ∙ ap (λ (s : Slot). s.check) knows.slot_is

-- a commit that failed
pub renew_failed : {T E : Type 0} (torn : Option (List ℕ → Bool)) (old new_disk : Disk) (number : ℕ) (found new : State) (one other : Result T E) → IsErr other → Renewed torn old new_disk number found new one → Renewed torn old new_disk number found new other
renew_failed torn old new_disk number found new one other err renewed = record {
  any_moment = renewed.any_moment;
  done = no_ok ((image : Image) → (tearing_by torn new_disk).left image → Stands number new image) other err;
}
