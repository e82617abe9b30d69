-- An append whose bytes fit the slot.
use Rattle.std.proofs.Common.{◌≡◌, ℕ, ◌+◌, ◌-◌, ◌*◌, ◌/◌, ◌%◌, ◌≤◌, ◌<◌, ◌^◌, List, [], ◌++◌, length, take, drop, refl, ap, subst, sym, ◌∙◌, arith, length-append, length-take-le, take-take, Bool, true, false, Option, nat_le, if◌then◌else◌, Result, IsErr, OnErr, Ok, Err, Vec, take_at}
use Rattle.std.proofs.lemmas.Bool.{le-leb, lt-leb}
use Rattle.sector_device.specs.Disk.{Image, Disk, IsCoherent}
use Rattle.sector_device.specs.Sectors.{byte_at}
use Rattle.std.specs.Prelude.{slice_index}
use Rattle.checksum.specs.Crc.{crc_of}
use Rattle.commit_slots.specs.Slots.{IsSlotOf, block_start, half_blocks, slots_capacity}
use Rattle.commit_slots.specs.declared.slot.Slot.{Slot}
use Rattle.slot_commits.specs.Commits.{CanCommit}
use Rattle.slot_commits.specs.Puts.{Put}
use Rattle.slot_commits.specs.States.{HoldsBlocks, Stands, State, blocks_of, slot_of, tail_of}
use Rattle.slot_commits.specs.Tears.{IsToldBy, tearing_by}
use Rattle.slot_commits.proofs.Copies.{no_ok}
use Rattle.slot_commits.proofs.Puts.{seen_by}
use Rattle.slot_journal.specs.Journaled.{appended, fits_slot, named_after}
use Rattle.slot_journal.specs.Known.{IsFormed, Knows}
use Rattle.slot_journal.specs.declared.known.Known.{Known}
use Rattle.slot_journal.proofs.Bytes.{blocks_more, blocks_same, filled_is, rest_is, whole_is}

pub named_small : (used more : ℕ) → used % 4096 + more ≤ 15428 → named_after used more ≡ used / 4096
named_small used more small = ap (λ (b : Bool). if b then used / 4096 else (used + more) / 4096) (le-leb (used % 4096 + more) 15428 small)

pub named_large : (used more : ℕ) → 15428 < used % 4096 + more → named_after used more ≡ (used + more) / 4096
named_large used more large = ap (λ (b : Bool). if b then used / 4096 else (used + more) / 4096) (lt-leb (used % 4096 + more) 15428 large)

-- a commit that failed
pub put_failed : {T E : Type 0} (torn : Option (List ℕ → Bool)) (old new_disk : Disk) (number : ℕ) (c new : State) (one other : Result T E) → IsErr other → Put torn old new_disk number c new one → Put torn old new_disk number c new other
put_failed torn old new_disk number c new one other err put = record {
  any_moment = put.any_moment;
  done = no_ok ((image : Image) → (tearing_by torn new_disk).left image → Stands (number + 1) new image) other err;
  stays = put.stays;
}

-- what holds anyway holds after a failure
pub if_failed : {T E : Type 0} (result : Result T E) (P : Type 0) → P → OnErr result P
if_failed (Ok value) P holds = tt
if_failed (Err fault) P holds = holds

-- more bytes leave the first blocks
pub holds_more : (n : ℕ) (c : State) (more : List ℕ) (adds opens : ℕ) (image : Image) → 4096 * n ≤ length c.bytes → HoldsBlocks n c image → HoldsBlocks n (appended c more adds opens) image
holds_more n c more adds opens image within = subst (λ (l : List ℕ). (i : ℕ) → i < length l → byte_at image (block_start (length image) c.half) i ≡ slice_index l i) (sym (blocks_same c.bytes more n within))

module _ (known : Known) (c : State) (knows : Knows known c) where
  pub length_is : known.slot.length ≡ length c.bytes
  length_is = ap (λ (s : Slot). s.length) knows.slot_is

  pub seq_is : known.slot.seq ≡ c.seq
  seq_is = ap (λ (s : Slot). s.seq) knows.slot_is

  pub half_is : known.slot.half ≡ c.half
  half_is = ap (λ (s : Slot). s.half) knows.slot_is

  -- a buffer that begins as before is known of it as before
  pub knows_still : (more filled : List ℕ) (next : Known) → known.slot.length % 4096 ≤ length known.tail.items → next.slot ≡ known.slot → next.check ≡ known.check → next.tail.items ≡ filled
      → take (known.slot.length % 4096 + length more) filled ≡ take (known.slot.length % 4096) known.tail.items ++ more → Knows next c
  knows_still more filled next long slot check tail put = record {
    slot_is = slot ∙ knows.slot_is ∙ ap (λ (s : Slot). slot_of c s.sectors s.number) (sym slot);
    check_is = check ∙ knows.check_is;
    tail_is = ap (take (length c.bytes % 4096)) tail ∙ ap (λ (n : ℕ). take (n % 4096) filled) (sym length_is) ∙ front ∙ ap (λ (n : ℕ). take (n % 4096) known.tail.items) length_is ∙ knows.tail_is;
  }
    where
      rest : ℕ
      rest = known.slot.length % 4096

      front : take (known.slot.length % 4096) filled ≡ take (known.slot.length % 4096) known.tail.items
      front = sym (take-take rest (rest + length more) filled (omega arith)) ∙ ap (take rest) put ∙ take_at (take rest known.tail.items) more rest (length-take-le rest known.tail.items long)

  module _ (more : List ℕ) (adds opens : ℕ) (small : known.slot.length % 4096 + length more ≤ 15428) where
    named_is : known.slot.length / 4096 ≡ named_after (length c.bytes) (length more)
    named_is = ap (λ (n : ℕ). n / 4096) length_is ∙ sym (named_small (length c.bytes) (length more) (subst (λ (n : ℕ). n % 4096 + length more ≤ 15428) length_is small))

    few : 4096 * (length c.bytes / 4096) ≤ length c.bytes
    few = omega arith

    pub says_small : (sectors : ℕ) → known.slot.sectors ≡ sectors
        → ◌≡◌ {A = Slot} (record { number = known.slot.number + 1; length = known.slot.length + length more; seq = known.slot.seq + adds; opens = opens; sectors = known.slot.sectors; half = known.slot.half; blocks = known.slot.length / 4096; check = known.check; identity = known.slot.identity })
        (slot_of (appended c more adds opens) sectors (known.slot.number + 1))
    says_small sectors size = λ i. record {
      number = known.slot.number + 1;
      length = (ap (λ (n : ℕ). n + length more) length_is ∙ sym (length-append c.bytes more)) i;
      seq = ap (λ (n : ℕ). n + adds) seq_is i;
      opens = opens;
      sectors = size i;
      half = half_is i;
      blocks = named_is i;
      check = (knows.check_is
          ∙ ap crc_of (sym (blocks_same c.bytes more (length c.bytes / 4096) few) ∙ ap (λ (n : ℕ). blocks_of n (c.bytes ++ more)) (ap (λ (n : ℕ). n / 4096) (sym length_is) ∙ named_is))) i;
      identity = ap (λ (s : Slot). s.identity) knows.slot_is i;
    }

    -- the buffer, once it has these bytes too
    module _ (filled : List ℕ) (put : take (known.slot.length % 4096 + length more) filled ≡ take (known.slot.length % 4096) known.tail.items ++ more) where
      pub filled_as : take (length c.bytes % 4096 + length more) filled ≡ drop (4096 * (length c.bytes / 4096)) (c.bytes ++ more)
      filled_as = filled_is c.bytes more known.tail.items filled knows.tail_is (subst (λ (n : ℕ). take (n % 4096 + length more) filled ≡ take (n % 4096) known.tail.items ++ more) length_is put)

      pub tail_small : take (known.slot.length % 4096 + length more) filled ≡ tail_of (appended c more adds opens)
      tail_small = ap (λ (n : ℕ). take (n % 4096 + length more) filled) length_is ∙ filled_as ∙ ap (λ (n : ℕ). drop (4096 * n) (c.bytes ++ more)) (ap (λ (n : ℕ). n / 4096) (sym length_is) ∙ named_is)

      module _ (whole : ℕ) (whole_as : whole ≡ (known.slot.length % 4096 + length more) / 4096 * 4096) where
        whole_there : whole ≡ (length c.bytes % 4096 + length more) / 4096 * 4096
        whole_there = whole_as ∙ ap (λ (n : ℕ). (n % 4096 + length more) / 4096 * 4096) length_is

        pub blocks_small : take whole filled ≡ drop (4096 * (length c.bytes / 4096)) (blocks_of (length (c.bytes ++ more) / 4096) (c.bytes ++ more))
        blocks_small = whole_is c.bytes more filled whole whole_there filled_as

        -- what is known after it
        pub knows_small : (check : ℕ) (moved : List ℕ) (next : Known) → check ≡ crc_of (blocks_of (length c.bytes / 4096) c.bytes ++ take whole filled)
            → take (known.slot.length % 4096 + length more - whole) moved ≡ drop whole (take (known.slot.length % 4096 + length more) filled)
            → next.slot ≡ record { number = known.slot.number + 1; length = known.slot.length + length more; seq = known.slot.seq + adds; opens = opens; sectors = known.slot.sectors; half = known.slot.half; blocks = known.slot.length / 4096; check = known.check; identity = known.slot.identity }
            → next.check ≡ check → next.tail.items ≡ moved → Knows next (appended c more adds opens)
        knows_small check moved next check_as moved_as slot_as next_check next_tail = record {
          slot_is = slot_as ∙ says_small known.slot.sectors refl ∙ ap (λ (s : Slot). slot_of (appended c more adds opens) s.sectors s.number) (sym slot_as);
          check_is = next_check ∙ check_as ∙ ap crc_of (ap (λ (l : List ℕ). blocks_of (length c.bytes / 4096) c.bytes ++ l) blocks_small ∙ blocks_more c.bytes more);
          tail_is = ap (take (length (c.bytes ++ more) % 4096)) next_tail
              ∙ rest_is c.bytes more filled moved whole whole_there filled_as
              (subst (λ (n : ℕ). take (n % 4096 + length more - whole) moved ≡ drop whole (take (n % 4096 + length more) filled)) length_is moved_as);
        }

        module _ (torn : Option (List ℕ → Bool)) (disk : Disk) (told : IsToldBy torn) (honest : disk.honest) (coherent : IsCoherent (tearing_by torn disk)) (formed : IsFormed disk.sectors known)
            (fits : known.slot.length + length more ≤ slots_capacity known.slot.sectors) (seq_fits : known.slot.seq + adds < 2 ^ 64) (number_fits : known.slot.number + 1 < 2 ^ 64) (opens_fit : opens < 2 ^ 64)
            (long : length filled ≡ 15428) (stands : (image : Image) → (tearing_by torn disk).left image → Stands known.slot.number c image) where
          tail_long : length (take (known.slot.length % 4096 + length more) filled) ≡ known.slot.length % 4096 + length more
          tail_long = length-take-le (known.slot.length % 4096 + length more) filled (omega (arith, small, long))

          room : known.slot.length + length more ≤ slots_capacity disk.sectors
          room = subst (λ (n : ℕ). known.slot.length + length more ≤ slots_capacity n) formed.size fits

          slot_fits : IsSlotOf disk.sectors (record { number = known.slot.number + 1; length = known.slot.length + length more; seq = known.slot.seq + adds; opens = opens; sectors = known.slot.sectors; half = known.slot.half; blocks = known.slot.length / 4096; check = known.check; identity = known.slot.identity }) (take (known.slot.length % 4096 + length more) filled)
          slot_fits = record {
            sectors_is = formed.size;
            sectors_fit = formed.at_most;
            half_fits = formed.half_fits;
            length_is = omega (arith, tail_long);
            length_fits = room;
            tail_fits = omega (arith, tail_long, small);
            number_fits = number_fits;
            seq_fits = seq_fits;
            opens_fits = opens_fit;
            blocks_fit = omega (arith, formed.used_fits, formed.at_most);
            check_fits = formed.check_fits;
            identity_fits = formed.identity_fits;
          }

          pub can_small : (first : ℕ) (blocks tail : List ℕ) → first ≡ block_start known.slot.sectors known.slot.half + 8 * (known.slot.length / 4096) → blocks ≡ take whole filled
              → tail ≡ take (known.slot.length % 4096 + length more) filled → CanCommit torn disk first blocks false
              (record { number = known.slot.number + 1; length = known.slot.length + length more; seq = known.slot.seq + adds; opens = opens; sectors = known.slot.sectors; half = known.slot.half; blocks = known.slot.length / 4096; check = known.check; identity = known.slot.identity })
              tail known.slot.number c (appended c more adds opens) (length c.bytes / 4096)
          can_small first blocks tail first_as blocks_as tail_as = record {
            told = told;
            honest = honest;
            names = says_small disk.sectors formed.size;
            tail_is = tail_as ∙ tail_small;
            of = subst (IsSlotOf disk.sectors (record { number = known.slot.number + 1; length = known.slot.length + length more; seq = known.slot.seq + adds; opens = opens; sectors = known.slot.sectors; half = known.slot.half; blocks = known.slot.length / 4096; check = known.check; identity = known.slot.identity }))
                (sym tail_as) slot_fits;
            stands = stands;
            read = holds_more (length c.bytes / 4096) c more adds opens disk.seen few (stands disk.seen (subst (λ (i : Image). (tearing_by torn disk).left i) (seen_by torn disk) coherent.seen)).begins;
            held = λ _ image left. subst (λ (n : ℕ). HoldsBlocks n (appended c more adds opens) image) (ap (λ (n : ℕ). n / 4096) (sym length_is) ∙ named_is) (holds_more (length c.bytes / 4096) c more adds opens image few (stands image left).begins);
            first_is = first_as ∙ (λ i. block_start (formed.size i) (half_is i) + 8 * (length_is i / 4096));
            blocks_are = blocks_as ∙ blocks_small;
            apart = λ _. omega arith;
            settled = λ _. omega (arith, sym (ap (λ (n : ℕ). n / 4096) (sym length_is) ∙ named_is));
          }
