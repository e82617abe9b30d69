-- How a device is loaded, and when it is refused.
use Rattle.std.proofs.Common.{◌≡◌, inl, inr, ℕ, ◌+◌, ◌-◌, ◌*◌, ◌/◌, ◌%◌, ◌<◌, ◌≤◌, ◌^◌, List, length, take, refl, sym, subst, ◌∙◌, arith, Bool, true, false, ◌↔◌, IsTrue, Option, None, Some}
use Rattle.std.proofs.lemmas.Bool.{cases_lt}
use Rattle.std.proofs.lemmas.List.{ext_get_or}
use Rattle.sector_device.specs.Disk.{Disk, Image, tearing}
use Rattle.sector_device.specs.Charges.{Failed, Made}
use Rattle.sector_device.specs.Sectors.{Begins, KeepsImages}
use Rattle.sector_device.proofs.Charges.{failed_joined, failed_more, made_joined}
use Rattle.commit_slots.specs.Slots.{Counts, IsSlotOf, block_start, slots_capacity}
use Rattle.commit_slots.specs.Finding.{IsFoundIn}
use Rattle.commit_slots.specs.declared.counted.Counted.{Counted}
use Rattle.commit_slots.specs.declared.slot.Slot.{Slot}
use Rattle.commit_slots.proofs.Mixed.{one_counts}
use Rattle.slot_commits.specs.Finds.{IsBeside, IsFound, IsNotice}
use Rattle.slot_commits.specs.Loads.{Awaits, BlocksRefusal, HasNumbers, HasRead, IsDamaged, IsNoticeOf, LoadFailed, LoadRefusal, NoStore, OnlyLoaded, load_calls, number_end, state_in}
use Rattle.slot_commits.specs.States.{CarriesInSlots, State, tail_of}
use Rattle.slot_commits.specs.declared.found.Found.{Found}
use Rattle.slot_commits.specs.declared.found.LoadFault.{LoadFault}
use Rattle.slot_commits.specs.declared.found.LoadFault.TheVariants.{NotAStore, Damaged, Device, Memory}
use Rattle.slot_commits.specs.declared.found.Notice.{Notice}
use Rattle.slot_commits.specs.Tears.{tearing_by}
use Rattle.slot_commits.proofs.Recovers.{blocks_few, carried_blocks, check_differs, copy_marks, no_numbers, none_carried, numbers_left, recovered_awaits, starts_apart}

-- the slots were not read
pub unread_memory : (old new : Disk) (calls : ℕ) → calls ≤ 128 → Made old new calls → OnlyLoaded old new
unread_memory old new calls few made = record { calls = calls; made = made; any = omega (arith, few); few = λ h c carries. omega (arith, few) }

pub unread_device : (old new : Disk) → Failed old new 128 → LoadFailed old new
unread_device old new failed = record {
  any = failed_more old new 128 (load_calls (slots_capacity old.sectors / 4096)) (omega arith) failed;
  few = λ h c carries. failed_more old new 128 (load_calls c.blocks) (omega arith) failed;
}

-- nothing is there
module _ (old new : Disk) (found : Found) (made : Made old new 128) (told : new.honest → IsFound old.seen found) where
  pub nothing_marked : found.counted ≡ None → found.marked ≡ true → IsDamaged old new
  nothing_marked is marked = record { there = λ h. (told h).marked.0 marked; nothing = λ h c carries numbers. none_carried old.seen found.counted is (told h).counted c carries; made = inl made }

  pub nothing_there : found.marked ≡ false → NoStore old new
  nothing_there marked = record { none = λ h is. let contrary : false ≡ true = sym marked ∙ (told h).marked.1 is in cc contrary; made = made }

  pub nothing_refused : found.counted ≡ None → (fault : LoadFault) → (found.marked ≡ true → fault ≡ Damaged) → (found.marked ≡ false → fault ≡ NotAStore) → LoadRefusal old new fault
  nothing_refused is fault damaged none = one found.marked refl
    where
      one : (b : Bool) → found.marked ≡ b → LoadRefusal old new fault
      one true marked = subst (LoadRefusal old new) (sym (damaged marked)) (nothing_marked is marked)
      one false marked = subst (LoadRefusal old new) (sym (none marked)) (nothing_there marked)

  pub nothing_left : (counted : Counted) → found.counted ≡ Some counted → number_end ≤ found.highest → IsDamaged old new
  nothing_left counted is high = record {
    there = λ h. copy_marks old.seen counted.slot counted.tail.items counted.copy (counts h).valid;
    nothing = λ h c carries numbers. no_numbers old.seen found.highest (told h).reached high numbers;
    made = inl made;
  }
    where
      counts : new.honest → Counts counted.slot counted.tail.items counted.copy old.seen
      counts h = subst (λ (o : Option Counted). IsFoundIn old.seen o) is (told h).counted

-- a copy counts
pub found_of : (image : Image) (found : Found) (counted : Counted) → found.counted ≡ Some counted → IsFound image found → IsSlotOf (length image) counted.slot counted.tail.items × (counted.copy ≤ 1)
found_of image found counted is told = let counts = subst (λ (o : Option Counted). IsFoundIn image o) is told.counted in (counts.valid.of, counts.valid.one_of_two)

module _ (old mid new : Disk) (found : Found) (counted : Counted) (is : found.counted ≡ Some counted) (made : Made old mid 128) (told : mid.honest → IsFound old.seen found) (of : IsSlotOf old.sectors counted.slot counted.tail.items)
    (honest : new.honest → mid.honest) (wide : mid.honest → length old.seen ≡ old.sectors) (size : mid.sectors ≡ old.sectors) (seen : mid.honest → mid.seen ≡ old.seen) where
  counts : mid.honest → Counts counted.slot counted.tail.items counted.copy old.seen
  counts h = subst (λ (o : Option Counted). IsFoundIn old.seen o) is (told h).counted

  -- blocks that begin in one image begin in the other
  begins_old : (bytes : List ℕ) → mid.honest → Begins mid.seen (block_start mid.sectors counted.slot.half) bytes → Begins old.seen (block_start (length old.seen) counted.slot.half) bytes
  begins_old bytes h begins = subst (λ (i : Image). Begins i (block_start (length old.seen) counted.slot.half) bytes) (seen h) (subst (λ (n : ℕ). Begins mid.seen (block_start n counted.slot.half) bytes) (size ∙ sym (wide h)) begins)

  begins_mid : (bytes : List ℕ) → mid.honest → Begins old.seen (block_start (length old.seen) counted.slot.half) bytes → Begins mid.seen (block_start mid.sectors counted.slot.half) bytes
  begins_mid bytes h begins = subst (λ (n : ℕ). Begins mid.seen (block_start n counted.slot.half) bytes) (wide h ∙ sym size) (subst (λ (i : Image). Begins i (block_start (length old.seen) counted.slot.half) bytes) (sym (seen h)) begins)

  blocks_are : mid.honest → (c : State) → CarriesInSlots c old.seen → counted.slot.blocks ≡ c.blocks
  blocks_are h c carries = carried_blocks old.seen counted.slot counted.tail.items counted.copy (counts h) c carries

  all_few : load_calls counted.slot.blocks ≤ load_calls (slots_capacity old.sectors / 4096)
  all_few = blocks_few old.sectors counted.slot counted.tail.items of

  pub load_refused : (fault : LoadFault) → BlocksRefusal mid new counted.slot fault → LoadRefusal old new fault
  load_refused NotAStore none = absurd none
  load_refused Damaged damaged = record {
    there = λ h. copy_marks old.seen counted.slot counted.tail.items counted.copy (counts (honest h)).valid;
    nothing = λ h c carries numbers. check_differs old.seen counted.slot counted.tail.items counted.copy (counts (honest h)) (λ bytes long begins. damaged.0 h bytes long (begins_mid bytes (honest h) begins)) c carries;
    made = inr (counted.slot, counted.tail.items, counted.copy, of, λ h. counts (honest h), made_joined old mid new 128 (8 * counted.slot.blocks) made damaged.1);
  }
  load_refused Device failed = record {
    any = failed_joined old mid new 128 (8 * counted.slot.blocks) (load_calls (slots_capacity old.sectors / 4096)) all_few made failed;
    few = λ h c carries. let same = blocks_are (honest h) c carries in failed_joined old mid new 128 (8 * counted.slot.blocks) (load_calls c.blocks) (omega (arith, same)) made failed;
  }
  load_refused Memory some = record {
    calls = 128 + some.0;
    made = made_joined old mid new 128 some.0 made some.2;
    any = omega (arith, some.1, all_few);
    few = λ h c carries. let same = blocks_are (honest h) c carries in omega (arith, some.1, same);
  }

  -- all that it names was read
  module _ (bytes : List ℕ) (read : HasRead mid new counted.slot counted.tail.items bytes) where
    pub done_of : IsSlotOf old.sectors counted.slot (tail_of (state_in counted.slot bytes))
    done_of = subst (IsSlotOf old.sectors counted.slot) (sym read.last) of

    pub done_awaits : (number first : ℕ) → found.highest < number → number < 2 ^ 64 → (found.both ≡ true → number % 2 ≡ 1 - counted.slot.number % 2) → (found.both ≡ false → number % 2 ≡ counted.slot.number % 2)
        → first ≤ 1 → (found.both ≡ true → first ≡ 0) → (found.both ≡ false → first ≡ 1 - counted.copy) → new.honest → Awaits number first (state_in counted.slot bytes) old.seen
    done_awaits number first above fits other own low zeroth mate h =
        let now = honest h in
        let counted_now = counts now in
        recovered_awaits old.seen counted.slot counted.tail.items bytes counted.copy counted_now read.size read.last read.check (begins_old (take (4096 * counted.slot.blocks) bytes) now (read.begins h))
        number first found.highest above fits (told now).fresh low (starts_apart counted.slot.number number counted.copy first found.both counted_now.valid.one_of_two other own zeroth mate)

    pub done_numbers : found.highest < number_end → new.honest → HasNumbers old.seen
    done_numbers left h = numbers_left old.seen found.highest (told (honest h)).fresh left

    pub done_notice : (notice : Notice) → ((image : Image) → IsBeside image (Some counted) found.both found.other → IsNotice image counted.slot counted.tail.items notice) → new.honest → IsNoticeOf old.seen notice
    done_notice notice noticed h slot tail copy counted_so =
        let same = one_counts old.seen counted.slot slot counted.tail.items tail counted.copy copy (counts (honest h)) counted_so in
        let said : IsNotice old.seen counted.slot counted.tail.items notice = noticed old.seen (subst (λ (o : Option Counted). IsBeside old.seen o found.both found.other) is (told (honest h)).beside) in
        subst (λ (t : List ℕ). IsNotice old.seen slot t notice) same.1 (subst (λ (s : Slot). IsNotice old.seen s counted.tail.items notice) same.0 said)

    pub done_made : Made old new (load_calls counted.slot.blocks)
    done_made = made_joined old mid new 128 (8 * counted.slot.blocks) made read.made

-- two lists of one length that an image begins with are one
pub same_begins : (image : Image) (start : ℕ) (a b : List ℕ) → length a ≡ length b → Begins image start a → Begins image start b → a ≡ b
same_begins image start a b size first second = ext_get_or 0 a b size (λ i lt. sym (first i lt) ∙ second i (omega (arith, lt, size)))

pub keeps_by : (torn : Option (List ℕ → Bool)) (old new : Disk) → KeepsImages old new → ((t : List ℕ → Bool) → KeepsImages (tearing t old) (tearing t new)) → KeepsImages (tearing_by torn old) (tearing_by torn new)
keeps_by None old new plain tears = plain
keeps_by (Some t) old new plain tears = tears t

pub left_of : (spent : Bool) (highest : ℕ) → IsTrue spent ↔ (number_end ≤ highest) → spent ≡ false → highest < number_end
left_of spent highest told is = elim (cases_lt highest number_end) [
  | inl low ↦ low
  | inr high ↦ let contrary : false ≡ true = sym is ∙ told.1 high in cc contrary
]
