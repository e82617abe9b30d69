-- What a journal is seen to have is what it knows, and its images carry it.
use Rattle.std.proofs.Common.{◌≡◌, ℕ, ◌-◌, ◌*◌, ◌/◌, ◌≤◌, ◌^◌, List, ◌++◌, length, take, drop, Bool, true, false, None, Some, refl, ap, subst, sym, ◌∙◌, arith, length-take-le, take-append-drop}
use Rattle.sector_device.specs.Disk.{Disk, Image, IsCoherent, IsTearing}
use Rattle.sector_device.specs.Sectors.{Begins}
use Rattle.commit_slots.specs.Slots.{block_start}
use Rattle.commit_slots.specs.declared.slot.Slot.{Slot}
use Rattle.slot_commits.specs.Loads.{HasNumbers}
use Rattle.slot_commits.specs.States.{CarriesInSlots, HoldsBlocks}
use Rattle.slot_commits.proofs.Either.{stands_carries}
use Rattle.slot_journal.specs.Known.{Knows as SlotKnows, KnowsFound}
use Rattle.slot_journal.specs.declared.known.Known.{Known}
use Rattle.half_journal.specs.Layout.{HasNoSector, half_start as start_in_half}
use Rattle.half_journal.specs.Reads.{bytes_read}
use Rattle.half_journal.specs.States.{CarriesInHalf, commit_of}
use Rattle.half_journal.specs.declared.commit_sector.Commit.{Commit}
use Rattle.half_journal.specs.declared.known.HalfKnown.{HalfKnown}
use Rattle.half_journal.proofs.Views.{read_begins}
use Rattle.store_journal.specs.Carries.{Carried, Carries, CarriesIn, CarriesRiding, half_of, state_of}
use Rattle.store_journal.specs.Held.{IsFormed, IsOf, bytes_in, carried_in}
use Rattle.store_journal.specs.Models.{model, weak}
use Rattle.store_journal.specs.declared.held.Awaiting.{Awaiting}
use Rattle.store_journal.specs.declared.held.Held.{Held}
use Rattle.store_journal.specs.declared.held.Held.TheVariants.{InHalf, InSlots}
use Rattle.store_journal.proofs.Weak.{never, told_never}

-- ---- by the format

pub carries_half : (c : Carried) (image : Image) → c.rides ≡ false → c.identity ≡ 0 → CarriesInHalf (half_of c) image → Carries c image
carries_half c image is none carries = subst (λ (r : Bool). CarriesIn r c image) (sym is) (carries, none)

pub carries_riding : (c : Carried) (image : Image) (blocks : ℕ) → c.rides ≡ true → CarriesRiding c blocks image → Carries c image
carries_riding c image blocks is carries = subst (λ (r : Bool). CarriesIn r c image) (sym is) (blocks, carries)

-- a device as it reads is one of its images, also if sectors tear
pub seen_weak : (disk : Disk) → IsCoherent disk → ((torn : List ℕ → Bool) → IsTearing torn disk) → (weak disk).left disk.seen
seen_weak disk coherent tears = (never, told_never disk.sectors, (tears never).adds disk.seen coherent.seen)

pub wide_weak : (disk : Disk) → ((torn : List ℕ → Bool) → IsTearing torn disk) → (image : Image) → (weak disk).left image → length image ≡ disk.sectors
wide_weak disk tears image left = ((tears left.0).coherent.shape image left.2).count

-- ---- what is read

-- a half that begins with some of the bytes, and a buffer that has the others
riding_bytes : (image : Image) (start held size : ℕ) (tail bytes : List ℕ) → size ≡ length bytes → held ≤ length bytes → Begins image start (take held bytes) → take (size - held) tail ≡ drop held bytes → bytes_read image start held ++ take (size - held) tail ≡ bytes
riding_bytes image start held size tail bytes is within begins rest =
    (λ i. read_begins image start held (take held bytes) begins (sym (length-take-le held bytes within)) i ++ rest i) ∙ take-append-drop held bytes

pub half_bytes : (image : Image) (known : HalfKnown) (c : Carried) → known.commit ≡ commit_of (half_of c) known.commit.sectors → Begins image (start_in_half known.commit.sectors c.half) c.bytes → bytes_in image (InHalf known) ≡ c.bytes
half_bytes image known c is begins =
    read_begins image (start_in_half known.commit.sectors known.commit.half) known.commit.length c.bytes
    (subst (λ (h : ℕ). Begins image (start_in_half known.commit.sectors h) c.bytes) (sym (ap (λ (m : Commit). m.half) is)) begins) (ap (λ (m : Commit). m.length) is)

-- the whole blocks in the half, and the others in the buffer
pub slots_bytes : (image : Image) (known : Known) (c : Carried) → SlotKnows known (state_of c known.slot.blocks) → length image ≡ known.slot.sectors → HoldsBlocks (length c.bytes / 4096) (state_of c known.slot.blocks) image → bytes_in image (InSlots known None) ≡ c.bytes
slots_bytes image known c knows wide begins =
    let long : known.slot.length ≡ length c.bytes = ap (λ (s : Slot). s.length) knows.slot_is in
    let held : 4096 * (known.slot.length / 4096) ≡ 4096 * (length c.bytes / 4096) = ap (λ (n : ℕ). 4096 * (n / 4096)) long in
    let start : block_start (length image) c.half ≡ block_start known.slot.sectors known.slot.half = (λ i. block_start (wide i) (sym (ap (λ (s : Slot). s.half) knows.slot_is) i)) in
    riding_bytes image (block_start known.slot.sectors known.slot.half) (4096 * (known.slot.length / 4096)) known.slot.length known.tail.items c.bytes long (omega (arith, long))
    (subst (λ (n : ℕ). Begins image (block_start known.slot.sectors known.slot.half) (take n c.bytes)) (sym held) (subst (λ (s : ℕ). Begins image s (take (4096 * (length c.bytes / 4096)) c.bytes)) start begins))
    (ap (λ (n : ℕ). take n known.tail.items) (omega (arith, long)) ∙ knows.tail_is ∙ ap (λ (n : ℕ). drop n c.bytes) (sym held))

-- the blocks that the slot names, and the others in the buffer
pub awaiting_bytes : (image : Image) (known : Known) (awaiting : Awaiting) (c : Carried) → KnowsFound known (state_of c known.slot.blocks) → 4096 * known.slot.blocks ≤ known.slot.length → length image ≡ known.slot.sectors
    → HoldsBlocks known.slot.blocks (state_of c known.slot.blocks) image → bytes_in image (InSlots known (Some awaiting)) ≡ c.bytes
awaiting_bytes image known awaiting c knows within wide begins =
    let long : known.slot.length ≡ length c.bytes = ap (λ (s : Slot). s.length) knows.slot_is in
    let start : block_start (length image) c.half ≡ block_start known.slot.sectors known.slot.half = (λ i. block_start (wide i) (sym (ap (λ (s : Slot). s.half) knows.slot_is) i)) in
    riding_bytes image (block_start known.slot.sectors known.slot.half) (4096 * known.slot.blocks) known.slot.length known.tail.items c.bytes long (omega (arith, long, within))
    (subst (λ (s : ℕ). Begins image s (take (4096 * known.slot.blocks) c.bytes)) start begins) knows.tail_is

-- ---- the state that is known

module _ (disk : Disk) (coherent : IsCoherent disk) (tears : (torn : List ℕ → Bool) → IsTearing torn disk) where
  seen_wide : length disk.seen ≡ disk.sectors
  seen_wide = (coherent.shape disk.seen coherent.seen).count

  pub reads_of : (held : Held) (c : Carried) → IsFormed disk.sectors held → IsOf disk held c → bytes_in disk.seen held ≡ c.bytes
  reads_of (InHalf known) c formed is =
      half_bytes disk.seen known c is.knows.commit_is (subst (λ (n : ℕ). Begins disk.seen (start_in_half n c.half) c.bytes) (seen_wide ∙ sym formed.size) (is.carried disk.seen coherent.seen).begins)
  reads_of (InSlots known None) c formed is = slots_bytes disk.seen known c is.knows (seen_wide ∙ sym formed.formed.size) (is.stands disk.seen (seen_weak disk coherent tears)).begins
  reads_of (InSlots known (Some awaiting)) c formed is = awaiting_bytes disk.seen known awaiting c is.knows formed.formed.blocks_fit (seen_wide ∙ sym formed.formed.size) is.awaits.carries.begins

  numbers_are : (held : Held) (c : Carried) → IsOf disk held c → bytes_in disk.seen held ≡ c.bytes → carried_in disk.seen held ≡ c
  numbers_are (InHalf known) c is bytes =
      λ i. record { version = (is.knows.commit_is i).format; rides = sym is.plain i; half = (is.knows.commit_is i).half; bytes = bytes i; seq = (is.knows.commit_is i).seq; opens = (is.knows.commit_is i).opens; identity = sym is.identity_is i }
  numbers_are (InSlots known None) c is bytes =
      λ i. record { version = sym is.version_is i; rides = sym is.rides_is i; half = (is.knows.slot_is i).half; bytes = bytes i; seq = (is.knows.slot_is i).seq; opens = (is.knows.slot_is i).opens; identity = (is.knows.slot_is i).identity }
  numbers_are (InSlots known (Some awaiting)) c is bytes =
      λ i. record { version = sym is.version_is i; rides = sym is.rides_is i; half = (is.knows.slot_is i).half; bytes = bytes i; seq = (is.knows.slot_is i).seq; opens = (is.knows.slot_is i).opens; identity = (is.knows.slot_is i).identity }

  pub held_is : (held : Held) (c : Carried) → IsFormed disk.sectors held → IsOf disk held c → carried_in disk.seen held ≡ c
  held_is held c formed is = numbers_are held c is (reads_of held c formed is)

  -- each image carries it
  riding : (c : Carried) (blocks : ℕ) (image : Image) → c.version ≡ 2 → 160 ≤ disk.sectors → disk.sectors ≤ 2 ^ 32 → length image ≡ disk.sectors → HasNoSector image → CarriesInSlots (state_of c blocks) image → HasNumbers image → CarriesRiding c blocks image
  riding c blocks image version least most wide none carries numbers = record {
    sized = record { at_least = omega (arith, wide, least); at_most = omega (arith, wide, most) };
    version_is = version;
    none = none;
    in_slots = carries;
    numbers = numbers;
  }

  pub carried_by : (held : Held) (c : Carried) → IsFormed disk.sectors held → IsOf disk held c → (image : Image) → (model c.rides disk).left image → Carries c image
  carried_by (InHalf known) c formed is image left = carries_half c image is.plain is.identity_is (is.carried image (subst (λ (r : Bool). (model r disk).left image) is.plain left))
  carried_by (InSlots known None) c formed is image left =
      let weak_left = subst (λ (r : Bool). (model r disk).left image) is.rides_is left in
      let stands = is.stands image weak_left in
      carries_riding c image known.slot.blocks is.rides_is
      (riding c known.slot.blocks image is.version_is formed.formed.at_least formed.formed.at_most (wide_weak disk tears image weak_left) (is.none image weak_left) (stands_carries known.slot.number (state_of c known.slot.blocks) image stands)
      (λ k low verifies. omega (arith, stands.fresh k low verifies, formed.number_fits refl)))
  carried_by (InSlots known (Some awaiting)) c formed is image left =
      let weak_left = subst (λ (r : Bool). (model r disk).left image) is.rides_is left in
      subst (Carries c) (sym (is.alone image weak_left))
      (carries_riding c disk.seen known.slot.blocks is.rides_is (riding c known.slot.blocks disk.seen is.version_is formed.formed.at_least formed.formed.at_most seen_wide is.none is.awaits.carries is.numbers))
