-- The memory of an open journal, in any format, and the state that it belongs to.
use Rattle.std.specs.Prelude.{◌≡◌, ℕ, ◌+◌, ◌-◌, ◌*◌, ◌/◌, ◌<◌, ◌≤◌, List, ◌++◌, take, Bool, true, false, Option, None, Some, Result, OnOk, OnErr, if◌then◌else◌}
use Rattle.sector_device.specs.Disk.{Disk, Image, LeavesOnly}
use Rattle.commit_slots.specs.Slots.{block_start}
use Rattle.commit_slots.specs.declared.slot.Slot.{Slot}
use Rattle.slot_commits.specs.Loads.{Awaits, HasNumbers, number_end}
use Rattle.slot_commits.specs.States.{Stands}
use Rattle.slot_journal.specs.Known.{IsFormed as IsSlotFormed, Knows as SlotKnows, KnowsFound}
use Rattle.slot_journal.specs.declared.known.Known.{Known}
use Rattle.half_journal.specs.Known.{IsFormed as IsHalfFormed, Knows as HalfKnows}
use Rattle.half_journal.specs.Layout.{HasNoSector, half_start as start_in_half}
use Rattle.half_journal.specs.Reads.{bytes_read}
use Rattle.half_journal.specs.States.{CarriesInHalf}
use Rattle.half_journal.specs.declared.known.HalfKnown.{HalfKnown}
use Rattle.store_journal.specs.Carries.{Carried, EitherCarried, half_of, state_of}
use Rattle.store_journal.specs.Layout.{capacity_of, half_start}
use Rattle.store_journal.specs.Models.{model, weak}
use Rattle.store_journal.specs.declared.held.Awaiting.{Awaiting}
use Rattle.store_journal.specs.declared.held.Held.{Held}
use Rattle.store_journal.specs.declared.held.Held.TheVariants.{InHalf, InSlots}

-- its numbers
pub record Numbers : Type 0 where
  pub sectors : ℕ
  pub version : ℕ
  pub rides : Bool
  pub half : ℕ
  pub used : ℕ
  pub seq : ℕ
  pub opens : ℕ
  pub identity : ℕ
  -- a commit may be made: in format 3 once the opening was counted
  pub settled : Bool
  -- in format 3 the number of the next commit, and how many blocks the slot names; else 0
  pub next : ℕ
  pub blocks : ℕ

-- no opening waits to be counted
abbrev pub is_settled : Option Awaiting → Bool
is_settled None = true
is_settled (Some awaiting) = false

abbrev pub next_of : Option Awaiting → Slot → ℕ
next_of None slot = slot.number + 1
next_of (Some awaiting) slot = awaiting.number

abbrev pub numbers_of : Held → Numbers
numbers_of (InHalf known) = record {
  sectors = known.commit.sectors;
  version = known.commit.format;
  rides = false;
  half = known.commit.half;
  used = known.commit.length;
  seq = known.commit.seq;
  opens = known.commit.opens;
  identity = 0;
  settled = true;
  next = 0;
  blocks = 0;
}
numbers_of (InSlots known awaits) = record {
  sectors = known.slot.sectors;
  version = 2;
  rides = true;
  half = known.slot.half;
  used = known.slot.length;
  seq = known.slot.seq;
  opens = known.slot.opens;
  identity = known.slot.identity;
  settled = is_settled awaits;
  next = next_of awaits known.slot;
  blocks = known.slot.blocks;
}

-- how many of the committed bytes the half has, in format 3
abbrev pub in_half : Option Awaiting → Slot → ℕ
in_half None slot = 4096 * (slot.length / 4096)
in_half (Some awaiting) slot = 4096 * slot.blocks

-- the committed bytes: those of the half as they are read, and in format 3 the others
abbrev pub bytes_in : Image → Held → List ℕ
bytes_in image (InHalf known) = bytes_read image (start_in_half known.commit.sectors known.commit.half) known.commit.length
bytes_in image (InSlots known awaits) =
    bytes_read image (block_start known.slot.sectors known.slot.half) (in_half awaits known.slot) ++ take (known.slot.length - in_half awaits known.slot) known.tail.items

-- with the numbers
abbrev pub carried_in : Image → Held → Carried
carried_in image held =
    record {
      version = (numbers_of held).version;
      rides = (numbers_of held).rides;
      half = (numbers_of held).half;
      bytes = bytes_in image held;
      seq = (numbers_of held).seq;
      opens = (numbers_of held).opens;
      identity = (numbers_of held).identity;
    }

-- the first n bytes of the half that doesn't count, as they are read
abbrev pub other_bytes : Image → Held → ℕ → List ℕ
other_bytes image held n = bytes_read image (half_start (numbers_of held).rides (numbers_of held).sectors (1 - (numbers_of held).half)) n

-- in format 3 the slot and the buffer fit the device, and before the opening is counted the slot's tail fits the buffer
pub record IsRidingFormed (sectors : ℕ) (known : Known) (awaits : Option Awaiting) : Type 0 where
  pub formed : IsSlotFormed sectors known
  pub number_fits : awaits ≡ None → known.slot.number < number_end
  pub waiting : (awaiting : Awaiting) → awaits ≡ Some awaiting → (known.slot.length ≤ 4096 * known.slot.blocks + 15428) × (awaiting.first ≤ 1)

-- its numbers fit a device of `sectors` sectors
abbrev pub IsFormed : ℕ → Held → Type 0
IsFormed sectors (InHalf known) = IsHalfFormed sectors known
IsFormed sectors (InSlots known awaits) = IsRidingFormed sectors known awaits

-- the same, of a journal
pub record HasForm (sectors : ℕ) (held : Held) : Type 0 where
  pub in_half : (known : HalfKnown) → held ≡ InHalf known → IsHalfFormed sectors known
  pub in_slots : (known : Known) (awaits : Option Awaiting) → held ≡ InSlots known awaits → IsRidingFormed sectors known awaits

-- in formats 1 and 2: so it has to be for c, and each image carries c
pub record IsInHalf (disk : Disk) (known : HalfKnown) (c : Carried) : Type 0 where
  pub plain : c.rides ≡ false
  pub identity_is : c.identity ≡ 0
  pub knows : HalfKnows known (half_of c)
  pub carried : (image : Image) → disk.left image → CarriesInHalf (half_of c) image

-- in format 3: so it has to be for c, which each image holds, and sector 0 is no commit sector of another format
pub record IsInSlots (disk : Disk) (known : Known) (c : Carried) : Type 0 where
  pub rides_is : c.rides ≡ true
  pub version_is : c.version ≡ 2
  pub knows : SlotKnows known (state_of c known.slot.blocks)
  pub stands : (image : Image) → (weak disk).left image → Stands known.slot.number (state_of c known.slot.blocks) image
  pub none : (image : Image) → (weak disk).left image → HasNoSector image

-- in format 3, before the opening is counted: each image is what was read, and that carries it
pub record IsAwaiting (disk : Disk) (awaiting : Awaiting) (known : Known) (c : Carried) : Type 0 where
  pub rides_is : c.rides ≡ true
  pub version_is : c.version ≡ 2
  pub knows : KnowsFound known (state_of c known.slot.blocks)
  pub alone : (image : Image) → (weak disk).left image → image ≡ disk.seen
  pub awaits : Awaits awaiting.number awaiting.first (state_of c known.slot.blocks) disk.seen
  pub none : HasNoSector disk.seen
  pub numbers : HasNumbers disk.seen

-- what it knows belongs to c, which the images carry
abbrev pub IsOf : Disk → Held → Carried → Type 0
IsOf disk (InHalf known) c = IsInHalf disk known c
IsOf disk (InSlots known None) c = IsInSlots disk known c
IsOf disk (InSlots known (Some awaiting)) c = IsAwaiting disk awaiting known c

-- a commit of c that was made or failed: at any moment the old bytes or the new, at Ok the new alone, of which is known; after a failure the old ones are read
pub record Tried {T E : Type 0} (old new : Disk) (now : Held) (c next : Carried) (result : Result T E) : Type 0 where
  pub any_moment : LeavesOnly (model c.rides old) (model c.rides new) (EitherCarried c next)
  pub done : OnOk result (IsOf new now next)
  pub stays : OnErr result (bytes_in new.seen now ≡ c.bytes)

-- the bytes of the half that doesn't count are read as before
abbrev pub SparesOther : Held → Image → Image → Type 0
SparesOther held old new = (n : ℕ) → n ≤ capacity_of (numbers_of held).rides (numbers_of held).sectors → other_bytes new held n ≡ other_bytes old held n

-- the numbers after a commit: bytes of this size in this half, and in format 3 a number was used
abbrev pub numbers_after : Numbers → ℕ → ℕ → ℕ → ℕ → ℕ → ℕ → Numbers
numbers_after old version half used seq opens blocks =
    record {
      sectors = old.sectors;
      version = version;
      rides = old.rides;
      half = half;
      used = used;
      seq = seq;
      opens = opens;
      identity = old.identity;
      settled = true;
      next = if old.rides then old.next + 1 else 0;
      blocks = blocks;
    }

-- what is copied fits the other half, and before an opening is counted nothing is
pub record HasRoom (held : Held) (copied : ℕ) : Type 0 where
  pub fits : copied ≤ capacity_of (numbers_of held).rides (numbers_of held).sectors
  pub none : (numbers_of held).settled ≡ false → copied ≡ 0
