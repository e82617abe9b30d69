-- The commit that a device carries, read from its slots and blocks, and when there is none.
use Rattle.std.specs.Prelude.{◌≡◌, ◌≢◌, ◌⊎◌, ℕ, ◌+◌, ◌-◌, ◌*◌, ◌/◌, ◌<◌, ◌≤◌, ◌^◌, List, length, take, drop}
use Rattle.sector_device.specs.Disk.{Disk, Image}
use Rattle.sector_device.specs.Charges.{Failed, Made}
use Rattle.sector_device.specs.Sectors.{Begins}
use Rattle.checksum.specs.Crc.{crc_of}
use Rattle.commit_slots.specs.Slots.{Counts, IsSlotOf, block_start, slot_start, slots_capacity}
use Rattle.commit_slots.specs.Finding.{IsMarked}
use Rattle.commit_slots.specs.Fresh.{IsFresh}
use Rattle.commit_slots.specs.declared.slot.Slot.{Slot}
use Rattle.slot_commits.specs.Finds.{IsNotice}
use Rattle.slot_commits.specs.States.{CarriesInSlots, State, tail_of}
use Rattle.slot_commits.specs.declared.found.LoadFault.{LoadFault}
use Rattle.slot_commits.specs.declared.found.LoadFault.TheVariants.{NotAStore, Damaged, Device, Memory}
use Rattle.slot_commits.specs.declared.found.Notice.{Notice}
use Rattle.slot_commits.specs.declared.found.Recovered.{Recovered}

-- the first number that an image may not have
abbrev pub number_end : ℕ
number_end = 2 ^ 64 - 2

-- numbers are left for an opening
abbrev pub HasNumbers : Image → Type 0
HasNumbers image = IsFresh number_end image

-- what a slot says, with all committed bytes
abbrev pub state_in : Slot → List ℕ → State
state_in slot bytes = record { half = slot.half; bytes = bytes; seq = slot.seq; opens = slot.opens; blocks = slot.blocks; identity = slot.identity }

-- The image carries c, and waits for an opening's commit under this number: the number is fresh, and the copy that counts isn't at the place of its copy `first`.
pub record Awaits (number first : ℕ) (c : State) (image : Image) : Type 0 where
  pub carries : CarriesInSlots c image
  pub one_of_two : first ≤ 1
  pub apart : slot_start carries.number carries.copy ≢ slot_start number first
  pub fits : number < 2 ^ 64
  pub fresh : IsFresh number image

-- what the slots say beside the commit that counts
abbrev pub IsNoticeOf : Image → Notice → Type 0
IsNoticeOf image notice = (slot : Slot) (tail : List ℕ) (copy : ℕ) → Counts slot tail copy image → IsNotice image slot tail notice

-- the reads: the sectors of the slots, and those of the blocks
abbrev pub load_calls : ℕ → ℕ
load_calls blocks = 128 + 8 * blocks

-- all bytes of a slot were read: those in its blocks, which have its check, and its tail
pub record HasRead (old new : Disk) (slot : Slot) (tail bytes : List ℕ) : Type 0 where
  pub size : length bytes ≡ slot.length
  pub last : drop (4096 * slot.blocks) bytes ≡ tail
  pub check : crc_of (take (4096 * slot.blocks) bytes) ≡ slot.check
  pub begins : new.honest → Begins old.seen (block_start old.sectors slot.half) (take (4096 * slot.blocks) bytes)
  pub made : Made old new (8 * slot.blocks)

-- why they were not
abbrev pub BlocksRefusal : Disk → Disk → Slot → LoadFault → Type 0
BlocksRefusal old new slot NotAStore = ⊥
BlocksRefusal old new slot Damaged =
    (new.honest → (bytes : List ℕ) → length bytes ≡ 4096 * slot.blocks → Begins old.seen (block_start old.sectors slot.half) bytes → crc_of bytes ≢ slot.check) × Made old new (8 * slot.blocks)
BlocksRefusal old new slot Device = Failed old new (8 * slot.blocks)
BlocksRefusal old new slot Memory = (calls : ℕ) × (calls ≤ 8 * slot.blocks) × Made old new calls

-- a device whose commit was read
pub record IsRecovered (old new : Disk) (found : Recovered) : Type 0 where
  pub of : IsSlotOf old.sectors found.slot (tail_of (state_in found.slot found.bytes.items))
  pub size : found.slot.length ≡ length found.bytes.items
  pub check : crc_of (take (4096 * found.slot.blocks) found.bytes.items) ≡ found.slot.check
  pub first_fits : found.first ≤ 1
  pub awaits : new.honest → Awaits found.number found.first (state_in found.slot found.bytes.items) old.seen
  pub numbers : new.honest → HasNumbers old.seen
  pub notice : new.honest → IsNoticeOf old.seen found.notice
  pub made : Made old new (load_calls found.slot.blocks)

-- nothing begins as a store does
pub record NoStore (old new : Disk) : Type 0 where
  pub none : new.honest → IsMarked old.seen → ⊥
  pub made : Made old new (load_calls 0)

-- It looks like a store, and carries nothing, or no number is left. The blocks were read if a copy counts.
pub record IsDamaged (old new : Disk) : Type 0 where
  pub there : new.honest → IsMarked old.seen
  pub nothing : new.honest → (c : State) → CarriesInSlots c old.seen → HasNumbers old.seen → ⊥
  pub made : Made old new (load_calls 0) ⊎ ((slot : Slot) × (tail : List ℕ) × (copy : ℕ) × IsSlotOf old.sectors slot tail × (new.honest → Counts slot tail copy old.seen) × Made old new (load_calls slot.blocks))

-- one of the calls failed
pub record LoadFailed (old new : Disk) : Type 0 where
  pub any : Failed old new (load_calls (slots_capacity old.sectors / 4096))
  pub few : new.honest → (c : State) → CarriesInSlots c old.seen → Failed old new (load_calls c.blocks)

-- each call passed, and no more were made than what the device carries asks for
pub record OnlyLoaded (old new : Disk) : Type 0 where
  pub calls : ℕ
  pub made : Made old new calls
  pub any : calls ≤ load_calls (slots_capacity old.sectors / 4096)
  pub few : new.honest → (c : State) → CarriesInSlots c old.seen → calls ≤ load_calls c.blocks

-- why nothing was loaded
abbrev pub LoadRefusal : Disk → Disk → LoadFault → Type 0
LoadRefusal old new NotAStore = NoStore old new
LoadRefusal old new Damaged = IsDamaged old new
LoadRefusal old new Device = LoadFailed old new
LoadRefusal old new Memory = OnlyLoaded old new
