-- The formatting of a device with bytes: what it leaves, and when it is refused.
use Rattle.std.specs.Prelude.{◌≡◌, ◌≢◌, ◌⊎◌, ℕ, ◌+◌, ◌<◌, ◌≤◌, List, length, Bool, true, false}
use Rattle.sector_device.specs.Disk.{Disk, Image}
use Rattle.sector_device.specs.Charges.{Made, Failed}
use Rattle.sector_device.specs.Sectors.{sectors_of, KeepsImages}
use Rattle.slot_commits.specs.Formats.{format_calls as slot_format_calls}
use Rattle.store_journal.specs.Layout.{capacity_of, IsSized}
use Rattle.refusals.specs.declared.numbers.TheConstants.{DEVICE, ALREADY_A_STORE, SMALL, NO_ROOM}
use Rattle.store_journal.specs.Carries.{Carried, Carries}
use Rattle.store_journal.specs.Models.{model}
use Rattle.store_journal.specs.Opening.{LooksIn, look_calls, nothing_in}
use Rattle.half_journal.specs.Layout.{HasMagic}

-- what a device carries that was just formatted with these bytes and numbers, in format 2, or in 3 with this identity: they are in half 0, as no bytes are on a device that was formatted
abbrev pub filled : Bool → List ℕ → ℕ → ℕ → ℕ → Carried
filled rides bytes seq opens identity = record (nothing_in rides identity) { bytes = bytes; seq = seq; opens = opens }

-- the calls that look for a store: sync, read 0; in format 3 those of a formatting
abbrev pub calls_to_look : Bool → ℕ
calls_to_look false = 2
calls_to_look true = look_calls true

-- all calls: after them a write of each sector of the bytes, sync, write 0, sync; or the slots and the blocks
abbrev pub calls_to_fill : Bool → List ℕ → ℕ
calls_to_fill false bytes = sectors_of (length bytes) + 5
calls_to_fill true bytes = calls_to_look true + slot_format_calls (length bytes)

-- no store: it looks like none; in format 3, whose sectors tear, it carries nothing, so that no opening finds one
abbrev pub IsNone : Bool → Image → Type 0
IsNone false image = HasMagic image → ⊥
IsNone true image = (c : Carried) → Carries c image → ⊥

-- What a crash may leave meanwhile: an image from before, or, of a device that held nothing that looks like a store, one that is none, or one that has all.
abbrev pub NoneOrAll : Bool → Disk → (Image → Type 0) → Image → Type 0
NoneOrAll rides old HasAll image = (model rides old).left image ⊎ ((LooksIn rides old.seen → ⊥) × (IsNone rides image ⊎ HasAll image))

-- a device that was formatted with them: it held nothing that looks like a store, and each image that may be left carries all
pub record Filled (old new : Disk) (c : Carried) : Type 0 where
  pub sized : IsSized c.rides old.sectors
  pub fits : length c.bytes ≤ capacity_of c.rides old.sectors
  pub fresh : new.honest → LooksIn c.rides old.seen → ⊥
  pub carries : new.honest → (image : Image) → (model c.rides new).left image → Carries c image
  pub made : Made old new (calls_to_fill c.rides c.bytes)

-- why a device is not formatted with them
pub record FillRefusal (old new : Disk) (c : Carried) (number : ℕ) : Type 0 where
  pub known : (number ≡ SMALL) ⊎ (number ≡ NO_ROOM) ⊎ (number ≡ ALREADY_A_STORE) ⊎ (number ≡ DEVICE)
  pub small : number ≡ SMALL → (IsSized c.rides old.sectors → ⊥) × Made old new 0
  pub no_room : number ≡ NO_ROOM → IsSized c.rides old.sectors × (capacity_of c.rides old.sectors < length c.bytes) × Made old new 0
  pub already : number ≡ ALREADY_A_STORE → IsSized c.rides old.sectors × (length c.bytes ≤ capacity_of c.rides old.sectors) × (new.honest → LooksIn c.rides old.seen) × Made old new (calls_to_look c.rides)
  pub fault : number ≡ DEVICE → IsSized c.rides old.sectors × (length c.bytes ≤ capacity_of c.rides old.sectors) × Failed old new (calls_to_fill c.rides c.bytes)
  -- but for the device's failure the images are those at entry, and nothing else was left meanwhile
  pub kept : number ≢ DEVICE → new.honest → KeepsImages old new
