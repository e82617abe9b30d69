-- The bytes and numbers that an image of the device carries, by its format.
use Rattle.std.specs.Prelude.{◌≡◌, ◌⊎◌, ℕ, ◌+◌, ◌-◌, List, ◌++◌, length, Bool, true, false}
use Rattle.sector_device.specs.Disk.{Image}
use Rattle.half_journal.specs.Layout.{HasNoSector}
use Rattle.half_journal.specs.States.{CarriesInHalf, HalfState, one_more}
use Rattle.slot_commits.specs.Loads.{HasNumbers}
use Rattle.slot_commits.specs.States.{CarriesInSlots, State}
use Rattle.store_journal.specs.Layout.{IsSized}

-- the half that counts, the bytes and their format, and the numbers that go with them
pub record Carried : Type 0 where
  -- the format of the frames, 1 or 2
  pub version : ℕ
  -- the last bytes ride in the slot that counts: with frames of format 2 this is format 3
  pub rides : Bool
  pub half : ℕ
  pub bytes : List ℕ
  pub seq : ℕ
  pub opens : ℕ
  -- the identity of the store, in format 3; else 0
  pub identity : ℕ

-- the identity of a store in format 3; formats 1 and 2 have none
abbrev pub identity_in : Bool → ℕ → ℕ
identity_in false identity = 0
identity_in true identity = identity

-- the same in formats 1 and 2
abbrev pub half_of : Carried → HalfState
half_of c = record { version = c.version; half = c.half; bytes = c.bytes; seq = c.seq; opens = c.opens }

-- the state in slots, of which the slot names that many blocks
abbrev pub state_of : Carried → ℕ → State
state_of c blocks = record { half = c.half; bytes = c.bytes; seq = c.seq; opens = c.opens; blocks = blocks; identity = c.identity }

-- In format 3: the image has 160 to 2^32 sectors, sector 0 is no commit sector of the other formats, and the slots and blocks carry it. Numbers are left for an opening.
pub record CarriesRiding (c : Carried) (blocks : ℕ) (image : Image) : Type 0 where
  pub sized : IsSized true (length image)
  pub version_is : c.version ≡ 2
  pub none : HasNoSector image
  pub in_slots : CarriesInSlots (state_of c blocks) image
  pub numbers : HasNumbers image

-- by the format
abbrev pub CarriesIn : Bool → Carried → Image → Type 0
CarriesIn false c image = CarriesInHalf (half_of c) image × (c.identity ≡ 0)
CarriesIn true c image = (blocks : ℕ) × CarriesRiding c blocks image

abbrev pub Carries : Carried → Image → Type 0
Carries c image = CarriesIn c.rides c image

-- the slot names that many blocks; formats 1 and 2 have no slot
abbrev pub NamesBlocks : Carried → ℕ → Image → Type 0
NamesBlocks c blocks image = c.rides ≡ true → CarriesRiding c blocks image

-- the one or the other
abbrev pub EitherCarried : Carried → Carried → Image → Type 0
EitherCarried old new image = Carries old image ⊎ Carries new image

-- the bytes with more after them, and `adds` changes more
abbrev pub appended : Carried → List ℕ → ℕ → Carried
appended c more adds = record c { bytes = c.bytes ++ more; seq = c.seq + adds }

-- the target in the other half
abbrev pub switched : Carried → List ℕ → Carried
switched c target = record c { half = 1 - c.half; bytes = target }

-- the same, and `adds` changes more
abbrev pub replaced : Carried → List ℕ → ℕ → Carried
replaced c target adds = record c { half = 1 - c.half; bytes = target; seq = c.seq + adds }

-- opened one time more
abbrev pub counted : Carried → Carried
counted c = record c { opens = one_more c.opens }

-- the target in the other half, in format 2, opened one time more
abbrev pub migrated : Carried → List ℕ → Carried
migrated c target = record c { version = 2; rides = false; half = 1 - c.half; bytes = target; opens = one_more c.opens }

-- the target in the other half, in format 3 with this identity, or in format 2; it was opened as often
abbrev pub turned : Bool → ℕ → Carried → List ℕ → Carried
turned rides identity c target = record { version = 2; rides = rides; half = 1 - c.half; bytes = target; seq = c.seq; opens = c.opens; identity = identity_in rides identity }
