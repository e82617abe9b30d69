-- The model of a device of sectors: what is known of it, what its calls do, and what a crash may leave.
use Rattle.std.specs.Prelude.{◌≡◌, ◌⊎◌, ◌↔◌, ℕ, ◌<◌, ◌≤◌, ◌+◌, ◌-◌, ◌/◌, ◌^◌, List, [], length, slice_set, slice_index_or, Bool, IsTrue, Option, Some, None, Result, OnOk, OnErr}

-- the contents of all sectors, in order, each a list of bytes
abbrev pub Image : Type 0
Image = List (List ℕ)

-- all that contracts say of a device
pub record Disk : Type 1 where
  pub sectors : ℕ
  -- it keeps to the sentences on reads and images
  pub honest : Type 0
  -- what reads give
  pub seen : Image
  -- what a crash now may leave, if no sector tears
  pub left : Image → Type 0
  -- a clock that no call moves back
  pub moment : ℕ
  -- what a crash at some moment since that one might have left, if no sector tears
  pub left_since : ℕ → Image → Type 0
  -- the same, if sectors tear: a torn one holds any 512 bytes of which the test is true
  pub torn_left : (List ℕ → Bool) → Image → Type 0
  pub torn_since : (List ℕ → Bool) → ℕ → Image → Type 0
  -- the calls that failed
  pub failures : ℕ
  -- those of them that the limit of calls did not make
  pub own_failures : ℕ
  -- the stored count of its failures can rise no more
  pub failures_saturated : Type 0
  -- the calls that still pass, or no limit
  pub calls_left : Option ℕ

-- the device, if its sectors tear: so all that is said of images is said of these too
abbrev pub tearing : (List ℕ → Bool) → Disk → Disk
tearing torn disk = record disk { left = disk.torn_left torn; left_since = disk.torn_since torn }

-- one call less
abbrev pub less_one : Option ℕ → Option ℕ
less_one None = None
less_one (Some n) = Some (n - 1)

-- `n` calls at least still pass
abbrev pub AtLeast : ℕ → Option ℕ → Type 0
AtLeast n None = Unit {0}
AtLeast n (Some m) = n ≤ m

-- a stored count of 64 bits that is raised by one, or stays at its end
abbrev pub IsRaised : ℕ → ℕ → Type 0
IsRaised old new = ((old < 2 ^ 64 - 1) × (new ≡ old + 1)) ⊎ ((old ≡ 2 ^ 64 - 1) × (new ≡ old))

-- a call, of any device, honest or not
pub record Counts {T E : Type 0} (old new : Disk) (result : Result T E) : Type 0 where
  pub size : new.sectors ≡ old.sectors
  -- none makes a device honest
  pub honest : new.honest → old.honest
  -- each call uses one that passes, also one that fails, and Ok says that there was one
  pub calls_left : new.calls_left ≡ less_one old.calls_left
  pub passed : OnOk result (AtLeast 1 old.calls_left)
  -- an Ok leaves the counts; an Err raises them, but on a device whose count is at its end, and if the limit was spent
  pub ok : OnOk result (new.failures ≡ old.failures)
  pub ok_faults : OnOk result (new.own_failures ≡ old.own_failures)
  pub later : old.failures ≤ new.failures
  pub later_faults : old.own_failures ≤ new.own_failures
  pub err : OnErr result ((old.failures < new.failures) ⊎ old.failures_saturated)
  pub err_faults : OnErr result ((old.calls_left ≡ Some 0) ⊎ (old.own_failures < new.own_failures) ⊎ old.failures_saturated)
  pub spent : old.calls_left ≡ Some 0 → new.own_failures ≡ old.own_failures
  -- a count at its end stays there, and comes there by a failure alone
  pub stays_saturated : old.failures_saturated → new.failures_saturated
  pub saturates : new.failures_saturated → old.failures_saturated ⊎ (old.failures < new.failures)

-- `sectors` sectors, each of 512 bytes
pub record HasShape (sectors : ℕ) (image : Image) : Type 0 where
  pub count : length image ≡ sectors
  pub whole : (k : ℕ) → k < sectors → length (slice_index_or image k []) ≡ 512

-- what holds of an honest device at each moment
pub record IsCoherent (disk : Disk) : Type 0 where
  -- as it reads it is one of its images
  pub seen : disk.left disk.seen
  pub shape : (image : Image) → disk.left image → HasShape disk.sectors image
  -- this moment is one of those since an earlier one, and since this one there is no other
  pub now : (moment : ℕ) (image : Image) → moment ≤ disk.moment → disk.left image → disk.left_since moment image
  pub only_now : (image : Image) → disk.left_since disk.moment image → disk.left image

-- the same holds if its sectors tear, and tearing only adds images
pub record IsTearing (torn : List ℕ → Bool) (disk : Disk) : Type 0 where
  pub coherent : IsCoherent (tearing torn disk)
  pub adds : (image : Image) → disk.left image → disk.torn_left torn image
  pub adds_since : (moment : ℕ) (image : Image) → disk.left_since moment image → disk.torn_since torn moment image

-- a crash since a moment might have left what it might have left before, or what it may leave now
pub record Elapses (old new : Disk) : Type 0 where
  pub later : old.moment ≤ new.moment
  pub nothing_else : (moment : ℕ) (image : Image) → moment ≤ old.moment → new.left_since moment image → old.left_since moment image ⊎ new.left image
  pub keeps : (moment : ℕ) (image : Image) → moment ≤ old.moment → old.left_since moment image → new.left_since moment image

-- an image of old, or one with that sector replaced
abbrev pub OrReplaced : (Image → Type 0) → ℕ → List ℕ → Image → Type 0
OrReplaced old at content image = old image ⊎ ((before : Image) × old before × (image ≡ slice_set before at content))

-- the bytes of a torn sector
abbrev pub IsDamage : (List ℕ → Bool) → List ℕ → Type 0
IsDamage torn sector = (length sector ≡ 512) × IsTrue (torn sector)

-- image is before, but for that sector, which may be replaced, and for torn sectors of its block of 8, which may be itself
pub record IsTornFrom (torn : List ℕ → Bool) (at : ℕ) (content : List ℕ) (before image : Image) : Type 0 where
  pub size : length image ≡ length before
  pub each : (k : ℕ) → (slice_index_or image k [] ≡ slice_index_or before k []) ⊎ ((k ≡ at) × (slice_index_or image k [] ≡ content)) ⊎ ((k / 8 ≡ at / 8) × IsDamage torn (slice_index_or image k []))

-- an image of old, or such a one
abbrev pub OrTorn : (List ℕ → Bool) → (Image → Type 0) → ℕ → List ℕ → Image → Type 0
OrTorn torn old at content image = (before : Image) × old before × IsTornFrom torn at content before image

-- a write of an honest device
pub record Writes {T E : Type 0} (old new : Disk) (at : ℕ) (content : List ℕ) (result : Result T E) : Type 0 where
  -- it stays honest
  pub honest : new.honest
  pub time : Elapses old new
  pub adds : (image : Image) → new.left image → OrReplaced old.left at content image
  pub seen : OnOk result (new.seen ≡ slice_set old.seen at content)
  pub all : OnOk result ((image : Image) → OrReplaced old.left at content image → new.left image)
  pub failed : OnErr result ((new.seen ≡ old.seen) ⊎ (new.seen ≡ slice_set old.seen at content))

-- a write of an honest device whose sectors tear
pub record Tears (torn : List ℕ → Bool) (old new : Disk) (at : ℕ) (content : List ℕ) : Type 0 where
  pub time : Elapses (tearing torn old) (tearing torn new)
  pub adds : (image : Image) → new.torn_left torn image → OrTorn torn (old.torn_left torn) at content image

-- a sync of an honest device
pub record Syncs {T E : Type 0} (old new : Disk) (result : Result T E) : Type 0 where
  -- it stays honest
  pub honest : new.honest
  pub time : Elapses old new
  pub seen : new.seen ≡ old.seen
  pub adds_none : (image : Image) → new.left image → old.left image
  pub settled : OnOk result ((image : Image) → new.left image → image ≡ old.seen)

-- a read that gives the content of the sector leaves an honest device honest
abbrev pub StaysHonest : {T E : Type 0} → Disk → Disk → ℕ → List ℕ → Result T E → Type 0
StaysHonest old new at content result = old.honest → OnOk result (content ≡ slice_index_or old.seen at [] → new.honest)

-- a read of a device that is honest after it
pub record Reads {T E : Type 0} (old new : Disk) (at : ℕ) (content : List ℕ) (result : Result T E) : Type 0 where
  pub time : Elapses old new
  pub seen : new.seen ≡ old.seen
  pub left : (image : Image) → new.left image ↔ old.left image
  pub given : OnOk result (content ≡ slice_index_or old.seen at [])

-- a crash at any moment since old leaves an image that has P
pub record LeavesOnly (old new : Disk) (P : Image → Type 0) : Type 0 where
  pub later : old.moment ≤ new.moment
  pub each : (image : Image) → new.left_since old.moment image → P image
  -- for a run that began earlier
  pub before : (moment : ℕ) (image : Image) → moment ≤ old.moment → new.left_since moment image → old.left_since moment image ⊎ P image
