-- The view of a store, and the extent of its state on an image: in how many bytes of which half it is.
use Rattle.std.specs.Prelude.{◌≡◌, ℕ, Bool, true, false, Option, None, List, ◌++◌, length}
use Rattle.sector_device.specs.Disk.{Disk, Image}
use Rattle.doc_changes.specs.State.{State}
use Rattle.store_commits.specs.Images.{Stands, Holds, profile_in, version_of_frames}
use Rattle.store_journal.specs.Carries.{Carries}
use Rattle.store_journal.specs.Models.{model}

-- a copy that runs: the length of its target, and how many of these bytes the other half holds
pub record Copy : Type 0 where
  pub target : ℕ
  pub standing : ℕ

-- all that replies depend on
pub record Account : Type 0 where
  pub state : State
  -- the bytes of the half that counts
  pub used : ℕ
  pub half : ℕ
  -- the last bytes ride in slots, so that one sync makes small commits durable: format 3, the one of profile 3
  pub rides : Bool
  pub opens : ℕ
  -- the identity of the store, in format 3; else 0
  pub identity : ℕ
  pub sectors : ℕ
  -- the device failed
  pub broken : Bool
  pub copy : Option Copy

-- the account once the device failed: nothing goes on, and no copy runs
abbrev pub account_broken : Account → Account
account_broken a = record a { broken = true; copy = None }

-- the account with this copy in place of its own
abbrev pub with_copy : Account → Option Copy → Account
with_copy a k = record a { copy = k }

-- an account and the device that it is kept on
pub record StoreView (D : Type 0) : Type 0 where
  pub device : D
  pub account : Account

-- of a working store on an honest device, each image that a crash may leave, in the disk model of its format, holds its state
abbrev pub IsStanding : Disk → Account → Type 0
IsStanding disk account = disk.honest → account.broken ≡ false → (image : Image) → (model account.rides disk).left image → Stands account.state image

-- a state, how many bytes hold it in which half, whether the last of them ride in slots, the identity of the store, and the sectors of the device
pub record Extent : Type 0 where
  pub state : State
  pub used : ℕ
  pub half : ℕ
  pub rides : Bool
  pub identity : ℕ
  pub sectors : ℕ

abbrev pub extent_of : Account → Extent
extent_of a = record { state = a.state; used = a.used; half = a.half; rides = a.rides; identity = a.identity; sectors = a.sectors }

-- the image has `sectors` sectors, and carries the state in format 2, or in 3 with that identity, in `used` bytes in that half
pub record StandsAs (l : Extent) (image : Image) : Type 0 where
  pub bytes : List ℕ
  pub opens : ℕ
  pub carries : Carries (record { version = 2; rides = l.rides; half = l.half; bytes = bytes; seq = l.state.seq; opens = opens; identity = l.identity }) image
  pub profile_is : profile_in l.rides ≡ l.state.profile
  pub holds : Holds l.state.profile (version_of_frames l.rides 2) l.state.seq bytes l.state.documents l.state.marks
  pub used_is : l.used ≡ length bytes
  pub sectors_is : l.sectors ≡ length image

-- of a working store on an honest device, every image that a crash may leave is as its account
abbrev pub IsStandingAs : Disk → Account → Type 0
IsStandingAs disk account = disk.honest → account.broken ≡ false → (image : Image) → (model account.rides disk).left image → StandsAs (extent_of account) image

-- so does this one, and its bytes end with these
pub record EndsWith (ending : List ℕ) (l : Extent) (image : Image) : Type 0 where
  pub stands : StandsAs l image
  pub front : List ℕ
  pub ends : stands.bytes ≡ front ++ ending

-- of an honest device, every image that a crash may leave is as the account, and its bytes end with these
abbrev pub IsEndingWith : List ℕ → Disk → Account → Type 0
IsEndingWith ending disk account = disk.honest → (image : Image) → (model account.rides disk).left image → EndsWith ending (extent_of account) image
