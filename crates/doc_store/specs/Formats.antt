-- The status of a store; its format, and what brings it to another.
use Rattle.std.specs.Prelude.{length, ◌≡◌, ◌≢◌, ◌⊎◌, ◌+◌, ◌-◌, ◌≤◌, ℕ, Bool, true, false, None, Some, Result, Ok, Err, if◌then◌else◌, nat_eq}
use Rattle.store_journal.specs.Layout.{FitsBetween, capacity_of}
use Rattle.store_commits.specs.Account.{Account, account_broken}
use Rattle.doc_store.specs.declared.status.Status.{Status}
use Rattle.sector_device.specs.Disk.{Image}
use Rattle.schema_rules.specs.declared.profile.Profile.TheVariants as profile
use Rattle.doc_changes.specs.Refusals.{plain}
use Rattle.doc_changes.specs.State.{in_profile}
use Rattle.doc_changes.specs.Within.{AreBeyond, AreWithin}
use Rattle.doc_changes.specs.declared.refusal.Refusal.{Refusal}
use Rattle.refusals.specs.declared.numbers.TheConstants.{BROKEN, DEVICE, MEMORY, NO_ROOM, SEQ_END}
use Rattle.store_commits.specs.Images.{Stands, profile_in}
use Rattle.store_commits.specs.Snapshot.{account_with_snapshot, calls_of_snapshot, snapshot_bytes}
use Rattle.doc_store.specs.declared.format.Format.{Format}
use Rattle.doc_store.specs.declared.format.Format.TheVariants.{Two, Three}
use Rattle.store_journal.specs.Carries.{identity_in}
use Rattle.store_journal.specs.Writes.{downgrade_calls, upgrade_calls}

-- the account, without the documents themselves
abbrev pub status_of : Account → Status
status_of a = record {
  documents = length a.state.documents;
  seq = a.state.seq;
  opens = a.opens;
  identity = if a.rides then Some a.identity else None;
  used = a.used;
  capacity = capacity_of a.rides a.sectors;
  sectors = a.sectors;
  half = a.half;
  broken = a.broken;
}

-- its number, as the commit sector names it
abbrev pub number_of : Format → ℕ
number_of Two = 2
number_of Three = 3

-- whether the last bytes ride in slots in it
abbrev pub rides_in : Format → Bool
rides_in Two = false
rides_in Three = true

-- the format of a store: 3 if they do
abbrev pub format_of : Account → Format
format_of a = if a.rides then Three else Two

-- the half from which a format gives way to the other: 1 in format 2, and 0 in format 3
abbrev pub half_from : Bool → ℕ
half_from rides = if rides then 0 else 1

-- the account in that half: as it is, or with a snapshot there; no copy runs
abbrev pub account_ready : Account → Account
account_ready a = if nat_eq a.half (half_from a.rides) then record a { copy = None } else account_with_snapshot a

abbrev pub calls_to_ready : Account → ℕ
calls_to_ready a = if nat_eq a.half (half_from a.rides) then 0 else calls_of_snapshot a

-- the bytes that the snapshot of the account's state has in a format: in format 2 no marks are in it
abbrev pub size_in : Bool → Account → ℕ
size_in rides a = length (snapshot_bytes rides a.state.documents a.state.marks)

-- the account in another format, in format 3 with this identity, and its profile, in which format 2 has no marks: with the bytes of a snapshot, in the other half
abbrev pub account_over : Bool → ℕ → Account → Account
account_over rides identity a = record (account_with_snapshot a) { state = in_profile (profile_in rides) a.state; used = size_in rides a; rides = rides; identity = identity_in rides identity }

-- so from the half from which its format gives way
abbrev pub account_turned : Bool → ℕ → Account → Account
account_turned rides identity a = account_over rides identity (account_ready a)

-- the account from a format in another, to format 3 with this identity, or as it is
abbrev pub account_between : Format → Format → ℕ → Account → Account
account_between Two Three identity a = account_turned true identity a
account_between Three Two identity a = account_turned false 0 a
account_between from to identity a = a

-- the account in a format
abbrev pub account_in : Format → ℕ → Account → Account
account_in format identity a = account_between (format_of a) format identity a

-- the calls of the device from a format to another
abbrev pub calls_between : Format → Format → Account → ℕ
calls_between Two Three a = calls_to_ready a + upgrade_calls (size_in true a)
calls_between Three Two a = calls_to_ready a + downgrade_calls (size_in false a)
calls_between from to a = 0

-- the calls to a format
abbrev pub calls_to : Format → Account → ℕ
calls_to format a = calls_between (format_of a) format a

-- the bytes that are in half 0 of format 3 while both formats are on the device
abbrev pub used_between : Account → ℕ
used_between a = if a.rides then (account_ready a).used else size_in true a

-- a half of either format has room for the snapshot in it, and both formats can be on the device together
pub record HasWay (a : Account) : Type 0 where
  pub fits : size_in false a ≤ capacity_of false a.sectors
  pub fits_slots : size_in true a ≤ capacity_of true a.sectors
  pub between : FitsBetween a.sectors (used_between a)

-- Why a working store stays in its format, and nothing is written: on the way to format 2 there are too many documents for
-- that profile, or a schema has a fault in it; or else there is no room for the way; or memory was refused, or no number of a commit is left.
abbrev pub StaysAs : Format → Account → Refusal → Type 0
StaysAs format a r =
    ((format ≡ Two) × AreBeyond profile.Two a.state.documents r)
    ⊎ ((r ≡ plain NO_ROOM) × (format ≡ Two → AreWithin profile.Two a.state.documents) × (HasWay a → ⊥))
    ⊎ (r ≡ plain MEMORY) ⊎ (r ≡ plain SEQ_END)

-- The answer: the store works, and is in that format now. Or a fault of the device hit it on its way to another format: it is broken, no copy runs, and
-- at most it has come to the half from which that goes. Or it was broken before, or stays in its format, and nothing has changed; or it came to that half, and
-- there memory was refused, or older slots on the device leave no number.
abbrev pub FormatAnswers : Account → Format → ℕ → Result (Unit {0}) Refusal → Account → Type 0
FormatAnswers old format identity (Ok _) new = (old.broken ≡ false) × (new ≡ account_in format identity old)
FormatAnswers old format identity (Err r) new =
    ((r ≡ plain DEVICE) × (old.broken ≡ false) × (format_of old ≢ format) × ((new ≡ account_broken old) ⊎ (new ≡ account_broken (account_ready old))))
    ⊎ ((r ≡ plain BROKEN) × (old.broken ≡ true) × (new ≡ old))
    ⊎ (StaysAs format old r × (old.broken ≡ false) × (format_of old ≢ format) × (new ≡ old))
    ⊎ (((r ≡ plain MEMORY) ⊎ (r ≡ plain SEQ_END)) × (old.broken ≡ false) × (format_of old ≡ Two) × (format ≡ Three) × (new ≡ account_ready old))

-- the image holds the account's state, in its format, in as many bytes of the same half, was opened as often, and has its identity
pub record IsImageOf (a : Account) (image : Image) : Type 0 where
  pub stands : Stands a.state image
  pub version_is : stands.carried.version ≡ 2
  pub rides_is : stands.carried.rides ≡ a.rides
  pub half_is : stands.carried.half ≡ a.half
  pub used_is : length stands.carried.bytes ≡ a.used
  pub opens_is : stands.carried.opens ≡ a.opens
  pub identity_is : stands.carried.identity ≡ a.identity

-- the image of one of two accounts, or of an account, of it in the half from which its format gives way, or of a third
abbrev pub OneOf : Account → Account → Image → Type 0
OneOf a b image = IsImageOf a image ⊎ IsImageOf b image

abbrev pub OneOfThree : Account → Account → Image → Type 0
OneOfThree a b image = IsImageOf a image ⊎ IsImageOf (account_ready a) image ⊎ IsImageOf b image

-- that of the account in its format, or on the way, or in the other
abbrev pub InEither : Account → Format → ℕ → Image → Type 0
InEither a format identity = OneOfThree a (account_in format identity a)
