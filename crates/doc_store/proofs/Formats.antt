-- A store that is brought to another format.
use Rattle.std.proofs.Common.{◌≡◌, ◌≢◌, ◌⊎◌, inl, inr, ⊎_elim, ℕ, ◌+◌, ◌-◌, ◌≤◌, List, [], ◌∷◌, length, refl, sym, ◌∙◌, ap, subst, Bool, true, false, Option, None, ◌↔◌, if◌then◌else◌, nat_eq, arith, Result, Ok, Err, IfErr, OnOk}
use Rattle.std.proofs.lemmas.Bool.{cases_eq, eq-eqb, ne_eqb}
use Rattle.sector_device.specs.Charges.{Failed, Made}
use Rattle.sector_device.specs.Disk.{Disk, Image, IsCoherent, LeavesOnly}
use Rattle.sector_device.proofs.Charges.{failed_joined, failed_more, made_joined}
use Rattle.sector_device.proofs.Moments.{joined, leaves_weaker, started}
use Rattle.store_journal.specs.Calls.{Broke}
use Rattle.store_journal.specs.Carries.{Carried, Carries, EitherCarried, identity_in, switched, turned}
use Rattle.store_journal.specs.JournalView.{JournalView, IsKept, carried_of}
use Rattle.store_journal.specs.Layout.{FitsBetween, capacity_of}
use Rattle.store_journal.specs.Models.{model}
use Rattle.store_journal.specs.Turning.{Downgraded, Halted, Unwritten, Upgraded}
use Rattle.schema_rules.specs.declared.profile.Profile.{Profile}
use Rattle.schema_rules.specs.declared.profile.Profile.TheVariants as profile
use Rattle.doc_changes.proofs.Framed.{framed_storable}
use Rattle.doc_changes.proofs.Marked.{good_within}
use Rattle.doc_changes.specs.Marks.{Mark, marks_in, most_marks}
use Rattle.doc_changes.specs.Refusals.{plain}
use Rattle.doc_changes.specs.State.{Document, Good, State, in_profile}
use Rattle.doc_changes.specs.Within.{AreWithin}
use Rattle.doc_changes.specs.declared.refusal.Refusal.{Refusal}
use Rattle.refusals.specs.declared.numbers.TheConstants.{DEVICE, MEMORY, NO_ROOM, SEQ_END}
use Rattle.store_commits.specs.Account.{Account, Copy, account_broken, with_copy}
use Rattle.store_commits.specs.Inside.{IsHeld, account_of}
use Rattle.store_commits.specs.Images.{Holds, profile_in, version_of_frames}
use Rattle.store_commits.specs.Snapshot.{account_with_snapshot, calls_of_snapshot, snapshot_bytes, snapshot_size}
use Rattle.store_commits.proofs.Migrating.{snapshot_holds}
use Rattle.store_commits.proofs.Snapshots.{remakes_all, sizes_same}
use Rattle.store_commits.proofs.Standing.{held_by}
use Rattle.doc_store.proofs.Copies.{bytes_same}
use Rattle.doc_store.specs.Formats.{FormatAnswers, HasWay, InEither, IsImageOf, OneOf, OneOfThree, StaysAs, account_between, account_in, account_over, account_ready, account_turned, calls_between, calls_to, calls_to_ready, format_of, half_from, number_of, rides_in, size_in, used_between}
use Rattle.doc_store.specs.declared.format.Format.{Format}
use Rattle.doc_store.specs.declared.format.Format.TheVariants.{Three, Two}
use Rattle.store_journal.specs.Writes.{downgrade_calls, upgrade_calls}

-- an image that carries bytes of the account's format that hold its state
image_of : (c : Carried) (a : Account) → c.version ≡ 2 → c.rides ≡ a.rides → c.half ≡ a.half → length c.bytes ≡ a.used → c.opens ≡ a.opens → c.identity ≡ a.identity → c.seq ≡ a.state.seq → profile_in a.rides ≡ a.state.profile
    → Holds a.state.profile (version_of_frames a.rides 2) a.state.seq c.bytes a.state.documents a.state.marks → (image : Image) → Carries c image → IsImageOf a image
image_of c a version rides half used opens identity seq profile holds image carries = record {
  stands = record {
    carried = c;
    carries = carries;
    seq_is = seq;
    profile_is = ap profile_in rides ∙ profile;
    holds = subst (λ (v : ℕ). Holds a.state.profile v c.seq c.bytes a.state.documents a.state.marks) (λ i. version_of_frames (sym rides i) (sym version i))
        (subst (λ (n : ℕ). Holds a.state.profile (version_of_frames a.rides 2) n c.bytes a.state.documents a.state.marks) (sym seq) holds);
  };
  version_is = version;
  rides_is = rides;
  half_is = half;
  used_is = used;
  opens_is = opens;
  identity_is = identity;
}

-- a journal that went over to another format: the target in its other half
pub record WentOver {D : Type 0} (disk : D → Disk) (before now : JournalView D) (rides : Bool) (identity : ℕ) (target : List ℕ) : Type 0 where
  pub kept : IsKept (disk now.device) now
  pub bytes : (disk now.device).honest → now.bytes ≡ target
  pub used : length now.bytes ≡ length target
  pub version : now.version ≡ 2
  pub rides_is : now.rides ≡ rides
  pub half : now.half ≡ 1 - before.half
  pub seq : now.seq ≡ before.seq
  pub opens : now.opens ≡ before.opens
  pub identity_is : now.identity ≡ identity_in rides identity
  pub sectors : now.sectors ≡ before.sectors
  pub works : now.broken ≡ false
  pub settled : now.settled ≡ true

pub over_up : {D : Type 0} (disk : D → Disk) (before now : JournalView D) (identity : ℕ) (target : List ℕ) → IsKept (disk now.device) now → Upgraded (disk before.device) (disk now.device) before now identity target → WentOver disk before now true identity target
over_up disk before now identity target kept is = record {
  kept = kept;
  bytes = is.bytes;
  used = is.used;
  version = is.version;
  rides_is = is.rides;
  half = is.half;
  seq = is.seq;
  opens = is.opens;
  identity_is = is.identity_is;
  sectors = is.sectors;
  works = is.works;
  settled = is.settled;
}

pub over_down : {D : Type 0} (disk : D → Disk) (before now : JournalView D) (target : List ℕ) → IsKept (disk now.device) now → ((disk before.device).honest ↔ (disk now.device).honest) → Downgraded (disk before.device) (disk now.device) before now target
    → WentOver disk before now false 0 target
over_down disk before now target kept same is = record {
  kept = kept;
  bytes = λ honest. is.bytes (same.1 honest);
  used = is.used;
  version = is.version;
  rides_is = is.rides;
  half = is.half;
  seq = is.seq;
  opens = is.opens;
  identity_is = is.identity;
  sectors = is.sectors;
  works = is.works;
  settled = is.settled;
}

-- what a state in some profile may hold, one in profile 3 may
abbrev pub DocumentsStay : Type 0
DocumentsStay = (from : Profile) (ds : List Document) → AreWithin from ds → AreWithin profile.Three ds

-- ready, by whether it is in that half
abbrev pub ready_by : Bool → Account → Account
ready_by b a = if b then record a { copy = None } else account_with_snapshot a

module _ {D : Type 0} (disk : D → Disk) (before : JournalView D) (state : State) (k : Option Copy) (held : IsHeld (disk before.device) before state) where
  abbrev account : Account
  account = with_copy (account_of before state) k

  as_it_was : (disk before.device).honest → (image : Image) → Carries (carried_of before) image → IsImageOf account image
  as_it_was honest image carries = image_of (carried_of before) account held.version refl refl refl refl refl held.seq held.profile (held.held honest) image carries

  -- each image of a store that works is its account's
  pub images_are : before.broken ≡ false → (disk before.device).honest → (image : Image) → (model before.rides (disk before.device)).left image → IsImageOf account image
  images_are works honest image left = as_it_was honest image (held.kept.carried honest works image left)

  -- also if nothing is done
  pub still_images : ((disk before.device).honest → IsCoherent (model before.rides (disk before.device))) → before.broken ≡ false → (disk before.device).honest
      → LeavesOnly (model before.rides (disk before.device)) (model before.rides (disk before.device)) (IsImageOf account)
  still_images coherent works honest = started (model before.rides (disk before.device)) (IsImageOf account) (coherent honest) (images_are works honest)

  pub still_one : (other : Account) → ((disk before.device).honest → IsCoherent (model before.rides (disk before.device))) → before.broken ≡ false → (disk before.device).honest
      → LeavesOnly (model before.rides (disk before.device)) (model before.rides (disk before.device)) (OneOf account other)
  still_one other coherent works honest = started (model before.rides (disk before.device)) (OneOf account other) (coherent honest) (λ image left. inl (images_are works honest image left))

  abbrev target : List ℕ
  target = snapshot_bytes before.rides state.documents state.marks

  holds_here : Holds state.profile (version_of_frames before.rides 2) state.seq target state.documents state.marks
  holds_here = snapshot_holds before.rides state state.seq refl held.profile (remakes_all framed_storable state held.good)

  -- ---- by a snapshot, in the same format

  either_snapped : (disk before.device).honest → (image : Image) → EitherCarried (carried_of before) (switched (carried_of before) target) image → OneOf account (account_with_snapshot account) image
  either_snapped honest image (inl carries) = inl (as_it_was honest image carries)
  either_snapped honest image (inr carries) = inr (image_of (switched (carried_of before) target) (account_with_snapshot account) held.version refl refl refl refl refl held.seq held.profile holds_here image carries)

  pub snapped_moments : (now : JournalView D) → (disk before.device).honest → LeavesOnly (model before.rides (disk before.device)) (model before.rides (disk now.device)) (EitherCarried (carried_of before) (switched (carried_of before) target))
      → LeavesOnly (model before.rides (disk before.device)) (model before.rides (disk now.device)) (OneOf account (account_with_snapshot account))
  snapped_moments now honest leaves = leaves_weaker (model before.rides (disk before.device)) (model before.rides (disk now.device)) (EitherCarried (carried_of before) (switched (carried_of before) target)) (OneOf account (account_with_snapshot account)) (either_snapped honest) leaves

  -- there, since it was in the other half
  pub snapped_ready : (now : JournalView D) → (account.half ≡ half_from account.rides → ⊥) → (disk before.device).honest
      → LeavesOnly (model before.rides (disk before.device)) (model before.rides (disk now.device)) (EitherCarried (carried_of before) (switched (carried_of before) target))
      → LeavesOnly (model before.rides (disk before.device)) (model before.rides (disk now.device)) (OneOf account (account_ready account))
  snapped_ready now ne honest leaves =
      subst (λ (b : Account). LeavesOnly (model before.rides (disk before.device)) (model before.rides (disk now.device)) (OneOf account b)) (sym (ap (λ (b : Bool). ready_by b account) (ne_eqb account.half (half_from account.rides) ne)))
      (snapped_moments now honest leaves)

  -- ---- in another format

  pub within_up : DocumentsStay → AreWithin profile.Three state.documents
  within_up stay = stay state.profile state.documents (record { few = held.good.few; offered = held.good.offered })

  -- the snapshot in a format holds the documents in its profile, if they may be there
  pub holds_over : (rides : Bool) → AreWithin (profile_in rides) state.documents → Holds (profile_in rides) (version_of_frames rides 2) state.seq (snapshot_bytes rides state.documents state.marks) state.documents (marks_in (profile_in rides) state.marks)
  holds_over rides within =
      let other = in_profile (profile_in rides) state in
      subst (λ (l : List ℕ). Holds (profile_in rides) (version_of_frames rides 2) state.seq l state.documents (marks_in (profile_in rides) state.marks)) (bytes_same rides state.documents state.marks)
      (snapshot_holds rides other state.seq refl refl (remakes_all framed_storable other (good_within (profile_in rides) state held.good within)))

  module _ (rides : Bool) (identity : ℕ) (holds : Holds (profile_in rides) (version_of_frames rides 2) state.seq (snapshot_bytes rides state.documents state.marks) state.documents (marks_in (profile_in rides) state.marks)) where
    abbrev other : List ℕ
    other = snapshot_bytes rides state.documents state.marks

    either_over : (disk before.device).honest → (image : Image) → EitherCarried (carried_of before) (turned rides identity (carried_of before) other) image → OneOf account (account_over rides identity account) image
    either_over honest image (inl carries) = inl (as_it_was honest image carries)
    either_over honest image (inr carries) = inr (image_of (turned rides identity (carried_of before) other) (account_over rides identity account) refl refl refl refl refl refl held.seq refl holds image carries)

    pub over_moments : (now : JournalView D) → (disk before.device).honest → LeavesOnly (model before.rides (disk before.device)) (model before.rides (disk now.device)) (EitherCarried (carried_of before) (turned rides identity (carried_of before) other))
        → LeavesOnly (model before.rides (disk before.device)) (model before.rides (disk now.device)) (OneOf account (account_over rides identity account))
    over_moments now honest leaves = leaves_weaker (model before.rides (disk before.device)) (model before.rides (disk now.device)) (EitherCarried (carried_of before) (turned rides identity (carried_of before) other)) (OneOf account (account_over rides identity account)) (either_over honest) leaves

    module _ (now : JournalView D) (is : WentOver disk before now rides identity other) where
      pub over_held : Good (in_profile (profile_in rides) state) → IsHeld (disk now.device) now (in_profile (profile_in rides) state)
      over_held good = record {
        kept = is.kept;
        version = is.version;
        settled = is.settled;
        seq = is.seq ∙ held.seq;
        profile = ap profile_in is.rides_is;
        good = good;
        held = λ honest. subst (λ (r : Bool). Holds (profile_in rides) (version_of_frames r 2) state.seq now.bytes state.documents (marks_in (profile_in rides) state.marks)) (sym is.rides_is)
            (subst (λ (l : List ℕ). Holds (profile_in rides) (version_of_frames rides 2) state.seq l state.documents (marks_in (profile_in rides) state.marks)) (sym (is.bytes honest)) holds);
      }

      pub over_is : before.broken ≡ false → with_copy (account_of now (in_profile (profile_in rides) state)) None ≡ account_over rides identity account
      over_is works = λ i. record {
        state = in_profile (profile_in rides) state;
        used = is.used i;
        half = is.half i;
        rides = is.rides_is i;
        opens = is.opens i;
        identity = is.identity_is i;
        sectors = is.sectors i;
        broken = (is.works ∙ sym works) i;
        copy = None;
      }

-- there is a way if the snapshot's length in each format fits
pub way_is : (a : Account) (len in_slots used : ℕ) → len ≡ size_in false a → in_slots ≡ size_in true a → used ≡ used_between a
    → ((len ≤ capacity_of false a.sectors) × (in_slots ≤ capacity_of true a.sectors) × FitsBetween a.sectors used) ↔ HasWay a
way_is a len in_slots used len_is slots_are used_is = (
  (λ fits. record {
    fits = subst (λ (n : ℕ). n ≤ capacity_of false a.sectors) len_is fits.0;
    fits_slots = subst (λ (n : ℕ). n ≤ capacity_of true a.sectors) slots_are fits.1;
    between = subst (FitsBetween a.sectors) used_is fits.2;
  }),
  (λ way. (
    subst (λ (n : ℕ). n ≤ capacity_of false a.sectors) (sym len_is) way.fits,
    subst (λ (n : ℕ). n ≤ capacity_of true a.sectors) (sym slots_are) way.fits_slots,
    subst (FitsBetween a.sectors) (sym used_is) way.between,
  )),
)

-- the bytes in half 0 of format 3 on the way to it, and on the way back
pub used_up : (a : Account) → a.rides ≡ false → size_in true a ≡ used_between a
used_up a two = ap (λ (b : Bool). if b then (account_ready a).used else size_in true a) (sym two)

abbrev used_by : Account → Bool → Bool → ℕ
used_by a r b = if r then (ready_by b a).used else size_in true a

pub used_there : (a : Account) → a.rides ≡ true → a.half ≡ 0 → a.used ≡ used_between a
used_there a three here = sym (ap (λ (r : Bool). used_by a r (nat_eq a.half (half_from r))) three ∙ ap (used_by a true) (eq-eqb a.half 0 here))

pub used_else : (a : Account) → a.rides ≡ true → (a.half ≡ 0 → ⊥) → size_in true a ≡ used_between a
used_else a three other = sym (ap (λ (r : Bool). used_by a r (nat_eq a.half (half_from r))) three ∙ ap (used_by a true) (ne_eqb a.half 0 other) ∙ ap (λ (r : Bool). size_in r a) three)

-- a store in format 2 has no marks
pub none_in_two : (s : State) → Good s → profile_in false ≡ s.profile → s.marks ≡ []
none_in_two s good two = empty s.marks (subst (λ (p : Profile). length s.marks ≤ most_marks p) (sym two) good.marked.few)
  where
    empty : (ms : List Mark) → length ms ≤ 0 → ms ≡ []
    empty [] few = refl
    empty (m ∷ ms) few = absurd (omega (arith, few))

-- so its snapshot is as long in either format
pub sizes_alone : (a : Account) → a.state.marks ≡ [] → size_in true a ≡ size_in false a
sizes_alone a none = ap (λ (ms : List Mark). length (snapshot_bytes true a.state.documents ms)) none ∙ sizes_same true false a.state.documents ∙ sym (ap (λ (ms : List Mark). length (snapshot_bytes false a.state.documents ms)) none)

-- why there is none
pub no_way : (a : Account) (format : Format) → (format ≡ Two → AreWithin profile.Two a.state.documents) → (HasWay a → ⊥) → StaysAs format a (plain NO_ROOM)
no_way a format within none = inr (inl (refl, within, none))

-- a call that failed on a way that makes `most` calls, by why it ended
pub up_failed : {U H : Type 0} (disk new_disk : Disk) (refusal : Refusal) (calls most : ℕ) → calls ≡ most → (H → Failed disk new_disk calls)
    → (((refusal ≡ plain MEMORY) ⊎ (refusal ≡ plain SEQ_END)) × U) ⊎ ((refusal ≡ plain DEVICE) × H) → refusal.number ≡ DEVICE → Failed disk new_disk most
up_failed disk new_disk refusal calls most same failed (inl (inl memory, unwritten)) device = let is = ap (λ (r : Refusal). r.number) memory in absurd (omega (arith, is, device))
up_failed disk new_disk refusal calls most same failed (inl (inr ended, unwritten)) device = let is = ap (λ (r : Refusal). r.number) ended in absurd (omega (arith, is, device))
up_failed disk new_disk refusal calls most same failed (inr hit) device = subst (λ (n : ℕ). Failed disk new_disk n) same (failed hit.1)

-- a journal that an upgrade left as it was, or broke
pub unwritten_held : {D : Type 0} (disk : D → Disk) (before now : JournalView D) (state : State) → IsHeld (disk before.device) before state → ((disk now.device).honest → (disk before.device).honest) → IsKept (disk now.device) now
    → Unwritten (disk before.device) (disk now.device) before now → IsHeld (disk now.device) now state
unwritten_held disk before now state held back kept is = record {
  kept = kept;
  version = is.stays.version ∙ held.version;
  settled = is.stays.settled ∙ held.settled;
  seq = is.stays.seq ∙ held.seq;
  profile = ap profile_in is.stays.rides ∙ held.profile;
  good = held.good;
  held = λ honest. held_by before now state is.stays.rides before.bytes (is.stays.bytes honest) (held.held (back honest));
}

pub halted_held : {D : Type 0} (disk : D → Disk) (before now : JournalView D) (state : State) (calls : ℕ) → IsHeld (disk before.device) before state → ((disk now.device).honest → (disk before.device).honest) → IsKept (disk now.device) now
    → Halted (disk before.device) (disk now.device) calls before now → IsHeld (disk now.device) now state
halted_held disk before now state calls held back kept is = record {
  kept = kept;
  version = is.stays.version ∙ held.version;
  settled = is.stays.settled ∙ held.settled;
  seq = is.stays.seq ∙ held.seq;
  profile = ap profile_in is.stays.rides ∙ held.profile;
  good = held.good;
  held = λ honest. held_by before now state is.stays.rides before.bytes (is.stays.bytes honest) (held.held (back honest));
}

pub unwritten_is : {D : Type 0} (disk : D → Disk) (before now : JournalView D) (state : State) → before.broken ≡ false → Unwritten (disk before.device) (disk now.device) before now → account_of now state ≡ account_of before state
unwritten_is disk before now state works is = λ i. record { state = state; used = is.stays.used i; half = is.stays.half i; rides = is.stays.rides i; opens = is.stays.opens i; identity = is.stays.identity i; sectors = is.stays.sectors i; broken = (is.works ∙ sym works) i; copy = None }

pub halted_is : {D : Type 0} (disk : D → Disk) (before now : JournalView D) (state : State) (calls : ℕ) → Halted (disk before.device) (disk now.device) calls before now → account_of now state ≡ account_broken (account_of before state)
halted_is disk before now state calls is = λ i. record { state = state; used = is.stays.used i; half = is.stays.half i; rides = is.stays.rides i; opens = is.stays.opens i; identity = is.stays.identity i; sectors = is.stays.sectors i; broken = is.broken i; copy = None }

-- ---- the half from which a format gives way

pub ready_is : (a : Account) → a.half ≡ half_from a.rides → account_ready a ≡ record a { copy = None }
ready_is a is = ap (λ (b : Bool). ready_by b a) (eq-eqb a.half (half_from a.rides) is)

pub ready_snapped : (a : Account) → (a.half ≡ half_from a.rides → ⊥) → account_ready a ≡ account_with_snapshot a
ready_snapped a ne = ap (λ (b : Bool). ready_by b a) (ne_eqb a.half (half_from a.rides) ne)

pub calls_none : (a : Account) → a.half ≡ half_from a.rides → calls_to_ready a ≡ 0
calls_none a is = ap (λ (b : Bool). if b then 0 else calls_of_snapshot a) (eq-eqb a.half (half_from a.rides) is)

pub calls_snapped : (a : Account) → (a.half ≡ half_from a.rides → ⊥) → calls_to_ready a ≡ calls_of_snapshot a
calls_snapped a ne = ap (λ (b : Bool). if b then 0 else calls_of_snapshot a) (ne_eqb a.half (half_from a.rides) ne)

-- what holds in both cases
ready_in : (P : Account → Type 0) (a : Account) → P (record a { copy = None }) → P (account_with_snapshot a) → P (account_ready a)
ready_in P a here there = by (nat_eq a.half (half_from a.rides))
  where
    by : (b : Bool) → P (ready_by b a)
    by true = here
    by false = there

pub ready_state : (a : Account) → (account_ready a).state ≡ a.state
ready_state a = ready_in (λ b. b.state ≡ a.state) a refl refl

pub ready_rides : (a : Account) → (account_ready a).rides ≡ a.rides
ready_rides a = ready_in (λ b. b.rides ≡ a.rides) a refl refl

pub ready_sectors : (a : Account) → (account_ready a).sectors ≡ a.sectors
ready_sectors a = ready_in (λ b. b.sectors ≡ a.sectors) a refl refl

pub ready_broken : (a : Account) → (account_ready a).broken ≡ a.broken
ready_broken a = ready_in (λ b. b.broken ≡ a.broken) a refl refl

-- no copy runs
pub ready_alone : (a : Account) → record (account_ready a) { copy = None } ≡ account_ready a
ready_alone a = ready_in (λ b. record b { copy = None } ≡ b) a refl refl

pub ready_size : (rides : Bool) (a : Account) → size_in rides (account_ready a) ≡ size_in rides a
ready_size rides a = ap (λ (s : State). length (snapshot_bytes rides s.documents s.marks)) (ready_state a)

pub ready_half : (a : Account) → a.half ≤ 1 → (account_ready a).half ≡ half_from a.rides
ready_half a fits = ⊎_elim (λ is. ap (λ (b : Account). b.half) (ready_is a is) ∙ is) (λ ne. ap (λ (b : Account). b.half) (ready_snapped a ne) ∙ other a.rides ne) (cases_eq a.half (half_from a.rides))
  where
    other : (r : Bool) → a.half ≢ half_from r → 1 - a.half ≡ half_from r
    other true ne = let one : a.half ≡ 1 = omega (arith, fits, ne) in omega (arith, one)
    other false ne = let none : a.half ≡ 0 = omega (arith, fits, ne) in omega (arith, none)

-- ---- there, and then over

-- there or not
pub ready_moments : (old new : Disk) (a d : Account) → LeavesOnly (model a.rides old) (model a.rides new) (OneOf a (account_ready a)) → LeavesOnly (model a.rides old) (model a.rides new) (OneOfThree a d)
ready_moments old new a d leaves = leaves_weaker (model a.rides old) (model a.rides new) (OneOf a (account_ready a)) (OneOfThree a d) (λ image is. ⊎_elim (λ was. inl was) (λ now. inr (inl now)) is) leaves

module _ (old mid new : Disk) (a b : Account) (rides : Bool) (identity : ℕ) (ready : b ≡ account_ready a) where
  pub turned_moments : LeavesOnly (model a.rides old) (model a.rides mid) (OneOf a (account_ready a)) → LeavesOnly (model b.rides mid) (model b.rides new) (OneOf b (account_over rides identity b))
      → LeavesOnly (model a.rides old) (model a.rides new) (OneOfThree a (account_turned rides identity a))
  turned_moments first second =
      joined (model a.rides old) (model a.rides mid) (model a.rides new) (OneOfThree a (account_turned rides identity a)) (ready_moments old mid a (account_turned rides identity a) first)
      (leaves_weaker (model a.rides mid) (model a.rides new) (OneOf (account_ready a) (account_turned rides identity a)) (OneOfThree a (account_turned rides identity a)) (λ image is. inr is)
      (subst (λ (r : Bool). LeavesOnly (model r mid) (model r new) (OneOf (account_ready a) (account_turned rides identity a))) (ready_rides a)
      (subst (λ (x : Account). LeavesOnly (model x.rides mid) (model x.rides new) (OneOf x (account_over rides identity x))) ready second)))

  pub turned_failed : (calls : ℕ → ℕ) → Made old mid (calls_to_ready a) → Failed mid new (calls (size_in rides b)) → Failed old new (calls_to_ready a + calls (size_in rides a))
  turned_failed calls made failed = failed_joined old mid new (calls_to_ready a) (calls (size_in rides a)) (calls_to_ready a + calls (size_in rides a)) (omega arith) made
      (subst (λ (n : ℕ). Failed mid new (calls n)) (ap (size_in rides) ready ∙ ready_size rides a) failed)

pub no_moments : (disk : Disk) (a d : Account) → LeavesOnly (model a.rides disk) (model a.rides disk) (IsImageOf a) → LeavesOnly (model a.rides disk) (model a.rides disk) (OneOfThree a d)
no_moments disk a d leaves = leaves_weaker (model a.rides disk) (model a.rides disk) (IsImageOf a) (OneOfThree a d) (λ image is. inl is) leaves

-- ---- the answer, by the format that the store has

three_of : (a : Account) → a.rides ≡ true → format_of a ≡ Three
three_of a is = ap (λ (b : Bool). if b then Three else Two) is

two_of : (a : Account) → a.rides ≡ false → format_of a ≡ Two
two_of a is = ap (λ (b : Bool). if b then Three else Two) is

differ : Three ≡ Two → ⊥
differ e = let numbers : 3 ≡ 2 = ap number_of e in omega (arith, numbers)

pub in_two : (identity : ℕ) (a : Account) → a.rides ≡ true → account_in Two identity a ≡ account_turned false 0 a
in_two identity a is = ap (λ (f : Format). account_between f Two identity a) (three_of a is)

pub in_three : (identity : ℕ) (a : Account) → a.rides ≡ false → account_in Three identity a ≡ account_turned true identity a
in_three identity a is = ap (λ (f : Format). account_between f Three identity a) (two_of a is)

pub calls_two : (a : Account) → a.rides ≡ true → calls_to Two a ≡ calls_to_ready a + downgrade_calls (size_in false a)
calls_two a is = ap (λ (f : Format). calls_between f Two a) (three_of a is)

pub calls_three : (a : Account) → a.rides ≡ false → calls_to Three a ≡ calls_to_ready a + upgrade_calls (size_in true a)
calls_three a is = ap (λ (f : Format). calls_between f Three a) (two_of a is)

-- it has the format already
pub in_same : (format : Format) (identity : ℕ) (a : Account) → a.rides ≡ rides_in format → account_in format identity a ≡ a
in_same Two identity a is = ap (λ (f : Format). account_between f Two identity a) (two_of a is)
in_same Three identity a is = ap (λ (f : Format). account_between f Three identity a) (three_of a is)

pub calls_same : (format : Format) (a : Account) → a.rides ≡ rides_in format → calls_to format a ≡ 0
calls_same Two a is = ap (λ (f : Format). calls_between f Two a) (two_of a is)
calls_same Three a is = ap (λ (f : Format). calls_between f Three a) (three_of a is)

-- the answer of a store in format 2, and in format 3
abbrev pub WasHit : Account → Account → Refusal → Type 0
WasHit old new x = (x ≡ plain DEVICE) × ((new ≡ account_broken old) ⊎ (new ≡ account_broken (account_ready old)))

pub raised_answers : (identity : ℕ) (old new : Account) (r : Result (Unit {0}) Refusal) → old.broken ≡ false → old.rides ≡ false → OnOk r (new ≡ account_turned true identity old)
    → IfErr r (λ x. WasHit old new x ⊎ (StaysAs Three old x × (new ≡ old)) ⊎ (((x ≡ plain MEMORY) ⊎ (x ≡ plain SEQ_END)) × (new ≡ account_ready old))) → FormatAnswers old Three identity r new
raised_answers identity old new (Ok u) works rides ok err = (works, ok ∙ sym (in_three identity old rides))
raised_answers identity old new (Err x) works rides ok (inl hit) = inl (hit.0, works, (λ same. differ (sym same ∙ two_of old rides)), hit.1)
raised_answers identity old new (Err x) works rides ok (inr (inl stays)) = inr (inr (inl (stays.0, works, (λ same. differ (sym same ∙ two_of old rides)), stays.1)))
raised_answers identity old new (Err x) works rides ok (inr (inr way)) = inr (inr (inr (way.0, works, two_of old rides, refl, way.1)))

pub lowered_answers : (identity : ℕ) (old new : Account) (r : Result (Unit {0}) Refusal) → old.broken ≡ false → old.rides ≡ true → OnOk r (new ≡ account_turned false 0 old)
    → IfErr r (λ x. WasHit old new x ⊎ (StaysAs Two old x × (new ≡ old))) → FormatAnswers old Two identity r new
lowered_answers identity old new (Ok u) works rides ok err = (works, ok ∙ sym (in_two identity old rides))
lowered_answers identity old new (Err x) works rides ok (inl hit) = inl (hit.0, works, (λ same. differ (sym (three_of old rides) ∙ same)), hit.1)
lowered_answers identity old new (Err x) works rides ok (inr stays) = inr (inr (inl (stays.0, works, (λ same. differ (sym (three_of old rides) ∙ same)), stays.1)))
