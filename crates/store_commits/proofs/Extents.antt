-- In how many bytes of which half the images of a store stand for its state.
use Rattle.std.proofs.Common.{Bool, ap, ◌≡◌, ◌⊎◌, inl, inr, ⊎_elim, ℕ, ◌-◌, List, [], ◌++◌, length, refl, sym, ◌∙◌, subst, false, Option, None, ◌↔◌}
use Rattle.sector_device.specs.Disk.{Disk, Image, IsCoherent, LeavesOnly}
use Rattle.sector_device.proofs.Moments.{left_now}
use Rattle.store_journal.specs.Carries.{Carried, Carries, EitherCarried, switched}
use Rattle.store_journal.specs.JournalView.{JournalView, IsKept, carried_of}
use Rattle.store_journal.specs.Models.{model}
use Rattle.doc_changes.specs.State.{State}
use Rattle.store_commits.specs.Account.{Account, Copy, account_broken, with_copy, EndsWith, Extent, IsEndingWith, IsStandingAs, StandsAs, extent_of}
use Rattle.store_commits.specs.Inside.{IsHeld, account_of}
use Rattle.store_commits.specs.Images.{Holds, profile_in, version_of_frames}
use Rattle.store_commits.proofs.Modelled.{AreCoherent, model_sectors}

-- ---- an image by itself

-- it has the journal's sectors
pub count : {D : Type 0} (rides : Bool) (disk : Disk) (journal : JournalView D) → (disk.honest → IsCoherent (model rides disk)) → IsKept disk journal → disk.honest → (image : Image) → (model rides disk).left image → journal.sectors ≡ length image
count rides disk journal coherent kept honest image left = sym kept.size ∙ sym (model_sectors rides disk) ∙ sym ((coherent honest).shape image left).count

-- bytes of format 2 or 3 that hold the state, as many and in that half
pub stands_as : (l : Extent) (c : Carried) → c.version ≡ 2 → c.rides ≡ l.rides → c.half ≡ l.half → c.seq ≡ l.state.seq → c.identity ≡ l.identity → profile_in l.rides ≡ l.state.profile → Holds l.state.profile (version_of_frames l.rides 2) l.state.seq c.bytes l.state.documents l.state.marks → l.used ≡ length c.bytes
    → (image : Image) → l.sectors ≡ length image → Carries c image → StandsAs l image
stands_as l c version rides half seq identity profile holds used image sectors carries = record {
  bytes = c.bytes;
  opens = c.opens;
  carries = subst (λ (d : Carried). Carries d image) (λ i. record { version = version i; rides = rides i; half = half i; bytes = c.bytes; seq = seq i; opens = c.opens; identity = identity i }) carries;
  profile_is = profile;
  holds = holds;
  used_is = used;
  sectors_is = sectors;
}

-- it carries the bytes of a journal
pub as_it_was : {D : Type 0} (disk : Disk) (journal : JournalView D) (state : State) → IsHeld disk journal state → (image : Image) → journal.sectors ≡ length image → disk.honest → Carries (carried_of journal) image
    → StandsAs (extent_of (account_of journal state)) image
as_it_was disk journal state held image count_is honest carries =
    stands_as (extent_of (account_of journal state)) (carried_of journal) held.version refl refl held.seq refl held.profile (held.held honest) refl image count_is carries

-- each image of a store that works is as its account
pub standing_as : {D : Type 0} (disk : Disk) (journal : JournalView D) (state : State) (k : Option Copy) → (disk.honest → IsCoherent (model journal.rides disk)) → IsHeld disk journal state → IsStandingAs disk (with_copy (account_of journal state) k)
standing_as disk journal state k coherent held honest works image left =
    as_it_was disk journal state held image (count journal.rides disk journal coherent held.kept honest image left) honest (held.kept.carried honest works image left)

-- and it ends as the journal's bytes do
pub ending_as : {D : Type 0} (disk : Disk) (journal : JournalView D) (state : State) → (disk.honest → IsCoherent (model journal.rides disk)) → IsHeld disk journal state → journal.broken ≡ false → (front ending : List ℕ)
    → (disk.honest → journal.bytes ≡ front ++ ending) → (a : Account) → extent_of (account_of journal state) ≡ extent_of a → IsEndingWith ending disk a
unfolding standing_as as_it_was stands_as
ending_as disk journal state coherent held works front ending ends a is honest image left =
    let here = subst (λ (rides : Bool). (model rides disk).left image) (sym (ap (λ (l : Extent). l.rides) is)) left in
    subst (λ (l : Extent). EndsWith ending l image) is (record { stands = standing_as disk journal state None coherent held honest works image here; front = front; ends = ends honest })

-- an account that the device broke leaves what it left
pub broken_as : (a b : Account) (image : Image) → b ≡ account_broken a → StandsAs (extent_of a) image → StandsAs (extent_of b) image
broken_as a b image is stands = subst (λ (x : Account). StandsAs (extent_of x) image) (sym is) stands

-- ---- what a commit leaves that a fault hit

module _ {D : Type 0} (disk : D → Disk) (coherent : AreCoherent disk) (before now : JournalView D) (state : State) (held : IsHeld (disk before.device) before state)
    (same : (disk before.device).honest ↔ (disk now.device).honest) (kept : IsKept (disk now.device) now) (sectors : now.sectors ≡ before.sectors) where
  -- each image has the journal's sectors
  pub counted : (disk now.device).honest → (image : Image) → (model before.rides (disk now.device)).left image → before.sectors ≡ length image
  counted honest image left = sym sectors ∙ count before.rides (disk now.device) now (coherent before.rides now.device) kept honest image left

  -- the bytes as they were, or other bytes that hold a state
  pub either_as : (c : Carried) (l : Extent) → ((disk before.device).honest → Holds l.state.profile (version_of_frames l.rides 2) l.state.seq c.bytes l.state.documents l.state.marks) → c.version ≡ before.version → c.rides ≡ l.rides → c.half ≡ l.half → c.seq ≡ l.state.seq → c.identity ≡ before.identity → l.identity ≡ before.identity → profile_in l.rides ≡ l.state.profile
      → l.used ≡ length c.bytes → l.sectors ≡ before.sectors → (front ending : List ℕ) → c.bytes ≡ front ++ ending → ((disk before.device).honest → LeavesOnly (model before.rides (disk before.device)) (model before.rides (disk now.device)) (EitherCarried (carried_of before) c))
      → (disk now.device).honest → (image : Image) → (model before.rides (disk now.device)).left image → StandsAs (extent_of (account_of before state)) image ⊎ EndsWith ending l image
  unfolding stands_as
  either_as c l holds version rides half seq identity as_it_is profile used size front ending ends leaves honest image left =
      let h = same.1 honest in
      let count_is = counted honest image left in
      ⊎_elim (λ old. inl (as_it_was (disk before.device) before state held image count_is h old))
      (λ new. inr (record { stands = stands_as l c (version ∙ held.version) rides half seq (identity ∙ sym as_it_is) profile (holds h) used image (size ∙ count_is) new; front = front; ends = ends }))
      (left_now (model before.rides (disk before.device)) (model before.rides (disk now.device)) (EitherCarried (carried_of before) c) (coherent before.rides now.device honest) (leaves h) image left)

  -- a target in the other half
  pub switched_as : (target : List ℕ) → Holds state.profile (version_of_frames before.rides 2) state.seq target state.documents state.marks
      → ((disk before.device).honest → LeavesOnly (model before.rides (disk before.device)) (model before.rides (disk now.device)) (EitherCarried (carried_of before) (switched (carried_of before) target)))
      → (disk now.device).honest → (image : Image) → (model before.rides (disk now.device)).left image
      → StandsAs (extent_of (account_of before state)) image ⊎ EndsWith target (record { state = state; used = length target; half = 1 - before.half; rides = before.rides; identity = before.identity; sectors = before.sectors }) image
  switched_as target holds = either_as (switched (carried_of before) target) (record { state = state; used = length target; half = 1 - before.half; rides = before.rides; identity = before.identity; sectors = before.sectors }) (λ _. holds) refl refl refl held.seq refl refl held.profile refl refl [] target refl
