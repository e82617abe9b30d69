-- A device that keeps to its history is as every honest device is.
use Rattle.std.specs.Prelude.{◌≡◌, ◌≢◌, ◌⊎◌, ℕ, ◌+◌, ◌/◌, ◌≤◌, ◌<◌, List, [], length, slice_index_or, slice_set, replicate, refl, Bool, Option, None, Some}
use Rattle.std.proofs.Common.{inl, inr, ap, subst, sym, ◌∙◌, length-set}
use Rattle.std.proofs.Math.Nat.{le_trans, le-add_right, not-suc-le_self}
use Rattle.std.proofs.Math.Numerals.{add-one}
use Rattle.std.proofs.lemmas.Bool.{cases_eq, cases_lt}
use Rattle.std.proofs.lemmas.List.{get_or-set_same, get_or-set_other, get_or_past, set_past, length-replicate, get_or-replicate}
use Rattle.sector_device.specs.Disk.{Image, OrReplaced, OrTorn, IsTornFrom, IsDamage, HasShape, IsCoherent, IsTearing}
use Rattle.sector_device.specs.declared.history.History.{History, Opened, Created, Read', Written', WriteFailed', Synced'}
use Rattle.sector_device.specs.History.{zeros_of, moment_of, seen_after, OrWritten, left_by, since_by, left_after, KeepsTo, disk_after}

-- a sector that is replaced by one of 512 bytes leaves the shape
pub HasShape-set : (n : ℕ) (image : Image) (at : ℕ) (content : List ℕ) → length content ≡ 512 → HasShape n image → HasShape n (slice_set image at content)
HasShape-set n image at content whole shape = record {
  count = length-set image at content ∙ shape.count;
  whole = λ k lt. one k lt (cases_eq k at);
}
  where
    one : (k : ℕ) → k < n → (k ≡ at) ⊎ (k ≢ at) → length (slice_index_or (slice_set image at content) k []) ≡ 512
    one k lt (inl is) = ap (λ (j : ℕ). length (slice_index_or (slice_set image at content) j [])) is
        ∙ ap length (get_or-set_same image at content [] (subst (λ (m : ℕ). at < m) (sym shape.count) (subst (λ (j : ℕ). j < n) is lt))) ∙ whole
    one k lt (inr other) = ap length (get_or-set_other image at k content [] other) ∙ shape.whole k lt

pub HasShape-replaced : (n : ℕ) (left : Image → Type 0) (at : ℕ) (content : List ℕ) → length content ≡ 512 → ((image : Image) → left image → HasShape n image) → (image : Image) → OrReplaced left at content image → HasShape n image
HasShape-replaced n left at content whole each image (inl old) = each image old
HasShape-replaced n left at content whole each image (inr new) = subst (HasShape n) (sym new.2) (HasShape-set n new.0 at content whole (each new.0 new.1))

-- so does one that may be torn
HasShape-torn : (torn : List ℕ → Bool) (n at : ℕ) (content : List ℕ) (before image : Image) → length content ≡ 512 → HasShape n before → IsTornFrom torn at content before image → HasShape n image
HasShape-torn torn n at content before image whole shape from = record { count = from.size ∙ shape.count; whole = λ k lt. one k lt (from.each k) }
  where
    one : (k : ℕ) → k < n → (slice_index_or image k [] ≡ slice_index_or before k []) ⊎ ((k ≡ at) × (slice_index_or image k [] ≡ content)) ⊎ ((k / 8 ≡ at / 8) × IsDamage torn (slice_index_or image k [])) → length (slice_index_or image k []) ≡ 512
    one k lt (inl same) = ap length same ∙ shape.whole k lt
    one k lt (inr (inl here)) = ap length here.1 ∙ whole
    one k lt (inr (inr damaged)) = damaged.1.0

pub HasShape-written : (torn : Option (List ℕ → Bool)) (n : ℕ) (left : Image → Type 0) (at : ℕ) (content : List ℕ) → length content ≡ 512 → ((image : Image) → left image → HasShape n image) → (image : Image) → OrWritten torn left at content image → HasShape n image
HasShape-written None n left at content whole each image written = HasShape-replaced n left at content whole each image written
HasShape-written (Some torn) n left at content whole each image written = HasShape-torn torn n at content written.0 image whole (each written.0 written.1) written.2

-- a write that tears no sector, whether it reached the disk or not
pub not_torn : (torn : List ℕ → Bool) (at : ℕ) (content : List ℕ) (image : Image) → IsTornFrom torn at content image image
not_torn torn at content image = record { size = refl; each = λ k. inl refl }

pub not_torn-set : (torn : List ℕ → Bool) (at : ℕ) (content : List ℕ) (before : Image) → IsTornFrom torn at content before (slice_set before at content)
not_torn-set torn at content before = record { size = length-set before at content; each = λ k. one k (cases_eq k at) (cases_lt k (length before)) }
  where
    one : (k : ℕ) → (k ≡ at) ⊎ (k ≢ at) → (k < length before) ⊎ (length before ≤ k)
        → (slice_index_or (slice_set before at content) k [] ≡ slice_index_or before k []) ⊎ ((k ≡ at) × (slice_index_or (slice_set before at content) k [] ≡ content)) ⊎ ((k / 8 ≡ at / 8) × IsDamage torn (slice_index_or (slice_set before at content) k []))
    one k (inr other) inside = inl (get_or-set_other before at k content [] other)
    one k (inl is) (inl lt) = inr (inl (is, subst (λ (j : ℕ). slice_index_or (slice_set before j content) k [] ≡ content) is (get_or-set_same before k content [] lt)))
    one k (inl is) (inr past) = inl (ap (λ (i : Image). slice_index_or i k []) (set_past before at content (subst (λ (j : ℕ). length before ≤ j) is past)))

pub written_now : (torn : Option (List ℕ → Bool)) (left : Image → Type 0) (at : ℕ) (content : List ℕ) (image : Image) → left image → OrWritten torn left at content (slice_set image at content)
written_now None left at content image is = inr (image, is, refl)
written_now (Some torn) left at content image is = (image, is, not_torn-set torn at content image)

pub written_not : (torn : Option (List ℕ → Bool)) (left : Image → Type 0) (at : ℕ) (content : List ℕ) (image : Image) → left image → OrWritten torn left at content image
written_not None left at content image is = inl is
written_not (Some torn) left at content image is = (image, is, not_torn torn at content image)

torn_written : (torn : List ℕ → Bool) (left more : Image → Type 0) (at : ℕ) (content : List ℕ) → ((image : Image) → left image → more image) → (image : Image) → OrReplaced left at content image → OrTorn torn more at content image
torn_written torn left more at content adds image (inl old) = (image, adds image old, not_torn torn at content image)
torn_written torn left more at content adds image (inr new) = (new.0, adds new.0 new.1, subst (IsTornFrom torn at content new.0) (sym new.2) (not_torn-set torn at content new.0))

HasShape-zeros : (created n : ℕ) → created ≡ n → HasShape n (zeros_of created)
HasShape-zeros created n is = record {
  count = length-replicate created (replicate {A = ℕ} 512 0) ∙ is;
  whole = λ k lt. ap length (get_or-replicate created k (replicate {A = ℕ} 512 0) [] (subst (λ (m : ℕ). k < m) (sym is) lt)) ∙ length-replicate {A = ℕ} 512 0;
}

module _ (torn : Option (List ℕ → Bool)) where
  -- as it reads, a device is one of its images
  pub seen_by : (history : History) → left_by torn history (seen_after history)
  seen_by (Opened held) = inl refl
  seen_by (Created sectors) = refl
  seen_by (Read' p earlier at content) = seen_by earlier
  seen_by (Written' p earlier at content) = written_now torn (left_by torn earlier) at content.value (seen_after earlier) (seen_by earlier)
  seen_by (WriteFailed' p earlier at content) = written_not torn (left_by torn earlier) at content.value (seen_after earlier) (seen_by earlier)
  seen_by (Synced' p earlier) = refl

  pub shape_by : (n : ℕ) (history : History) → KeepsTo n history → (image : Image) → left_by torn history image → HasShape n image
  shape_by n (Opened held) keeps = keeps
  shape_by n (Created sectors) keeps = λ image is. subst (HasShape n) (sym is) (HasShape-zeros sectors n keeps)
  shape_by n (Read' p earlier at content) keeps = shape_by n earlier keeps.0
  shape_by n (Written' p earlier at content) keeps = HasShape-written torn n (left_by torn earlier) at content.value keeps.1 (shape_by n earlier keeps.0)
  shape_by n (WriteFailed' p earlier at content) keeps = HasShape-written torn n (left_by torn earlier) at content.value keeps.1 (shape_by n earlier keeps.0)
  shape_by n (Synced' p earlier) keeps = λ image is. subst (HasShape n) (sym is) (shape_by n earlier keeps (seen_after earlier) (seen_by earlier))

  -- this moment is one of those since an earlier one
  pub now_by : (history : History) (m : ℕ) (image : Image) → m ≤ moment_of history → left_by torn history image → since_by torn history m image
  now_by (Opened held) m image le left = (le, left)
  now_by (Created sectors) m image le left = (le, left)
  now_by (Read' p earlier at content) m image le left = inr (le, left)
  now_by (Written' p earlier at content) m image le left = inr (le, left)
  now_by (WriteFailed' p earlier at content) m image le left = inr (le, left)
  now_by (Synced' p earlier) m image le left = inr (le, left)

  -- there is no later moment
  one_more : (m n : ℕ) → m ≤ n → m ≤ n + 1
  one_more m n le = le_trans le (le-add_right n 1)

  within : (history : History) (m : ℕ) (image : Image) → since_by torn history m image → m ≤ moment_of history
  within (Opened held) m image since = since.0
  within (Created sectors) m image since = since.0
  within (Read' p earlier at content) m image (inl since) = one_more m (moment_of earlier) (within earlier m image since)
  within (Read' p earlier at content) m image (inr now) = now.0
  within (Written' p earlier at content) m image (inl since) = one_more m (moment_of earlier) (within earlier m image since)
  within (Written' p earlier at content) m image (inr now) = now.0
  within (WriteFailed' p earlier at content) m image (inl since) = one_more m (moment_of earlier) (within earlier m image since)
  within (WriteFailed' p earlier at content) m image (inr now) = now.0
  within (Synced' p earlier) m image (inl since) = one_more m (moment_of earlier) (within earlier m image since)
  within (Synced' p earlier) m image (inr now) = now.0

  no_later : (earlier : History) (image : Image) → since_by torn earlier (moment_of earlier + 1) image → ⊥
  no_later earlier image since = not-suc-le_self (moment_of earlier) (subst (λ (m : ℕ). m ≤ moment_of earlier) (add-one (moment_of earlier)) (within earlier (moment_of earlier + 1) image since))

  pub only_by : (history : History) (image : Image) → since_by torn history (moment_of history) image → left_by torn history image
  only_by (Opened held) image since = since.1
  only_by (Created sectors) image since = since.1
  only_by (Read' p earlier at content) image (inl since) = absurd (no_later earlier image since)
  only_by (Read' p earlier at content) image (inr now) = now.1
  only_by (Written' p earlier at content) image (inl since) = absurd (no_later earlier image since)
  only_by (Written' p earlier at content) image (inr now) = now.1
  only_by (WriteFailed' p earlier at content) image (inl since) = absurd (no_later earlier image since)
  only_by (WriteFailed' p earlier at content) image (inr now) = now.1
  only_by (Synced' p earlier) image (inl since) = absurd (no_later earlier image since)
  only_by (Synced' p earlier) image (inr now) = now.1

pub seen_left : (history : History) → left_after history (seen_after history)
seen_left history = seen_by None history

pub left_now : (history : History) (m : ℕ) (image : Image) → m ≤ moment_of history → left_after history image → since_by None history m image
left_now history m image le left = now_by None history m image le left

pub only_now : (history : History) (image : Image) → since_by None history (moment_of history) image → left_after history image
only_now history image since = only_by None history image since

pub coherent_after : (sectors : ℕ) (history : History) (failures : ℕ) → KeepsTo sectors history → IsCoherent (disk_after sectors history failures)
coherent_after sectors history failures keeps = record { seen = seen_left history; shape = shape_by None sectors history keeps; now = left_now history; only_now = only_now history }

-- tearing adds images, and takes none away
pub torn_more : (torn : List ℕ → Bool) (history : History) (image : Image) → left_after history image → left_by (Some torn) history image
torn_more torn (Opened held) image left = left
torn_more torn (Created sectors) image left = left
torn_more torn (Read' p earlier at content) image left = torn_more torn earlier image left
torn_more torn (Written' p earlier at content) image left = torn_written torn (left_after earlier) (left_by (Some torn) earlier) at content.value (torn_more torn earlier) image left
torn_more torn (WriteFailed' p earlier at content) image left = torn_written torn (left_after earlier) (left_by (Some torn) earlier) at content.value (torn_more torn earlier) image left
torn_more torn (Synced' p earlier) image left = left

pub torn_more_since : (torn : List ℕ → Bool) (history : History) (m : ℕ) (image : Image) → since_by None history m image → since_by (Some torn) history m image
torn_more_since torn (Opened held) m image since = since
torn_more_since torn (Created sectors) m image since = since
torn_more_since torn (Read' p earlier at content) m image (inl since) = inl (torn_more_since torn earlier m image since)
torn_more_since torn (Read' p earlier at content) m image (inr now) = inr (now.0, torn_more torn earlier image now.1)
torn_more_since torn (Written' p earlier at content) m image (inl since) = inl (torn_more_since torn earlier m image since)
torn_more_since torn (Written' p earlier at content) m image (inr now) = inr (now.0, torn_written torn (left_after earlier) (left_by (Some torn) earlier) at content.value (torn_more torn earlier) image now.1)
torn_more_since torn (WriteFailed' p earlier at content) m image (inl since) = inl (torn_more_since torn earlier m image since)
torn_more_since torn (WriteFailed' p earlier at content) m image (inr now) = inr (now.0, torn_written torn (left_after earlier) (left_by (Some torn) earlier) at content.value (torn_more torn earlier) image now.1)
torn_more_since torn (Synced' p earlier) m image (inl since) = inl (torn_more_since torn earlier m image since)
torn_more_since torn (Synced' p earlier) m image (inr now) = inr now

pub tearing_after : (sectors : ℕ) (history : History) (failures : ℕ) → KeepsTo sectors history → (torn : List ℕ → Bool) → IsTearing torn (disk_after sectors history failures)
tearing_after sectors history failures keeps torn = record {
  coherent = record { seen = seen_by (Some torn) history; shape = shape_by (Some torn) sectors history keeps; now = now_by (Some torn) history; only_now = only_by (Some torn) history };
  adds = torn_more torn history;
  adds_since = torn_more_since torn history;
}
