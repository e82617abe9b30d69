-- The writes of a copy, one sector after another.
use Rattle.std.proofs.Common.{◌≡◌, ◌≢◌, ◌⊎◌, inl, inr, ℕ, ◌+◌, ◌/◌, ◌≤◌, ◌<◌, List, [], length, set, get_or, refl, ap, subst, sym, ◌∙◌, arith, Result, IsErr, OnOk, below_more, Bool, Option, None, Some}
use Rattle.std.proofs.lemmas.Bool.{cases_eq, cases_lt}
use Rattle.std.proofs.lemmas.Result.{MatchResult-from_err}
use Rattle.std.proofs.lemmas.List.{get_or-set_same, get_or-set_other, length-set, set_past}
use Rattle.sector_device.specs.Disk.{Image, Disk, OrReplaced, IsTornFrom, LeavesOnly, IsCoherent, IsTearing, Elapses, Tears, Writes}
use Rattle.sector_device.proofs.Moments.{goes_on, left_now, started}
use Rattle.commit_slots.specs.Slots.{count_of, slot_sector, slot_start}
use Rattle.commit_slots.specs.declared.slot.Slot.{Slot}
use Rattle.slot_commits.specs.Tears.{IsTornBy, tearing_by}
use Rattle.slot_commits.specs.Pairs.{IsOfCopy, SlotOver, SlotSome}

-- what a write adds, if no sector tears, or if some do
pub record IsWrittenFrom (torn : Option (List ℕ → Bool)) (at : ℕ) (content : List ℕ) (before image : Image) : Type 0 where
  pub size : length image ≡ length before
  pub each : (k : ℕ) → (get_or image k [] ≡ get_or before k []) ⊎ ((k ≡ at) × (get_or image k [] ≡ content)) ⊎ ((k / 32 ≡ at / 32) × IsTornBy torn (get_or image k []))

abbrev pub WrittenSome : Option (List ℕ → Bool) → (Image → Type 0) → ℕ → List ℕ → Image → Type 0
WrittenSome torn old at content image = (before : Image) × old before × IsWrittenFrom torn at content before image

-- an honest device is coherent, whether its sectors tear or not
pub coherent_by : (torn : Option (List ℕ → Bool)) (disk : Disk) → IsCoherent disk → ((t : List ℕ → Bool) → IsTearing t disk) → IsCoherent (tearing_by torn disk)
coherent_by None disk plain tears = plain
coherent_by (Some t) disk plain tears = (tears t).coherent

not_written : (torn : Option (List ℕ → Bool)) (at : ℕ) (content : List ℕ) (image : Image) → IsWrittenFrom torn at content image image
not_written torn at content image = record { size = refl; each = λ k. inl refl }

pub is_written : (torn : Option (List ℕ → Bool)) (at : ℕ) (content : List ℕ) (before : Image) → IsWrittenFrom torn at content before (set before at content)
is_written torn at content before = record { size = length-set before at content; each = λ k. one k (cases_eq k at) (cases_lt k (length before)) }
  where
    one : (k : ℕ) → (k ≡ at) ⊎ (k ≢ at) → (k < length before) ⊎ (length before ≤ k)
        → (get_or (set before at content) k [] ≡ get_or before k []) ⊎ ((k ≡ at) × (get_or (set before at content) k [] ≡ content)) ⊎ ((k / 32 ≡ at / 32) × IsTornBy torn (get_or (set before at content) k []))
    one k (inr other) inside = inl (get_or-set_other before at k content [] other)
    one k (inl is) (inl lt) = inr (inl (is, subst (λ (j : ℕ). get_or (set before j content) k [] ≡ content) is (get_or-set_same before k content [] lt)))
    one k (inl is) (inr past) = inl (ap (λ (i : Image). get_or i k []) (set_past before at content (subst (λ (j : ℕ). length before ≤ j) is past)))

pub written_at : {T E : Type 0} {result : Result T E} (torn : Option (List ℕ → Bool)) (old new : Disk) (at : ℕ) (content : List ℕ) → Writes old new at content result → ((t : List ℕ → Bool) → Tears t old new at content)
    → Elapses (tearing_by torn old) (tearing_by torn new) × ((image : Image) → (tearing_by torn new).left image → WrittenSome torn (tearing_by torn old).left at content image)
written_at None old new at content writes tears = (writes.time, λ image left. one image (writes.adds image left))
  where
    one : (image : Image) → OrReplaced old.left at content image → WrittenSome None old.left at content image
    one image (inl same) = (image, same, not_written None at content image)
    one image (inr new) = (new.0, new.1, subst (IsWrittenFrom None at content new.0) (sym new.2) (is_written None at content new.0))
written_at (Some t) old new at content writes tears = ((tears t).time, λ image left. let from = (tears t).adds image left in (from.0, from.1, wider from.0 image from.2))
  where
    wider : (before image : Image) → IsTornFrom t at content before image → IsWrittenFrom (Some t) at content before image
    wider before image from = record {
      size = from.size;
      each = λ k. elim (from.each k) [
        | inl same ↦ inl same
        | inr (inl here) ↦ inr (inl here)
        | inr (inr damage) ↦ inr (inr (omega (arith, damage.0), damage.1))
      ];
    }

-- so it is at that sector of the copy
pub written_by : {T E : Type 0} {result : Result T E} (torn : Option (List ℕ → Bool)) (old new : Disk) (first k number copy : ℕ) (content : List ℕ) → first + k ≡ slot_start number copy + k
    → Writes old new (first + k) content result → ((t : List ℕ → Bool) → Tears t old new (first + k) content)
    → Elapses (tearing_by torn old) (tearing_by torn new) × ((image : Image) → (tearing_by torn new).left image → WrittenSome torn (tearing_by torn old).left (slot_start number copy + k) content image)
written_by torn old new first k number copy content at writes tears =
    subst (λ (n : ℕ). Elapses (tearing_by torn old) (tearing_by torn new) × ((image : Image) → (tearing_by torn new).left image → WrittenSome torn (tearing_by torn old).left n content image)) at
    (written_at torn old new (first + k) content writes tears)

pub no_ok : {T E : Type 0} (P : Type 0) (result : Result T E) → IsErr result → OnOk result P
no_ok P result err = MatchResult-from_err result (λ value. P) (λ fault. Unit {0}) err (λ fault. tt)

-- so many sectors of the copy
module _ (torn : Option (List ℕ → Bool)) (slot : Slot) (tail : List ℕ) (copy : ℕ) where
  pub slot_same : (image : Image) → SlotOver torn slot tail copy image image
  slot_same image = record { size = refl; each = λ k. inl refl }

  abbrev Each : Image → ℕ → List ℕ → Type 0
  Each before n s = (s ≡ get_or before n []) ⊎ IsOfCopy slot tail copy n s ⊎ ((n / 32 ≡ slot_start slot.number copy / 32) × IsTornBy torn s)

  pub slot_more : (before mid image : Image) (j : ℕ) (content : List ℕ) → j < count_of (length tail) → j < 32 → content ≡ slot_sector slot tail j → SlotOver torn slot tail copy before mid
      → IsWrittenFrom torn (slot_start slot.number copy + j) content mid image → SlotOver torn slot tail copy before image
  slot_more before mid image j content lt few is over from = record { size = from.size ∙ over.size; each = λ n. one n (from.each n) }
    where
      one : (n : ℕ) → (get_or image n [] ≡ get_or mid n []) ⊎ ((n ≡ slot_start slot.number copy + j) × (get_or image n [] ≡ content)) ⊎ ((n / 32 ≡ (slot_start slot.number copy + j) / 32) × IsTornBy torn (get_or image n [])) → Each before n (get_or image n [])
      one n (inl same) = subst (Each before n) (sym same) (over.each n)
      one n (inr (inl here)) = inr (inl (j, lt, here.0, here.1 ∙ is))
      one n (inr (inr damage)) = inr (inr (omega (arith, damage.0, few), damage.1))

  pub step_leaves : (old mid new : Disk) (j : ℕ) (content : List ℕ) → j < count_of (length tail) → j < 32 → content ≡ slot_sector slot tail j → IsCoherent (tearing_by torn mid)
      → LeavesOnly (tearing_by torn old) (tearing_by torn mid) (SlotSome torn slot tail copy (tearing_by torn old).left)
      → Elapses (tearing_by torn mid) (tearing_by torn new) × ((image : Image) → (tearing_by torn new).left image → WrittenSome torn (tearing_by torn mid).left (slot_start slot.number copy + j) content image)
      → LeavesOnly (tearing_by torn old) (tearing_by torn new) (SlotSome torn slot tail copy (tearing_by torn old).left)
  step_leaves old mid new j content lt few is coherent so_far written =
      let P = SlotSome torn slot tail copy (tearing_by torn old).left in
      goes_on (tearing_by torn old) (tearing_by torn mid) (tearing_by torn new) P so_far written.0
      (λ image left.
      let from = written.1 image left in
      let earlier = left_now (tearing_by torn old) (tearing_by torn mid) P coherent so_far from.0 from.1 in
      (earlier.0, earlier.1, slot_more earlier.0 from.0 image j content lt few is earlier.2 from.2))

  pub none_yet : (disk : Disk) → IsCoherent (tearing_by torn disk) → LeavesOnly (tearing_by torn disk) (tearing_by torn disk) (SlotSome torn slot tail copy (tearing_by torn disk).left)
  none_yet disk coherent = started (tearing_by torn disk) (SlotSome torn slot tail copy (tearing_by torn disk).left) coherent (λ image left. (image, left, slot_same image))

-- what reads give
module _ (slot : Slot) (tail : List ℕ) (copy : ℕ) (base mid new : Image) (first j : ℕ) (content : List ℕ) (lt : j < count_of (length tail)) (few : j < 32) (is : content ≡ slot_sector slot tail j) (at : first + j ≡ slot_start slot.number copy + j) where
  set_there : new ≡ set mid (first + j) content → new ≡ set mid (slot_start slot.number copy + j) content
  set_there seen = seen ∙ ap (λ (n : ℕ). set mid n content) at

  pub seen_more : SlotOver None slot tail copy base mid → new ≡ set mid (first + j) content → SlotOver None slot tail copy base new
  seen_more over seen = slot_more None slot tail copy base mid new j content lt few is over
      (subst (IsWrittenFrom None (slot_start slot.number copy + j) content mid) (sym (set_there seen)) (is_written None (slot_start slot.number copy + j) content mid))

  pub seen_failed : SlotOver None slot tail copy base mid → (new ≡ mid) ⊎ (new ≡ set mid (first + j) content) → SlotOver None slot tail copy base new
  seen_failed over (inl same) = subst (SlotOver None slot tail copy base) (sym same) over
  seen_failed over (inr seen) = seen_more over seen

  pub held_more : slot_start slot.number copy + j < length mid → new ≡ set mid (first + j) content → ((k : ℕ) → k < j → get_or mid (slot_start slot.number copy + k) [] ≡ slot_sector slot tail k)
      → (k : ℕ) → k < j + 1 → get_or new (slot_start slot.number copy + k) [] ≡ slot_sector slot tail k
  held_more long seen so_far = below_more (λ (k : ℕ). get_or new (slot_start slot.number copy + k) [] ≡ slot_sector slot tail k) j
      (λ k below. let other : slot_start slot.number copy + k ≢ slot_start slot.number copy + j = omega arith in
      ap (λ (i : Image). get_or i (slot_start slot.number copy + k) []) (set_there seen) ∙ get_or-set_other mid (slot_start slot.number copy + j) (slot_start slot.number copy + k) content [] other ∙ so_far k below)
      (ap (λ (i : Image). get_or i (slot_start slot.number copy + j) []) (set_there seen) ∙ get_or-set_same mid (slot_start slot.number copy + j) content [] long ∙ is)
