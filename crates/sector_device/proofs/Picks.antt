-- Sectors that are picked one by one make an image.
use Rattle.std.proofs.Common.{◌≡◌, ◌≢◌, ◌⊎◌, inl, inr, ⊎_elim, ℕ, ◌≤◌, ◌<◌, List, [], ◌∷◌, length, set, get_or, refl, ap, subst, sym, ◌∙◌, arith, length-set, Bool, true, false, nat_eq, if◌then◌else◌, ◌++◌, ◌-◌, min, length-append, All, Any, None}
use Rattle.std.proofs.lemmas.Bool.{cases_eq, cases_lt, eqb-true}
use Rattle.std.proofs.lemmas.List.{get_or-set_same, get_or-set_other, get_or_append_left, get_or-append_right, set-set, set-get_or, ext_get_or}
use Rattle.std.proofs.lemmas.List.Elements.{All-nil}
use Rattle.std.specs.declared.snapshot.Snapshot.{Snapshot}
use Rattle.sector_device.specs.Disk.{Image, OrReplaced, HasShape}
use Rattle.sector_device.specs.History.{zeros_of, seen_after, left_after}
use Rattle.sector_device.specs.Kept.{IsKept, contents_after, put_all, written_near, written_to}
use Rattle.sector_device.specs.Pick.{picked_of}
use Rattle.sector_device.specs.declared.call.DeviceCall.{DeviceCall}
use Rattle.sector_device.specs.declared.history.Held.{Held}
use Rattle.sector_device.specs.declared.history.History.{History, Opened, Created, Read', Written', WriteFailed', Synced'}
use Rattle.sector_device.specs.declared.unsettled.Unsettled.{Unsettled}

-- what a sector may hold after a crash, by its number
abbrev pub Holds : History → ℕ → List ℕ → Type 0
Holds (Opened held) i c = c ≡ get_or held.value.seen.items i []
Holds (Created sectors) i c = c ≡ get_or (zeros_of sectors) i []
Holds (Read' p earlier at content) i c = Holds earlier i c
Holds (Written' p earlier at content) i c = Holds earlier i c ⊎ ((i ≡ at) × (c ≡ content.value))
Holds (WriteFailed' p earlier at content) i c = Holds earlier i c ⊎ ((i ≡ at) × (c ≡ content.value))
Holds (Synced' p earlier) i c = c ≡ get_or (seen_after earlier) i []

pub seen_held : (history : History) (i : ℕ) → i < length (seen_after history) → Holds history i (get_or (seen_after history) i [])
seen_held (Opened held) i lt = refl
seen_held (Created sectors) i lt = refl
seen_held (Read' p earlier at content) i lt = seen_held earlier i lt
seen_held (WriteFailed' p earlier at content) i lt = inl (seen_held earlier i lt)
seen_held (Synced' p earlier) i lt = refl
seen_held (Written' p earlier at content) i lt = one (seen_held earlier i inside) (cases_eq i at)
  where
    inside : i < length (seen_after earlier)
    inside = omega (arith, lt, length-set (seen_after earlier) at content.value)

    one : Holds earlier i (get_or (seen_after earlier) i []) → (i ≡ at) ⊎ (i ≢ at) → Holds earlier i (get_or (set (seen_after earlier) at content.value) i []) ⊎ ((i ≡ at) × (get_or (set (seen_after earlier) at content.value) i [] ≡ content.value))
    one held (inl here) = inr (here, ap (λ (n : ℕ). get_or (set (seen_after earlier) n content.value) i []) (sym here) ∙ get_or-set_same (seen_after earlier) i content.value [] inside)
    one held (inr other) = inl (subst (Holds earlier i) (sym (get_or-set_other (seen_after earlier) at i content.value [] other)) held)

-- there is always a content to pick
some_written : (here : Bool) (contents : List (List ℕ)) (content : List ℕ) → 0 < length contents → 0 < length (if here then contents ++ content ∷ [] else contents)
some_written true contents content before = omega (arith, length-append contents (content ∷ []))
some_written false contents content before = before

some : (history : History) (i : ℕ) → 0 < length (contents_after history i)
some (Opened held) i = omega arith
some (Created sectors) i = omega arith
some (Read' p earlier at content) i = some earlier i
some (Written' p earlier at content) i = some_written (nat_eq at i) (contents_after earlier i) content.value (some earlier i)
some (WriteFailed' p earlier at content) i = some_written (nat_eq at i) (contents_after earlier i) content.value (some earlier i)
some (Synced' p earlier) i = omega arith

only : (content : List ℕ) (k : ℕ) → k < 1 → get_or (content ∷ []) k [] ≡ content
only content k lt = ap (λ (n : ℕ). get_or (content ∷ []) n []) (let first : k ≡ 0 = omega (arith, lt) in first)

held_written : (holds : List ℕ → Type 0) (at i k : ℕ) (old : List (List ℕ)) (content : List ℕ) (here : Bool) → nat_eq at i ≡ here → k < length (if here then old ++ content ∷ [] else old)
    → (k < length old → holds (get_or old k [])) → holds (get_or (if here then old ++ content ∷ [] else old) k []) ⊎ ((i ≡ at) × (get_or (if here then old ++ content ∷ [] else old) k [] ≡ content))
held_written holds at i k old content false is inside held = inl (held inside)
held_written holds at i k old content true is inside held = elim (cases_lt k (length old)) [
  | inl before ↦ inl (subst holds (sym (get_or_append_left old (content ∷ []) [] k before)) (held before))
  | inr past ↦ inr (sym (let e : at ≡ i = eqb-true at i is in e), last past)
]
  where
    last : length old ≤ k → get_or (old ++ content ∷ []) k [] ≡ content
    last past = get_or-append_right old (content ∷ []) (length old) k [] refl past ∙ only content (k - length old) (omega (arith, inside, past, length-append old (content ∷ [])))

-- each of the contents may be held
contents_held : (history : History) (i k : ℕ) → k < length (contents_after history i) → Holds history i (get_or (contents_after history i) k [])
contents_held (Opened held) i k lt = only (get_or held.value.seen.items i []) k lt
contents_held (Created sectors) i k lt = only (get_or (zeros_of sectors) i []) k lt
contents_held (Read' p earlier at content) i k lt = contents_held earlier i k lt
contents_held (Written' p earlier at content) i k lt = held_written (Holds earlier i) at i k (contents_after earlier i) content.value (nat_eq at i) refl lt (contents_held earlier i k)
contents_held (WriteFailed' p earlier at content) i k lt = held_written (Holds earlier i) at i k (contents_after earlier i) content.value (nat_eq at i) refl lt (contents_held earlier i k)
contents_held (Synced' p earlier) i k lt = only (get_or (seen_after earlier) i []) k lt

-- an image whose sectors are old or that one's new content
replaced : (left : Image → Type 0) (holds : ℕ → List ℕ → Type 0) (seen : Image) (at : ℕ) (content : List ℕ) → ((k : ℕ) → k < length seen → holds k (get_or seen k []))
    → ((image : Image) → length image ≡ length seen → ((k : ℕ) → k < length seen → holds k (get_or image k [])) → left image)
    → (image : Image) → length image ≡ length seen → ((k : ℕ) → k < length seen → holds k (get_or image k []) ⊎ ((k ≡ at) × (get_or image k [] ≡ content))) → OrReplaced left at content image
replaced left holds seen at content own all image size each = elim (cases_lt at (length seen)) [
  | inr past ↦ inl (all image size (λ k lt. ⊎_elim (λ h. h) (λ h. absurd (omega (arith, h.0, lt, past))) (each k lt)))
  | inl inside ↦ elim (each at inside) [
    | inl old ↦ inl (all image size (λ k lt. ⊎_elim (λ h. h) (λ h. subst (λ (n : ℕ). holds n (get_or image n [])) (sym h.0) old) (each k lt)))
    | inr new ↦
        let before = set image at (get_or seen at []) in
        inr (before, all before (length-set image at (get_or seen at []) ∙ size) (part inside), sym (set-set image at (get_or seen at []) content ∙ ap (λ (c : List ℕ). set image at c) (sym new.1) ∙ set-get_or image at []))
  ]
]
  where
    part : at < length seen → (k : ℕ) → k < length seen → holds k (get_or (set image at (get_or seen at [])) k [])
    part inside k lt = elim (cases_eq k at) [
      | inl here ↦ subst (λ (c : List ℕ). holds k c) (sym (ap (λ (n : ℕ). get_or (set image at (get_or seen at [])) n []) here ∙ get_or-set_same image at (get_or seen at []) [] (omega (arith, inside, size)) ∙ ap (λ (n : ℕ). get_or seen n []) (sym here))) (own k lt)
      | inr other ↦ subst (λ (c : List ℕ). holds k c) (sym (get_or-set_other image at k (get_or seen at []) [] other)) (⊎_elim (λ h. h) (λ h. absurd (other h.0)) (each k lt))
    ]

-- an image whose sectors are each what they may hold is one that a crash may leave
image_left : (history : History) (image : Image) → length image ≡ length (seen_after history) → ((k : ℕ) → k < length (seen_after history) → Holds history k (get_or image k [])) → left_after history image
image_left (Opened held) image size each = inl (ext_get_or [] image held.value.seen.items size (λ k lt. each k (omega (arith, size, lt))))
image_left (Created sectors) image size each = ext_get_or [] image (zeros_of sectors) size (λ k lt. each k (omega (arith, size, lt)))
image_left (Read' p earlier at content) image size each = image_left earlier image size each
image_left (WriteFailed' p earlier at content) image size each = replaced (left_after earlier) (Holds earlier) (seen_after earlier) at content.value (seen_held earlier) (image_left earlier) image size each
image_left (Synced' p earlier) image size each = ext_get_or [] image (seen_after earlier) size (λ k lt. each k (omega (arith, size, lt)))
image_left (Written' p earlier at content) image size each =
    let same = length-set (seen_after earlier) at content.value in
    replaced (left_after earlier) (Holds earlier) (seen_after earlier) at content.value (seen_held earlier) (image_left earlier) image (size ∙ same) (λ k lt. each k (omega (arith, lt, same)))

pub picked_held : (history : History) (picks : List ℕ) (k : ℕ) → Holds history k (picked_of (get_or picks k 0) (contents_after history k))
picked_held history picks k = let least = some history k in contents_held history k (min (get_or picks k 0) (length (contents_after history k) - 1)) (omega (arith, least))

pub picked_left : (history : History) (picks : List ℕ) (image : Image) → length image ≡ length (seen_after history)
    → ((i : ℕ) → i < length (seen_after history) → get_or image i [] ≡ picked_of (get_or picks i 0) (contents_after history i)) → left_after history image
picked_left history picks image size each =
    image_left history image size
    (λ k lt. subst (Holds history k) (sym (each k lt)) (picked_held history picks k))

module _ (history : History) (calls : List DeviceCall) (settled current : Image) (unsettled : List Unsettled) (kept : IsKept history calls settled unsettled current) (picks : List ℕ) (image : Image) (same : length image ≡ length settled)
    (each : (i : ℕ) → i < length settled → get_or image i [] ≡ picked_of (get_or picks i 0) (get_or settled i [] ∷ written_to i unsettled)) where
  pub crash_left : left_after history image
  crash_left =
      picked_left history picks image (same ∙ kept.size ∙ ap length kept.seen)
      (λ i lt. let inside : i < length current = omega (arith, lt, ap length kept.seen) in each i (omega (arith, inside, kept.size)) ∙ ap (picked_of (get_or picks i 0)) (sym (kept.contents i inside)))

  -- the disk that begins with it
  pub crash_kept : (of : Snapshot Held) (none : List DeviceCall) (writes : List Unsettled) (now : Image) → of.value.seen.items ≡ image → of.value.others.items ≡ [] → none ≡ [] → writes ≡ [] → now ≡ image → IsKept (Opened of) none image writes now
  crash_kept of none writes now is_held no_others no_calls no_writes is_now = record {
    recorded = no_calls;
    seen = is_now ∙ sym is_held;
    shape = λ torn other left. subst (HasShape (length now)) (sym (alone left ∙ is_held)) (subst (λ (n : ℕ). HasShape n image) (sym (ap length is_now ∙ same ∙ kept.size)) (kept.shape None image crash_left));
    size = ap length (sym is_now);
    placed = subst (All (λ w. w.at < length image)) (sym no_writes) (All-nil (λ w. w.at < length image));
    put = ap (put_all image) no_writes ∙ sym is_now;
    contents = λ i lt. ap (λ (b : Image). get_or b i [] ∷ []) is_held ∙ ap (λ (l : List Unsettled). get_or image i [] ∷ written_to i l) (sym no_writes);
    risks = λ i. ap (written_near i) (sym no_writes);
  }
    where
      alone : {other : Image} → left_after (Opened of) other → other ≡ of.value.seen.items
      alone {other} (inl is) = is
      alone {other} (inr any) = let none = subst (Any (λ o. other ≡ o.items)) no_others any in absurd (omega (arith, none.2))
