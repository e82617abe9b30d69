-- Sectors that are picked one by one, or torn, make an image that a crash may leave.
use Rattle.std.proofs.Common.{◌≡◌, ◌≢◌, ◌⊎◌, inl, inr, ⊎_elim, ℕ, suc, zero, ◌/◌, ◌≤◌, ◌<◌, List, [], ◌∷◌, length, set, get_or, refl, ap, subst, sym, ◌∙◌, arith, length-set, Bool, true, false, nat_eq, if◌then◌else◌, ◌||◌, All, Some}
use Rattle.std.proofs.lemmas.Bool.{cases_eq, eqb-true}
use Rattle.std.proofs.lemmas.List.{ext_get_or}
use Rattle.sector_device.specs.Disk.{Image, IsDamage}
use Rattle.sector_device.specs.History.{zeros_of, seen_after, left_by}
use Rattle.sector_device.specs.Kept.{IsKept, contents_after, risk_after, written_near, written_to}
use Rattle.sector_device.specs.Pick.{damaged_to, picked_of, torn_of}
use Rattle.sector_device.specs.declared.call.DeviceCall.{DeviceCall}
use Rattle.sector_device.specs.declared.damage.Damage.{Damage}
use Rattle.sector_device.specs.declared.history.History.{History, Opened, Created, Read', Written', WriteFailed', Synced'}
use Rattle.sector_device.specs.declared.unsettled.Unsettled.{Unsettled}
use Rattle.sector_device.proofs.Chosen.{torn_from_each}
use Rattle.sector_device.proofs.Picks.{Holds, seen_held, picked_held}

module _ (torn : List ℕ → Bool) where
  -- what a sector may hold after a crash that tears, by its number
  abbrev TornHolds : History → ℕ → List ℕ → Type 0
  TornHolds (Opened held) i c = c ≡ get_or held.value.seen.items i []
  TornHolds (Created sectors) i c = c ≡ get_or (zeros_of sectors) i []
  TornHolds (Read' p earlier at content) i c = TornHolds earlier i c
  TornHolds (Written' p earlier at content) i c = TornHolds earlier i c ⊎ ((i ≡ at) × (c ≡ content.value)) ⊎ ((i / 8 ≡ at / 8) × IsDamage torn c)
  TornHolds (WriteFailed' p earlier at content) i c = TornHolds earlier i c ⊎ ((i ≡ at) × (c ≡ content.value)) ⊎ ((i / 8 ≡ at / 8) × IsDamage torn c)
  TornHolds (Synced' p earlier) i c = c ≡ get_or (seen_after earlier) i []

  -- what it may hold untorn
  untorn : (history : History) (i : ℕ) (c : List ℕ) → Holds history i c → TornHolds history i c
  untorn (Opened held) i c h = h
  untorn (Created sectors) i c h = h
  untorn (Read' p earlier at content) i c h = untorn earlier i c h
  untorn (Written' p earlier at content) i c (inl h) = inl (untorn earlier i c h)
  untorn (Written' p earlier at content) i c (inr h) = inr (inl h)
  untorn (WriteFailed' p earlier at content) i c (inl h) = inl (untorn earlier i c h)
  untorn (WriteFailed' p earlier at content) i c (inr h) = inr (inl h)
  untorn (Synced' p earlier) i c h = h

  -- and damage, if it is at risk
  either : (before : Bool) (at i : ℕ) (holds : Type 0) (c : List ℕ) (content : List ℕ) → (before || nat_eq (at / 8) (i / 8)) ≡ true → (before ≡ true → holds) → IsDamage torn c → holds ⊎ ((i ≡ at) × (c ≡ content)) ⊎ ((i / 8 ≡ at / 8) × IsDamage torn c)
  either true at i holds c content risk earlier damage = inl (earlier refl)
  either false at i holds c content risk earlier damage = inr (inr (sym (eqb-true (at / 8) (i / 8) risk), damage))

  damaged : (history : History) (i : ℕ) (c : List ℕ) → risk_after history i ≡ true → IsDamage torn c → TornHolds history i c
  damaged (Opened held) i c risk damage = absurd cc
  damaged (Created sectors) i c risk damage = absurd cc
  damaged (Read' p earlier at content) i c risk damage = damaged earlier i c risk damage
  damaged (Written' p earlier at content) i c risk damage = either (risk_after earlier i) at i (TornHolds earlier i c) c content.value risk (λ before. damaged earlier i c before damage) damage
  damaged (WriteFailed' p earlier at content) i c risk damage = either (risk_after earlier i) at i (TornHolds earlier i c) c content.value risk (λ before. damaged earlier i c before damage) damage
  damaged (Synced' p earlier) i c risk damage = absurd cc

  seen_torn : (history : History) (i : ℕ) → i < length (seen_after history) → TornHolds history i (get_or (seen_after history) i [])
  seen_torn history i lt = untorn history i (get_or (seen_after history) i []) (seen_held history i lt)

  -- an image whose sectors are each what they may hold is one that a crash may leave
  image_torn : (history : History) (image : Image) → length image ≡ length (seen_after history) → ((k : ℕ) → k < length (seen_after history) → TornHolds history k (get_or image k [])) → left_by (Some torn) history image
  image_torn (Opened held) image size each = inl (ext_get_or [] image held.value.seen.items size (λ k lt. each k (omega (arith, size, lt))))
  image_torn (Created sectors) image size each = ext_get_or [] image (zeros_of sectors) size (λ k lt. each k (omega (arith, size, lt)))
  image_torn (Read' p earlier at content) image size each = image_torn earlier image size each
  image_torn (WriteFailed' p earlier at content) image size each = torn_from_each torn (left_by (Some torn) earlier) (TornHolds earlier) (seen_after earlier) at content.value (seen_torn earlier) (image_torn earlier) image size each
  image_torn (Synced' p earlier) image size each = ext_get_or [] image (seen_after earlier) size (λ k lt. each k (omega (arith, size, lt)))
  image_torn (Written' p earlier at content) image size each =
      let same = length-set (seen_after earlier) at content.value in
      torn_from_each torn (left_by (Some torn) earlier) (TornHolds earlier) (seen_after earlier) at content.value (seen_torn earlier) (image_torn earlier) image (size ∙ same) (λ k lt. each k (omega (arith, lt, same)))

  -- the last damage of a sector, or what it holds without
  one_damage : (i : ℕ) (damage : List Damage) (c : List ℕ) (P : List ℕ → Type 0) → All (λ d. IsDamage torn d.content) damage → P c → ((d : List ℕ) → IsDamage torn d → P d) → P (damaged_to i damage c)
  one_damage i [] c P all held each = held
  one_damage i (d ∷ later) c P all held each = one_damage i later (if nat_eq d.at i then d.content else c) P (λ k e lt. all (suc k) e (omega (arith, lt))) (one (nat_eq d.at i)) each
    where
      one : (here : Bool) → P (if here then d.content else c)
      one true = each d.content (all 0 d (omega arith))
      one false = held

  torn_held : (history : History) (i : ℕ) (damage : List Damage) (c : List ℕ) (risk : Bool) → risk_after history i ≡ risk → All (λ d. IsDamage torn d.content) damage → Holds history i c → TornHolds history i (torn_of risk i damage c)
  torn_held history i damage c true at_risk all held = one_damage i damage c (TornHolds history i) all (untorn history i c held) (λ d is. damaged history i d at_risk is)
  torn_held history i damage c false at_risk all held = untorn history i c held

  pub torn_left : (history : History) (picks : List ℕ) (damage : List Damage) (image : Image) → All (λ d. IsDamage torn d.content) damage → length image ≡ length (seen_after history)
      → ((i : ℕ) → i < length (seen_after history) → get_or image i [] ≡ torn_of (risk_after history i) i damage (picked_of (get_or picks i 0) (contents_after history i))) → left_by (Some torn) history image
  torn_left history picks damage image all size each =
      image_torn history image size
      (λ k lt. subst (TornHolds history k) (sym (each k lt)) (torn_held history k damage (picked_of (get_or picks k 0) (contents_after history k)) (risk_after history k) refl all (picked_held history picks k)))

  module _ (history : History) (calls : List DeviceCall) (settled current : Image) (unsettled : List Unsettled) (kept : IsKept history calls settled unsettled current) (picks : List ℕ) (damage : List Damage) (all : All (λ d. IsDamage torn d.content) damage)
      (picked image : Image) (size : length picked ≡ length settled) (same : length image ≡ length picked)
      (each_picked : (i : ℕ) → i < length settled → get_or picked i [] ≡ picked_of (get_or picks i 0) (get_or settled i [] ∷ written_to i unsettled))
      (each : (i : ℕ) → i < length picked → get_or image i [] ≡ torn_of (written_near i unsettled) i damage (get_or picked i [])) where
    pub crash_torn : left_by (Some torn) history image
    crash_torn =
        torn_left history picks damage image all (same ∙ size ∙ kept.size ∙ ap length kept.seen)
        (λ i lt. let inside : i < length current = omega (arith, lt, ap length kept.seen) in
        let old : i < length settled = omega (arith, inside, kept.size) in
        each i (omega (arith, old, size))
        ∙ ap (λ (b : Bool). torn_of b i damage (get_or picked i [])) (sym (kept.risks i))
        ∙ ap (torn_of (risk_after history i) i damage) (each_picked i old ∙ ap (picked_of (get_or picks i 0)) (sym (kept.contents i inside))))
