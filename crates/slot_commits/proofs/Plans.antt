-- Writes of planned sectors, one after another.
use Rattle.std.proofs.Common.{◌≡◌, ◌≢◌, ◌⊎◌, inl, inr, ℕ, ◌+◌, ◌/◌, ◌<◌, List, [], length, set, get_or, refl, ap, subst, sym, ◌∙◌, arith, below_more, Result, Bool, Option, None}
use Rattle.std.proofs.lemmas.List.{get_or-set_same, get_or-set_other}
use Rattle.sector_device.specs.Disk.{Image, Disk, LeavesOnly, IsCoherent, Tears, Writes}
use Rattle.sector_device.proofs.Moments.{goes_on, left_now, started}
use Rattle.slot_commits.specs.Formats.{PlanOver, PlanSome}
use Rattle.slot_commits.specs.Tears.{IsTornBy, tearing_by}
use Rattle.slot_commits.proofs.Copies.{IsWrittenFrom, is_written, written_at}

module _ (torn : Option (List ℕ → Bool)) (plan : ℕ → List ℕ → Type 0) where
  pub plan_same : (image : Image) → PlanOver torn plan image image
  plan_same image = record { size = refl; each = λ k. inl refl }

  abbrev Each : Image → ℕ → List ℕ → Type 0
  Each before n s = (s ≡ get_or before n []) ⊎ ((n < 128) × plan n s) ⊎ ((n < 128) × IsTornBy torn s)

  pub plan_more : (before mid image : Image) (at : ℕ) (content : List ℕ) → at < 128 → plan at content → PlanOver torn plan before mid → IsWrittenFrom torn at content mid image → PlanOver torn plan before image
  plan_more before mid image at content lt planned over from = record { size = from.size ∙ over.size; each = λ n. one n (from.each n) }
    where
      one : (n : ℕ) → (get_or image n [] ≡ get_or mid n []) ⊎ ((n ≡ at) × (get_or image n [] ≡ content)) ⊎ ((n / 32 ≡ at / 32) × IsTornBy torn (get_or image n [])) → Each before n (get_or image n [])
      one n (inl same) = subst (Each before n) (sym same) (over.each n)
      one n (inr (inl here)) = inr (inl (omega (arith, here.0, lt), subst (λ (k : ℕ). plan k (get_or image n [])) (sym here.0) (subst (plan at) (sym here.1) planned)))
      one n (inr (inr damage)) = inr (inr (omega (arith, damage.0, lt), damage.1))

  pub plan_step : {T E : Type 0} {result : Result T E} (old mid new : Disk) (at : ℕ) (content : List ℕ) → at < 128 → plan at content → IsCoherent (tearing_by torn mid) → LeavesOnly (tearing_by torn old) (tearing_by torn mid) (PlanSome torn plan (tearing_by torn old).left)
      → Writes mid new at content result → ((t : List ℕ → Bool) → Tears t mid new at content) → LeavesOnly (tearing_by torn old) (tearing_by torn new) (PlanSome torn plan (tearing_by torn old).left)
  plan_step old mid new at content lt planned coherent so_far writes tears =
      let P = PlanSome torn plan (tearing_by torn old).left in
      let written = written_at torn mid new at content writes tears in
      goes_on (tearing_by torn old) (tearing_by torn mid) (tearing_by torn new) P so_far written.0
      (λ image left.
      let from = written.1 image left in
      let earlier = left_now (tearing_by torn old) (tearing_by torn mid) P coherent so_far from.0 from.1 in
      (earlier.0, earlier.1, plan_more earlier.0 from.0 image at content lt planned earlier.2 from.2))

  pub plan_none : (disk : Disk) → IsCoherent (tearing_by torn disk) → LeavesOnly (tearing_by torn disk) (tearing_by torn disk) (PlanSome torn plan (tearing_by torn disk).left)
  plan_none disk coherent = started (tearing_by torn disk) (PlanSome torn plan (tearing_by torn disk).left) coherent (λ image left. (image, left, plan_same image))

-- what reads give
module _ (plan : ℕ → List ℕ → Type 0) (base mid new : Image) (at : ℕ) (content : List ℕ) (lt : at < 128) (planned : plan at content) where
  pub plan_seen : PlanOver None plan base mid → new ≡ set mid at content → PlanOver None plan base new
  plan_seen over seen = plan_more None plan base mid new at content lt planned over (subst (IsWrittenFrom None at content mid) (sym seen) (is_written None at content mid))

  pub plan_failed : PlanOver None plan base mid → (new ≡ mid) ⊎ (new ≡ set mid at content) → PlanOver None plan base new
  plan_failed over (inl same) = subst (PlanOver None plan base) (sym same) over
  plan_failed over (inr seen) = plan_seen over seen

-- the sectors written so far
pub below_write : (at : ℕ → ℕ) (P : ℕ → List ℕ → Type 0) (mid new : Image) (k : ℕ) (content : List ℕ) → new ≡ set mid (at k) content → at k < length mid → ((j : ℕ) → j < k → at j ≢ at k) → P k content
    → ((j : ℕ) → j < k → P j (get_or mid (at j) [])) → (j : ℕ) → j < k + 1 → P j (get_or new (at j) [])
below_write at P mid new k content seen long apart planned so_far = below_more (λ (j : ℕ). P j (get_or new (at j) [])) k
    (λ j lt. subst (P j) (sym (ap (λ (i : Image). get_or i (at j) []) seen ∙ get_or-set_other mid (at k) (at j) content [] (apart j lt))) (so_far j lt))
    (subst (P k) (sym (ap (λ (i : Image). get_or i (at k) []) seen ∙ get_or-set_same mid (at k) content [] long)) planned)
