-- Sector 0, through the calls of a commit.
use Rattle.std.proofs.Common.{◌≡◌, ◌⊎◌, inl, inr, ℕ, ◌≤◌, List, [], take, get_or, refl, ap, subst, sym, ◌∙◌, arith, Result, Bool, Option, None, Some}
use Rattle.sector_device.specs.Disk.{Image, Disk, LeavesOnly, IsCoherent, Syncs, tearing}
use Rattle.sector_device.specs.Sectors.{KeepsImages, Over, OverSome, TornOver, TornSome}
use Rattle.sector_device.proofs.Moments.{goes_on, joined, leaves_weaker, left_now, started}
use Rattle.commit_slots.specs.Sealed.{beginning}
use Rattle.commit_slots.specs.Slots.{slot_sector}
use Rattle.commit_slots.specs.declared.slot.Slot.{Slot}
use Rattle.slot_commits.specs.Firsts.{KeepsFirst, LeavesFirst}
use Rattle.slot_commits.specs.Pairs.{SlotOver, SlotSome}
use Rattle.slot_commits.specs.Tears.{IsTornBy, tearing_by}

-- each sector of a slot begins so
pub slot_begins : (slot : Slot) (tail : List ℕ) (k : ℕ) → take 12 (slot_sector slot tail k) ≡ beginning
unfolding slot_sector
slot_begins slot tail k = refl

-- what a call makes of sector 0
abbrev pub FirstNow : Option (List ℕ → Bool) → Image → Image → Type 0
FirstNow torn before image = (get_or image 0 [] ≡ get_or before 0 []) ⊎ (take 12 (get_or image 0 []) ≡ beginning) ⊎ IsTornBy torn (get_or image 0 [])

pub first_more : (torn : Option (List ℕ → Bool)) (old : Image → Type 0) (mid image : Image) → KeepsFirst torn old mid → FirstNow torn mid image → KeepsFirst torn old image
first_more torn old mid image keeps (inl same) = (keeps.0, keeps.1, one keeps.2)
  where
    one : FirstNow torn keeps.0 mid → FirstNow torn keeps.0 image
    one (inl first) = inl (same ∙ first)
    one (inr (inl begins)) = inr (inl (ap (take 12) same ∙ begins))
    one (inr (inr damage)) = inr (inr (subst (IsTornBy torn) (sym same) damage))
first_more torn old mid image keeps (inr new) = (keeps.0, keeps.1, inr new)

pub slot_first : (torn : Option (List ℕ → Bool)) (slot : Slot) (tail : List ℕ) (copy : ℕ) (mid image : Image) → SlotOver torn slot tail copy mid image → FirstNow torn mid image
slot_first torn slot tail copy mid image over = elim (over.each 0) [
  | inl same ↦ inl same
  | inr (inl of) ↦ inr (inl (ap (take 12) of.3 ∙ slot_begins slot tail of.0))
  | inr (inr damage) ↦ inr (inr damage.1)
]

-- a run of blocks leaves it
abbrev pub SameFirst : (Image → Type 0) → Image → Type 0
SameFirst old image = (before : Image) × old before × (get_or image 0 [] ≡ get_or before 0 [])

over_first : (first count : ℕ) (bytes : List ℕ) (before image : Image) → 128 ≤ first → Over first count bytes before image → get_or image 0 [] ≡ get_or before 0 []
over_first first count bytes before image past over = elim (over.each 0) [
  | inl same ↦ same
  | inr h ↦ absurd (omega (arith, h.2, past))
]

torn_first : (t : List ℕ → Bool) (first count : ℕ) (bytes : List ℕ) (before image : Image) → 128 ≤ first → TornOver t first count bytes before image → get_or image 0 [] ≡ get_or before 0 []
torn_first t first count bytes before image past over = elim (over.each 0) [
  | inl same ↦ same
  | inr (inl h) ↦ absurd (omega (arith, h.2, past))
  | inr (inr h) ↦ absurd (omega (arith, h.0.2, past))
]

pub run_first : (torn : Option (List ℕ → Bool)) (old new : Disk) (first count : ℕ) (bytes : List ℕ) → 128 ≤ first → LeavesOnly old new (OverSome first count bytes old.left)
    → ((t : List ℕ → Bool) → LeavesOnly (tearing t old) (tearing t new) (TornSome t first count bytes (old.torn_left t))) → LeavesOnly (tearing_by torn old) (tearing_by torn new) (SameFirst (tearing_by torn old).left)
run_first None old new first count bytes past plain tears =
    leaves_weaker old new (OverSome first count bytes old.left) (SameFirst old.left) (λ image over. (over.0, over.1, over_first first count bytes over.0 image past over.2)) plain
run_first (Some t) old new first count bytes past plain tears =
    leaves_weaker (tearing t old) (tearing t new) (TornSome t first count bytes (old.torn_left t)) (SameFirst (old.torn_left t)) (λ image over. (over.0, over.1, torn_first t first count bytes over.0 image past over.2)) (tears t)

module _ (torn : Option (List ℕ → Bool)) (old : Disk) where
  abbrev O : Disk
  O = tearing_by torn old

  abbrev F : Image → Type 0
  F = KeepsFirst torn O.left

  pub firsts_start : IsCoherent O → LeavesFirst torn old old
  firsts_start coherent = started O F coherent (λ image left. (image, left, inl refl))

  module _ (mid : Disk) (coherent : IsCoherent (tearing_by torn mid)) (so_far : LeavesFirst torn old mid) where
    abbrev M : Disk
    M = tearing_by torn mid

    now : (image : Image) → M.left image → F image
    now image left = left_now O M F coherent so_far image left

    pub firsts_run : (next : Disk) → LeavesOnly M (tearing_by torn next) (SameFirst M.left) → LeavesFirst torn old next
    firsts_run next run = joined O M (tearing_by torn next) F so_far (leaves_weaker M (tearing_by torn next) (SameFirst M.left) F (λ image some. first_more torn O.left some.0 image (now some.0 some.1) (inl some.2)) run)

    pub firsts_slot : (next : Disk) (slot : Slot) (tail : List ℕ) (copy : ℕ) → LeavesOnly M (tearing_by torn next) (SlotSome torn slot tail copy M.left) → LeavesFirst torn old next
    firsts_slot next slot tail copy written =
        joined O M (tearing_by torn next) F so_far
        (leaves_weaker M (tearing_by torn next) (SlotSome torn slot tail copy M.left) F (λ image some. first_more torn O.left some.0 image (now some.0 some.1) (slot_first torn slot tail copy some.0 image some.2)) written)

    pub firsts_sync : {T E : Type 0} (next : Disk) (result : Result T E) → Syncs M (tearing_by torn next) result → LeavesFirst torn old next
    firsts_sync next result syncs = goes_on O M (tearing_by torn next) F so_far syncs.time (λ image left. now image (syncs.adds_none image left))

    pub firsts_keep : (next : Disk) → KeepsImages M (tearing_by torn next) → LeavesFirst torn old next
    firsts_keep next keeps = joined O M (tearing_by torn next) F so_far (leaves_weaker M (tearing_by torn next) M.left F now keeps.any_moment)

    pub firsts_more : (next : Disk) → LeavesFirst torn mid next → LeavesFirst torn old next
    firsts_more next more = joined O M (tearing_by torn next) F so_far (leaves_weaker M (tearing_by torn next) (KeepsFirst torn M.left) F (λ image some. first_more torn O.left some.0 image (now some.0 some.1) some.2) more)
