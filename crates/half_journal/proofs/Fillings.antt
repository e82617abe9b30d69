-- What formatting with bytes makes of the images, call by call.
use Rattle.std.proofs.Common.{◌≡◌, inl, inr, ℕ, ◌≤◌, ◌<◌, ◌^◌, List, length, set, take, refl, ap, subst, sym, ◌∙◌, arith, Result, OnOk}
use Rattle.std.proofs.lemmas.Result.{on_ok_weaker}
use Rattle.sector_device.specs.Disk.{Disk, Image, HasShape, IsCoherent, LeavesOnly}
use Rattle.sector_device.proofs.Moments.{leaves_weaker}
use Rattle.sector_device.specs.Charges.{IsSame}
use Rattle.sector_device.specs.Sectors.{Over, OverSome}
use Rattle.half_journal.specs.Layout.{HasMagic, IsHalfSized, half_capacity, half_start, sector_of}
use Rattle.half_journal.specs.Publishing.{Replaces}
use Rattle.half_journal.specs.States.{CarriesInHalf, HalfState, Holds, commit_of}
use Rattle.half_journal.specs.Fills.{NoneOrFilled, filled}
use Rattle.half_journal.proofs.Images.{formatted}
use Rattle.half_journal.proofs.Since.{Since, begin, since_replaced, since_run}

abbrev pub LacksStore : Image → Type 0
LacksStore image = HasMagic image → ⊥

pub none_left : {before now : Disk} {sectors : ℕ} (c : HalfState) → Since before now sectors LacksStore → LeavesOnly before now (NoneOrFilled c)
none_left {before} {now} c since = leaves_weaker before now LacksStore (NoneOrFilled c) (λ image. inl) since.leaves

-- writes of other sectors make no store
pub since_bytes : (old mid : Disk) (sectors first count : ℕ) (run : List ℕ) → old.honest → (old.honest → IsCoherent old) → (mid.honest → IsCoherent mid) → IsSame old mid → sectors ≡ old.sectors → 0 < first
    → ((image : Image) → old.left image → HasMagic image → ⊥) → LeavesOnly old mid (OverSome first count run old.left) → Since old mid sectors LacksStore
since_bytes old mid sectors first count run honest coherent coherent_mid same size positive none leaves = since_run (begin old sectors LacksStore honest coherent (sym size) none) mid first count run coherent_mid same over_none leaves
  where
    over_none : (image after : Image) → old.left image → LacksStore image → Over first count run image after → LacksStore after
    over_none image after left lacks over magic = elim (over.each 0) [
      | inl same ↦ lacks (ap (take 8) (sym same) ∙ magic)
      | inr h ↦ absurd (omega (arith, h.2, positive))
    ]

-- the commit sector over the bytes
module _ (now new : Disk) (sectors : ℕ) (bytes : List ℕ) (seq opens : ℕ) (sized : IsHalfSized sectors) (fits : length bytes ≤ half_capacity sectors) (seq_fits : seq < 2 ^ 64) (opens_fits : opens < 2 ^ 64) (coherent : IsCoherent now) (size : now.sectors ≡ sectors)
    (holds : (image : Image) → now.left image → Holds image (half_start sectors 0) bytes (length bytes)) where
  abbrev c : HalfState
  c = filled bytes seq opens

  carries : (image after : Image) → now.left image → after ≡ set image 0 (sector_of (commit_of c sectors)) → CarriesInHalf c after
  carries image after left is = formatted image after sectors c (subst (λ (n : ℕ). HasShape n image) size (coherent.shape image left)) sized refl (omega arith) seq_fits opens_fits fits (holds image left) is

  pub all_done : {T E : Type 0} (result : Result T E) → Replaces now new (sector_of (commit_of c sectors)) result → OnOk result ((image : Image) → new.left image → CarriesInHalf c image)
  all_done result replaces = on_ok_weaker result (λ set image left. carries now.seen image coherent.seen (set image left)) replaces.done

  pub none_or_all : {T E : Type 0} (old : Disk) (result : Result T E) → Since old now sectors LacksStore → Replaces now new (sector_of (commit_of c sectors)) result → LeavesOnly old new (NoneOrFilled c)
  none_or_all old result since replaces = since_replaced since new (sector_of (commit_of c sectors)) (NoneOrFilled c) (λ image. inl) (λ image after left is. inr (carries image after left is)) replaces.any_moment
