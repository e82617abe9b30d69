-- What an opening says of the slots, and one that may refuse a store whose last commit may be lost.
use Rattle.std.proofs.Common.{◌≡◌, ◌⊎◌, inl, inr, ⊎_elim, ℕ, Bool, true, false, List, refl, sym, ◌∙◌, subst, arith}
use Rattle.sector_device.specs.Disk.{Disk, Image, LeavesOnly}
use Rattle.sector_device.specs.Sectors.{KeepsImages}
use Rattle.sector_device.proofs.Moments.{leaves_weaker}
use Rattle.slot_commits.specs.declared.found.Notice.{Notice}
use Rattle.slot_commits.specs.declared.found.Notice.TheVariants.{Whole, Mended, CutOff}
use Rattle.store_journal.specs.Carries.{Carried, Carries}
use Rattle.store_journal.specs.Damages.{IsNoticedDamage, LostBothCopies, StandsRiding}
use Rattle.store_journal.specs.Models.{model}
use Rattle.store_journal.specs.JournalView.{JournalView}
use Rattle.store_journal.proofs.Damaged.{damaged}
use Rattle.store_commits.specs.Images.{Stands}
use Rattle.store_journal.specs.Opening.{IsNoticeIn}
use Rattle.store_journal.proofs.Unique.{carries_one}
use Rattle.doc_changes.specs.State.{State}
use Rattle.refusals.specs.declared.numbers.TheConstants.{CUT_OFF, DEVICE, NO_ROOM}
use Rattle.store_commits.proofs.Modelled.{AreCoherent}
use Rattle.doc_store.specs.Found.{WasFound}
use Rattle.doc_store.specs.Opening.{FindsNoRoom, IsRefusedAs, NotOpened, OldOrStands}
use Rattle.doc_store.specs.Strict.{FindsCutOff, IsRefusedBy, IsSaidOf, IsTaken, NotTaken}
use Rattle.doc_store.specs.declared.opening.Strictness.{Strictness}
use Rattle.doc_store.specs.declared.opening.Strictness.TheVariants.{AnyState, RefusesCutOff}
use Rattle.doc_store.proofs.Opened.{one_state, only_read, read_stands, why_of}

-- what is said of a journal that carries something is said of all that is carried
pub said_of : (image : Image) (was : Carried) (notice : Notice) → Carries was image → IsNoticeIn was.rides image notice → IsSaidOf image notice
said_of image was notice carries said = λ c other. subst (λ (d : Carried). IsNoticeIn d.rides image notice) (carries_one image was c carries other) said

-- what is refused anyhow
pub not_taken : (strictness : Strictness) (old new : Disk) (number : ℕ) → NotOpened old new number → NotTaken strictness old new number
not_taken AnyState old new number why = why
not_taken RefusesCutOff old new number why = inl why

pub refused_by : (strictness : Strictness) (seen : Image) (number : ℕ) → IsRefusedAs seen number → IsRefusedBy strictness seen number
refused_by AnyState seen number why = why
refused_by RefusesCutOff seen number why = inl why

-- one that lacks room
pub lacks_room_by : (strictness : Strictness) (old new : Disk) (number : ℕ) → NotTaken strictness old new number → number ≡ NO_ROOM → FindsNoRoom old new
lacks_room_by AnyState old new number why is = (why_of old new number why).0 is
lacks_room_by RefusesCutOff old new number (inl why) is = (why_of old new number why).0 is
lacks_room_by RefusesCutOff old new number (inr cut) is = let other = cut.0 in absurd (omega (arith, other, is))

-- a notice that isn't taken is that a commit was cut off, and it was asked to refuse that
pub untaken : (strictness : Strictness) (notice : Notice) → (IsTaken strictness notice → ⊥) → (strictness ≡ RefusesCutOff) × (notice ≡ CutOff)
untaken AnyState notice none = absurd (none tt)
untaken RefusesCutOff CutOff none = (refl, refl)
untaken RefusesCutOff Whole none = absurd (none (λ is. cc is))
untaken RefusesCutOff Mended none = absurd (none (λ is. cc is))

-- a test that failed
pub not_true : (b : Bool) → b ≡ false → b ≡ true → ⊥
not_true b is_false is_true = let contrary : true ≡ false = sym is_true ∙ is_false in absurd (cc contrary)

-- what only was there before
pub only_old : (old new : Disk) (rides : Bool) → KeepsImages (model rides old) (model rides new) → LeavesOnly (model rides old) (model rides new) (OldOrStands (model rides old))
only_old old new rides keeps = leaves_weaker (model rides old) (model rides new) (model rides old).left (OldOrStands (model rides old)) (λ image left. inl left) keeps.any_moment

module _ {D : Type 0} {disk : D → Disk} {device : D} {first : JournalView D} {bytes : List ℕ} {state : State} (coherent : AreCoherent disk) (found : WasFound disk device first bytes state) where
  cut_off : ((disk first.device).honest → IsSaidOf (disk device).seen CutOff) → FindsCutOff (disk device) (disk first.device)
  cut_off said = record {
    read = only_read disk device first bytes found.loaded found.tail;
    cut_off = λ honest. record { state = state; stands = read_stands coherent found honest; said = said honest };
  }

  pub strictly : (strictness : Strictness) (notice : Notice) → (IsTaken strictness notice → ⊥) → ((disk first.device).honest → IsSaidOf (disk device).seen notice) → NotTaken strictness (disk device) (disk first.device) CUT_OFF
  strictly strictness notice none said =
      let is = untaken strictness notice none in
      subst (λ (s : Strictness). NotTaken s (disk device) (disk first.device) CUT_OFF) (sym is.0)
      (inr (refl, cut_off (λ honest. subst (IsSaidOf (disk device).seen) is.1 (said honest))))

  pub strictly_exact : (strictness : Strictness) (notice : Notice) → (IsTaken strictness notice → ⊥) → ((disk first.device).honest → IsSaidOf (disk device).seen notice) → (disk first.device).honest
      → IsRefusedBy strictness (disk device).seen CUT_OFF
  strictly_exact strictness notice none said honest =
      let is = untaken strictness notice none in
      let cut = cut_off (λ now. subst (IsSaidOf (disk device).seen) is.1 (said now)) in
      subst (λ (s : Strictness). IsRefusedBy s (disk device).seen CUT_OFF) (sym is.0) (inr (refl, cut.cut_off honest))

-- ---- damage at rest

-- what holds a state by what is carried holds it in each image that carries this
stands_too : (state : State) (before image : Image) (stands : Stands state before) (d : Carried) → d ≡ stands.carried → Carries d image → Stands state image
stands_too state before image stands d same carries = record {
  carried = stands.carried;
  carries = subst (λ (c : Carried). Carries c image) same carries;
  seq_is = stands.seq_is;
  profile_is = stands.profile_is;
  holds = stands.holds;
}

pub damage_told : (number blocks : ℕ) (state other : State) (notice : Notice) (before image : Image) (stands : Stands state before) → StandsRiding number blocks stands.carried before → IsNoticedDamage blocks stands.carried before image
    → Stands other image → IsSaidOf image notice → (other ≡ state) ⊎ ((notice ≡ CutOff) × LostBothCopies number blocks stands.carried image)
damage_told number blocks state other notice before image stands was is found said =
    ⊎_elim (λ same. inl (one_state image other state found (stands_too state before image stands found.carried same found.carries))) (λ lost. inr lost)
    (damaged number blocks stands.carried found.carried notice before image was is found.carries (said found.carried found.carries))
