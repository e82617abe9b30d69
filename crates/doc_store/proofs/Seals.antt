-- A seal: the journal, the copy and the account stay, and it is a run of one event that makes no change.
use Rattle.std.proofs.Common.{◌≡◌, ◌≢◌, ◌⊎◌, inl, inr, ⊎_elim, ℕ, ◌+◌, ◌<◌, ◌≤◌, List, [], ◌∷◌, take, refl, sym, ◌∙◌, ap, subst, arith, true, false, Bool, Option, None, Some, ◌↔◌, Result, Ok, Err, OnOk, IfErr, if◌then◌else◌}
use Rattle.sector_device.specs.Charges.{Made}
use Rattle.sector_device.specs.Disk.{Disk, Image, LeavesOnly}
use Rattle.sector_device.proofs.Moments.{leaves_weaker}
use Rattle.slot_commits.specs.Loads.{number_end}
use Rattle.store_journal.specs.Calls.{BeginsWith, CommitFault}
use Rattle.store_journal.specs.Carries.{Carries}
use Rattle.store_journal.specs.JournalView.{JournalView, IsKept, carried_of}
use Rattle.store_journal.specs.Models.{model}
use Rattle.store_journal.specs.Sealing.{Sealed as IsSealing, seal_calls}
use Rattle.doc_changes.specs.Refusals.{plain}
use Rattle.doc_changes.specs.State.{State}
use Rattle.doc_changes.specs.declared.refusal.Refusal.{Refusal}
use Rattle.refusals.specs.declared.numbers.TheConstants.{BROKEN, DEVICE, SEQ_END}
use Rattle.store_commits.specs.Account.{Account, EndsWith, IsStanding, IsStandingAs, StoreView, extent_of, with_copy}
use Rattle.store_commits.specs.Batch.{AreMade, PassedCommit}
use Rattle.store_commits.specs.Copying.{IsCopied, Target}
use Rattle.store_commits.specs.Folds.{StandsAfter}
use Rattle.store_commits.specs.Images.{Holds, version_of_frames}
use Rattle.store_commits.specs.Inside.{IsHeld, IsStored, account_of}
use Rattle.store_commits.specs.Run.{Ran, a_seal, commits_of, reply_of, seal}
use Rattle.store_commits.specs.Sealing.{SealAnswers, to_seal}
use Rattle.store_commits.specs.declared.event.Reply.TheVariants.{Refused, Sealed}
use Rattle.store_commits.proofs.Modelled.{AreCoherent}
use Rattle.store_commits.proofs.Running.{lasts_unchanged, one_done}
use Rattle.store_commits.proofs.Standing.{stands_by, stands_now, stays}
use Rattle.store_commits.proofs.Went.{stops_own}
use Rattle.doc_store.proofs.Pumps.{ends_somehow, held_so}

-- ---- the journal

below_end : (rides : Bool) (next : ℕ) → next + 2 ≤ number_end → (if rides then next + 1 else next) < number_end
below_end true next left = omega (arith, left)
below_end false next left = omega (arith, left)

-- of a working journal with numbers left only a fault of the device refuses it
pub only_device : {D : Type 0} (view : JournalView D) (number : ℕ) → CommitFault view number → view.broken ≡ false → view.next + 2 ≤ number_end → number ≡ DEVICE
only_device view number (inl broken) works left = absurd (let contrary = sym works ∙ broken.1 in cc contrary)
only_device view number (inr (inl ended)) works left = absurd (let over = ended.2 in omega (arith, over, left))
only_device view number (inr (inr fault)) works left = fault.0

pub the_fault : {A B : Type 0} (number : ℕ) → number ≡ DEVICE → ((number ≡ DEVICE) × A) ⊎ ((number ≢ DEVICE) × B) → A
the_fault number is (inl fault) = fault.1
the_fault number is (inr other) = absurd (other.0 is)

module _ {D : Type 0} (old new : Disk) (before now : JournalView D) (state : State) (held : IsHeld old before state) (same : old.honest ↔ new.honest) (kept : IsKept new now) where
  pub seal_moments : old.honest → LeavesOnly (model before.rides old) (model before.rides new) (Carries (carried_of before)) → LeavesOnly (model before.rides old) (model before.rides new) (StandsAfter state [])
  seal_moments honest leaves = leaves_weaker (model before.rides old) (model before.rides new) (Carries (carried_of before)) (StandsAfter state [])
      (λ image carries. stands_now state [] image (stands_by state (carried_of before) held.version held.seq held.profile (held.held honest) image carries)) leaves

  module _ (sealed : IsSealing old new before now) where
    pub sealed_held : IsHeld new now state
    sealed_held = held_so old new before now state held same.1 kept sealed.version sealed.seq sealed.rides sealed.bytes sealed.settled

    pub sealed_copied : (copy : Option Target) → IsCopied old before state copy → (old.honest → now.copied ≡ before.copied) → before.next + 2 ≤ number_end → IsCopied new now state copy
    sealed_copied None copied there left = tt
    sealed_copied (Some t) copied there left = record {
      holds = subst (λ (r : Bool). Holds state.profile (version_of_frames r 2) state.seq t.bytes state.documents state.marks) (sym sealed.rides) copied.holds;
      within = copied.within;
      copied = λ honest works. subst (BeginsWith (take t.standing t.bytes)) (sym (there (same.1 honest))) (copied.copied (same.1 honest) sealed.worked);
      numbered = subst (λ (n : ℕ). n < number_end) (sym sealed.next) (below_end before.rides before.next left);
    }

    pub sealed_stored : (copy : Option Target) → IsCopied old before state copy → (old.honest → now.copied ≡ before.copied) → before.next + 2 ≤ number_end → IsStored new now state copy
    sealed_stored copy copied there left = record { held = sealed_held; copied = sealed_copied copy copied there left }

    pub sealed_is : account_of now state ≡ account_of before state
    sealed_is = λ i. record {
      state = state;
      used = sealed.used i;
      half = sealed.half i;
      rides = sealed.rides i;
      opens = sealed.opens i;
      identity = sealed.identity i;
      sectors = sealed.sectors i;
      broken = (sealed.works ∙ sym sealed.worked) i;
      copy = None;
    }

-- ---- its commit and its run

pub seal_passed : {D : Type 0} (disk : D → Disk) (x y : StoreView D) (r : Result (Unit {0}) Refusal) → SealAnswers x.account r y.account → OnOk r (Made (disk x.device) (disk y.device) (seal_calls x.account.rides x.account.used))
    → IsStandingAs (disk y.device) y.account → OnOk r (PassedCommit disk x.device y.device (to_seal x.account))
seal_passed disk x y (Err r) is made stands = tt
seal_passed disk x y (Ok done) is made stands = record {
  passed = made;
  leaves = λ honest image left. subst (λ (b : Account). EndsWith [] (extent_of b) image) is.new_is
      (ends_somehow (extent_of y.account) image (stands honest (ap (λ (a : Account). a.broken) is.new_is ∙ is.works) image (subst (λ (b : Account). (model b.rides (disk y.device)).left image) (sym is.new_is) left)));
}

pub seal_why : (a b : Account) (r : Result (Unit {0}) Refusal) → SealAnswers a r b → IfErr r (λ q. (q ≡ plain DEVICE) ⊎ (q.number ≢ DEVICE))
seal_why a b (Ok done) is = tt
seal_why a b (Err r) (inl hit) = inl hit.0
seal_why a b (Err r) (inr kept) = inr (stops_own a r kept.0)

module _ {D : Type 0} (disk : D → Disk) (coherent : AreCoherent disk) (x y : StoreView D) (stands : IsStanding (disk x.device) x.account) (same : (disk x.device).honest ↔ (disk y.device).honest) where
  abbrev Moments : Type 0
  Moments = (disk x.device).honest → x.account.broken ≡ false → LeavesOnly (model x.account.rides (disk x.device)) (model x.account.rides (disk y.device)) (StandsAfter x.account.state [])

  unmoved : y.device ≡ x.device → Moments
  unmoved is honest works = subst (λ (d : D). LeavesOnly (model x.account.rides (disk x.device)) (model x.account.rides (disk d)) (StandsAfter x.account.state [])) (sym is) (stays (disk x.device) x.account [] (coherent x.account.rides x.device) stands honest works)

  pub ran_seal : (r : Result (Unit {0}) Refusal) → SealAnswers x.account r y.account → AreMade disk x.device (commits_of r (to_seal x.account) y.account) y.device → IfErr r (λ q. q.number ≢ DEVICE → y ≡ x)
      → OnOk r Moments → IfErr r (λ q. q.number ≡ DEVICE → Moments) → Ran disk x y (seal ∷ []) (reply_of (λ done. Sealed) r ∷ [])
  ran_seal (Ok done) is made unchanged moments moments_err = record {
    commits = commits_of (Ok done) (to_seal x.account) y.account;
    run = one_done x.account y.account (seal ∷ []) (Sealed ∷ []) (commits_of (Ok done) (to_seal x.account) y.account) (a_seal x.account y.account (Ok done) is);
    made = made;
    lasts = lasts_unchanged disk coherent x y same (λ broken. (let contrary = sym is.works ∙ broken in absurd (cc contrary))) (ap (λ (a : Account). a.state) is.new_is) (ap (λ (a : Account). a.rides) is.new_is) moments;
  }
  ran_seal (Err r) (inl hit) made unchanged moments moments_err = record {
    commits = commits_of {A = Unit {0}} (Err r) (to_seal x.account) y.account;
    run = one_done x.account y.account (seal ∷ []) (Refused r ∷ []) (commits_of {A = Unit {0}} (Err r) (to_seal x.account) y.account) (a_seal x.account y.account (Err r) (inl hit));
    made = made;
    lasts = lasts_unchanged disk coherent x y same (λ broken. (let contrary = sym hit.1.works ∙ broken in absurd (cc contrary))) (ap (λ (a : Account). a.state) hit.1.new_is) (ap (λ (a : Account). a.rides) hit.1.new_is) (moments_err (ap (λ (q : Refusal). q.number) hit.0));
  }
  ran_seal (Err r) (inr kept) made unchanged moments moments_err =
      let is = unchanged (stops_own x.account r kept.0) in
      record {
        commits = commits_of {A = Unit {0}} (Err r) (to_seal x.account) y.account;
        run = one_done x.account y.account (seal ∷ []) (Refused r ∷ []) (commits_of {A = Unit {0}} (Err r) (to_seal x.account) y.account) (a_seal x.account y.account (Err r) (inr kept));
        made = made;
        lasts = lasts_unchanged disk coherent x y same (λ broken. is) (ap (λ (v : StoreView D). v.account.state) is) (ap (λ (v : StoreView D). v.account.rides) is) (unmoved (ap (λ (v : StoreView D). v.device) is));
      }
