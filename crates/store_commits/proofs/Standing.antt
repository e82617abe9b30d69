-- What the images of a store stand for while a transaction is made.
use Rattle.std.proofs.Common.{◌≡◌, ℕ, List, [], refl, sym, ◌∙◌, ap, subst, Bool, true, false, None, ◌↔◌}
use Rattle.sector_device.specs.Disk.{Disk, Image, IsCoherent, LeavesOnly}
use Rattle.sector_device.proofs.Moments.{started}
use Rattle.store_journal.specs.Calls.{Broke}
use Rattle.store_journal.specs.Carries.{Carried, Carries}
use Rattle.store_journal.specs.JournalView.{JournalView, IsKept, carried_of}
use Rattle.store_journal.specs.Models.{model}
use Rattle.doc_machine.specs.Transaction.{Transaction}
use Rattle.doc_changes.specs.State.{State}
use Rattle.store_commits.specs.Account.{Account, IsStanding, account_broken}
use Rattle.store_commits.specs.Inside.{IsHeld, account_of}
use Rattle.store_commits.specs.Images.{Holds, Stands, profile_in, version_of_frames}
use Rattle.store_commits.specs.Folds.{StandsAfter}

-- an image that carries bytes of format 2 or 3 that hold the state's documents, with its seq, stands for it
pub stands_by : (state : State) (c : Carried) → c.version ≡ 2 → c.seq ≡ state.seq → profile_in c.rides ≡ state.profile → Holds state.profile (version_of_frames c.rides 2) state.seq c.bytes state.documents state.marks → (image : Image) → Carries c image → Stands state image
stands_by state c version seq profile holds image carries = record {
  carried = c;
  carries = carries;
  seq_is = seq;
  profile_is = profile;
  holds = subst (λ (v : ℕ). Holds state.profile (version_of_frames c.rides v) c.seq c.bytes state.documents state.marks) (sym version) (subst (λ (n : ℕ). Holds state.profile (version_of_frames c.rides 2) n c.bytes state.documents state.marks) (sym seq) holds);
}

-- bytes that hold a state in the format of a journal, of another one in that format
pub held_by : {D : Type 0} (before now : JournalView D) (state : State) → now.rides ≡ before.rides → (bytes : List ℕ) → now.bytes ≡ bytes → Holds state.profile (version_of_frames before.rides 2) state.seq bytes state.documents state.marks
    → Holds state.profile (version_of_frames now.rides 2) state.seq now.bytes state.documents state.marks
held_by before now state rides bytes is holds =
    subst (λ (r : Bool). Holds state.profile (version_of_frames r 2) state.seq now.bytes state.documents state.marks) (sym rides)
    (subst (λ (l : List ℕ). Holds state.profile (version_of_frames before.rides 2) state.seq l state.documents state.marks) (sym is) holds)

-- each image of a store that works stands for its state
pub standing : {D : Type 0} (disk : Disk) (journal : JournalView D) (state : State) → IsHeld disk journal state → IsStanding disk (account_of journal state)
standing disk journal state held honest works image left =
    stands_by state (carried_of journal) held.version held.seq held.profile (held.held honest) image (held.kept.carried honest works image left)

pub stands_now : (s : State) (cs : List Transaction) (image : Image) → Stands s image → StandsAfter s cs image
stands_now s cs image stands = record { kept = []; rest = cs; parts = refl; stands = stands }

-- nothing was done to the device
pub stays : (disk : Disk) (account : Account) (cs : List Transaction) → (disk.honest → IsCoherent (model account.rides disk)) → IsStanding disk account → disk.honest → account.broken ≡ false
    → LeavesOnly (model account.rides disk) (model account.rides disk) (StandsAfter account.state cs)
stays disk account cs coherent stand honest works = started (model account.rides disk) (StandsAfter account.state cs) (coherent honest) (λ image left. stands_now account.state cs image (stand honest works image left))

-- a journal that the device broke
module _ {D : Type 0} (old new : Disk) (before now : JournalView D) (state : State) (calls : ℕ) (broke : Broke old new calls before now) where
  -- holds what it held
  pub held_broke : IsHeld old before state → (old.honest ↔ new.honest) → IsKept new now → IsHeld new now state
  held_broke held same kept = record {
    kept = kept;
    version = broke.stays.version ∙ held.version;
    settled = broke.stays.settled ∙ held.settled;
    seq = broke.stays.seq ∙ held.seq;
    profile = ap profile_in broke.stays.rides ∙ held.profile;
    good = held.good;
    held = λ honest. let h = same.1 honest in held_by before now state broke.stays.rides before.bytes (broke.stays.bytes h) (held.held h);
  }

  pub broke_is : account_of now state ≡ account_broken (account_of before state)
  broke_is = λ i. record { state = state; used = broke.stays.used i; half = broke.stays.half i; rides = broke.stays.rides i; opens = broke.stays.opens i; identity = broke.stays.identity i; sectors = broke.stays.sectors i; broken = broke.broken i; copy = None }

-- a store works, or it doesn't
pub not_both : {P : Type 0} (broken : Bool) → broken ≡ false → broken ≡ true → P
not_both broken works fails = let contrary = sym works ∙ fails in absurd (cc contrary)
