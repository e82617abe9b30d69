-- What commits make of a journal, and what a transaction's answer is made of.
use Rattle.std.proofs.Common.{Bool, ◌≡◌, List, [], ◌∷◌, ◌++◌, refl, sym, ◌∙◌, subst, true, false, Option, None, ◌↔◌}
use Rattle.std.proofs.lemmas.List.{append-nil}
use Rattle.sector_device.specs.Disk.{Disk, Image, LeavesOnly}
use Rattle.sector_device.proofs.Moments.{joined, leaves_weaker, left_now}
use Rattle.store_journal.specs.JournalView.{JournalView}
use Rattle.store_journal.specs.Models.{model}
use Rattle.doc_machine.specs.Transaction.{Transaction}
use Rattle.doc_changes.specs.State.{State}
use Rattle.store_commits.specs.Account.{Account, StoreView, with_copy}
use Rattle.store_commits.specs.Batch.{AreMade, Commit, IsBatch, Slot, asked, replies_done, replies_in_doubt, waiting}
use Rattle.store_commits.specs.Copying.{Target, copy_of}
use Rattle.store_commits.specs.Folds.{after_each, StandsAfter}
use Rattle.store_commits.specs.Inside.{IsStored, account_of, store_view, FirstCommitted, AnswersPart}
use Rattle.store_commits.specs.Run.{Lasts, Reply}
use Rattle.store_commits.proofs.Running.{made_append, widened}
use Rattle.store_commits.proofs.Slots.{Tells}
use Rattle.store_commits.proofs.Standing.{not_both, stands_now, standing, stays}
use Rattle.store_commits.proofs.Modelled.{AreCoherent}

-- By these commits the journal came to hold the state after those that were done. Each image meanwhile stands for the state after some of these, or of those in doubt.
pub record Moved {D : Type 0} (disk : D → Disk) (before : JournalView D) (state : State) (now : JournalView D) (copied : Option Target) (dones in_doubt : List Transaction) (commits : List Commit) : Type 0 where
  pub stored : IsStored (disk now.device) now (after_each state dones) copied
  pub honest : (disk before.device).honest ↔ (disk now.device).honest
  pub rides : now.rides ≡ before.rides
  pub any_moment : (disk before.device).honest → LeavesOnly (model before.rides (disk before.device)) (model before.rides (disk now.device)) (StandsAfter state (dones ++ in_doubt))
  pub made : AreMade disk before.device commits now.device

module _ {D : Type 0} (disk : D → Disk) (coherent : AreCoherent disk) (before : JournalView D) (state : State) where
  -- nothing is committed
  pub moved_nowhere : (copy : Option Target) → IsStored (disk before.device) before state copy → before.broken ≡ false → Moved disk before state before copy [] [] []
  moved_nowhere copy stored works = record {
    stored = stored;
    honest = (λ h. h, λ h. h);
    rides = refl;
    any_moment = λ honest. stays (disk before.device) (account_of before state) [] (coherent before.rides before.device) (standing (disk before.device) before state stored.held) honest works;
    made = refl;
  }

  -- these commits, and those behind them
  pub moved_both : (mid now : JournalView D) (copied more_copied : Option Target) (dones in_doubt : List Transaction) (ks ls : List Commit) → Moved disk before state mid copied [] [] ks → Moved disk mid state now more_copied dones in_doubt ls
      → Moved disk before state now more_copied dones in_doubt (ks ++ ls)
  moved_both mid now copied more_copied dones in_doubt ks ls first second = record {
    stored = second.stored;
    honest = (λ h. second.honest.0 (first.honest.0 h), λ h. first.honest.1 (second.honest.1 h));
    rides = second.rides ∙ first.rides;
    any_moment = λ honest. joined (model before.rides (disk before.device)) (model before.rides (disk mid.device)) (model before.rides (disk now.device)) (StandsAfter state (dones ++ in_doubt))
        (leaves_weaker (model before.rides (disk before.device)) (model before.rides (disk mid.device)) (StandsAfter state []) (StandsAfter state (dones ++ in_doubt)) (widened state [] (dones ++ in_doubt)) (first.any_moment honest))
        (subst (λ (r : Bool). LeavesOnly (model r (disk mid.device)) (model r (disk now.device)) (StandsAfter state (dones ++ in_doubt))) first.rides (second.any_moment (first.honest.0 honest)));
    made = made_append disk before.device mid.device now.device ks ls first.made second.made;
  }

  -- ---- the answer

  module _ (copy : Option Target) (works : before.broken ≡ false) (now : JournalView D) (copied : Option Target) (slots : List Slot) (rs : List Reply) (told : FirstCommitted before.broken now.broken slots)
      (in_doubt : List Transaction) (commits : List Commit) (moved : Moved disk before state now copied (waiting told.first) in_doubt commits) (none : now.broken ≡ false → in_doubt ≡ []) (undone : now.broken ≡ true → waiting told.first ≡ []) where
    abbrev dones : List Transaction
    dones = waiting told.first

    abbrev old : StoreView D
    old = store_view before state copy

    abbrev new : StoreView D
    new = store_view now (after_each state dones) copied

    end_by : (broken : Bool) → now.broken ≡ broken → (disk before.device).honest → (image : Image) → (model before.rides (disk now.device)).left image → StandsAfter (after_each state dones) in_doubt image
    end_by false fine honest image left = stands_now (after_each state dones) in_doubt image (standing (disk now.device) now (after_each state dones) moved.stored.held (moved.honest.0 honest) fine image (subst (λ (r : Bool). (model r (disk now.device)).left image) (sym moved.rides) left))
    end_by true broken honest image left =
        subst (λ (ts : List Transaction). StandsAfter (after_each state ts) in_doubt image) (sym (undone broken))
        (subst (λ (ts : List Transaction). StandsAfter state (ts ++ in_doubt) image) (undone broken)
        (left_now (model before.rides (disk before.device)) (model before.rides (disk now.device)) (StandsAfter state (dones ++ in_doubt)) (coherent before.rides now.device (moved.honest.0 honest)) (moved.any_moment honest) image left))

    answered_by : (left : List Transaction) (b : Account) → Tells (asked slots) rs dones in_doubt → (now.broken ≡ false → new.account ≡ b)
        → ((qs : List Reply) (more : List Commit) (end : Account) → IsBatch new.account left qs more end → IsBatch old.account (asked slots ++ left) (rs ++ qs) (commits ++ more) end)
        → AnswersPart disk before state copy slots left b now copied rs
    answered_by left b tells account goes = record {
      told = told;
      stored = moved.stored;
      account = account;
      went = record {
        commits = commits;
        goes = goes;
        made = moved.made;
        paired = tells.paired;
        lasts = subst (λ (p : List Transaction × List Transaction). Lasts disk old new p.0 p.1) (λ i. (tells.dones_are i, tells.hits_are i)) (record {
          state_is = refl;
          none_in_doubt = none;
          rides_is = moved.rides;
          honest = moved.honest;
          any_moment = λ honest fine. moved.any_moment honest;
          at_end = λ honest fine. end_by now.broken refl honest;
          still = λ fails. not_both before.broken works fails;
        });
      };
    }

  module _ (copy : Option Target) (works : before.broken ≡ false) (now : JournalView D) (slots : List Slot) (commits : List Commit) (left : List Transaction) (b : Account) where
    abbrev a : Account
    a = with_copy (account_of before state) (copy_of copy)

    -- all that wait are committed
    pub done_answered : (copied : Option Target) → Moved disk before state now copied (waiting slots) [] commits → now.broken ≡ false → with_copy (account_of now (after_each state (waiting slots))) (copy_of copied) ≡ b
        → Tells (asked slots) (replies_done state.seq slots) (waiting slots) []
        → ((qs : List Reply) (more : List Commit) (end : Account) → IsBatch (with_copy (account_of now (after_each state (waiting slots))) (copy_of copied)) left qs more end
        → IsBatch a (asked slots ++ left) (replies_done state.seq slots ++ qs) (commits ++ more) end)
        → AnswersPart disk before state copy slots left b now copied (replies_done state.seq slots)
    done_answered copied moved fine account tells goes =
        let told : FirstCommitted before.broken now.broken slots = record {
          first = slots;
          lost = [];
          parts = append-nil slots;
          none_lost = λ _. refl;
          none_first = λ fails. not_both before.broken works fails;
        } in
        answered_by copy works now copied slots (replies_done state.seq slots) told [] commits moved (λ _. refl) (λ broken. not_both now.broken fine broken) left b tells (λ _. account) goes

    -- a fault hits their commit
    pub in_doubt_answered : Moved disk before state now None [] (waiting slots) commits → now.broken ≡ true → (t : Transaction) (others : List Transaction) → waiting slots ≡ t ∷ others
        → Tells (asked slots) (replies_in_doubt slots) [] (waiting slots)
        → ((qs : List Reply) (more : List Commit) (end : Account) → IsBatch (account_of now state) left qs more end → IsBatch a (asked slots ++ left) (replies_in_doubt slots ++ qs) (commits ++ more) end)
        → AnswersPart disk before state copy slots left b now None (replies_in_doubt slots)
    in_doubt_answered moved broken t others some tells goes =
        let told : FirstCommitted before.broken now.broken slots = record {
          first = [];
          lost = slots;
          parts = refl;
          none_lost = λ fine. not_both now.broken fine broken;
          none_first = λ _. refl;
        } in
        answered_by copy works now None slots (replies_in_doubt slots) told (waiting slots) commits moved (λ fine. not_both now.broken fine broken) (λ _. refl) left b tells (λ fine. not_both now.broken fine broken) goes
