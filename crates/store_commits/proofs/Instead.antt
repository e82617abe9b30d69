-- A transaction that is committed as the snapshot of the documents after it.
use Rattle.std.proofs.Common.{◌≡◌, inl, inr, ⊎_elim, ℕ, ◌+◌, List, [], ◌∷◌, length, refl, sym, ◌∙◌, ap, subst, Bool, false, Option, None}
use Rattle.sector_device.specs.Disk.{Disk, Image, LeavesOnly}
use Rattle.sector_device.proofs.Moments.{leaves_weaker}
use Rattle.sector_device.specs.Sectors.{sectors_of}
use Rattle.store_journal.specs.Calls.{Broke, Replaced}
use Rattle.store_journal.specs.Carries.{EitherCarried, replaced}
use Rattle.store_journal.specs.JournalView.{JournalView, carried_of}
use Rattle.store_journal.specs.Models.{model}
use Rattle.store_journal.specs.Writes.{switch_calls}
use Rattle.doc_machine.specs.Transaction.{Transaction, after_in}
use Rattle.doc_changes.proofs.Framed.{framed_storable}
use Rattle.doc_changes.specs.State.{Good, State}
use Rattle.store_commits.specs.Account.{Account, account_broken, extent_of, with_copy}
use Rattle.store_commits.specs.Batch.{GoesAsSnapshot, IsBatch, Slot, as_snapshot, as_snapshot_in_doubt, failed, passed, replies_done, replies_in_doubt, to_replace, waits}
use Rattle.store_commits.specs.Copying.{Target, copy_of}
use Rattle.store_commits.specs.Folds.{StandsAfter, all_changes}
use Rattle.store_commits.specs.Images.{Holds, profile_in, version_of_frames}
use Rattle.store_commits.specs.Inside.{AnswersPart, AreGoodEach, IsHeld, IsReplaced, IsStored, account_of}
use Rattle.store_commits.specs.Replacing.{account_after}
use Rattle.store_commits.specs.Snapshot.{RemakesAll, account_with_snapshot, snapshot_bytes}
use Rattle.store_commits.proofs.Changes.{good_end, profile_each, seq_counts}
use Rattle.store_commits.proofs.Extents.{broken_as, either_as, ending_as}
use Rattle.store_commits.proofs.Migrating.{snapshot_holds}
use Rattle.store_commits.proofs.Modelled.{AreCoherent}
use Rattle.store_commits.proofs.Moves.{Moved, done_answered, in_doubt_answered}
use Rattle.store_commits.proofs.Snapshots.{remakes_all}
use Rattle.store_commits.proofs.Standing.{broke_is, held_broke, held_by, stands_by, stands_now}

module _ {D : Type 0} (disk : D → Disk) (coherent : AreCoherent disk) (before : JournalView D) (state : State) (copy : Option Target) (works : before.broken ≡ false) (stored : IsStored (disk before.device) before state copy)
    (t : Transaction) (good : AreGoodEach state (t ∷ [])) (goes : GoesAsSnapshot (with_copy (account_of before state) (copy_of copy)) t) where
  abbrev d : Account
  d = with_copy (account_of before state) (copy_of copy)

  abbrev slots : List Slot
  slots = waits t ∷ []

  abbrev made : Account
  made = account_with_snapshot (account_after d t)

  abbrev target : List ℕ
  target = snapshot_bytes before.rides (after_in state t).documents (after_in state t).marks

  abbrev adds : ℕ
  adds = length (all_changes (t ∷ []))

  abbrev calls : ℕ
  calls = sectors_of (length target) + switch_calls before.rides (length target)

  good_then : Good (after_in state t)
  good_then = good_end state (t ∷ []) good

  remakes : RemakesAll (after_in state t)
  remakes = remakes_all framed_storable (after_in state t) good_then

  seq_then : before.seq + adds ≡ (after_in state t).seq
  seq_then = ap (λ (n : ℕ). n + adds) stored.held.seq ∙ sym (seq_counts state (t ∷ []))

  profile_then : profile_in before.rides ≡ (after_in state t).profile
  profile_then = stored.held.profile ∙ sym (profile_each state (t ∷ []))

  holds : Holds (after_in state t).profile (version_of_frames before.rides 2) (after_in state t).seq target (after_in state t).documents (after_in state t).marks
  holds = snapshot_holds before.rides (after_in state t) (after_in state t).seq refl profile_then remakes

  -- the bytes before it, or the target in the other half
  either_stands : (disk before.device).honest → (image : Image) → EitherCarried (carried_of before) (replaced (carried_of before) target adds) image → StandsAfter state (t ∷ []) image
  either_stands honest image (inl carries) = stands_now state (t ∷ []) image (stands_by state (carried_of before) stored.held.version stored.held.seq stored.held.profile (stored.held.held honest) image carries)
  either_stands honest image (inr carries) = record {
    kept = t ∷ [];
    rest = [];
    parts = refl;
    stands = stands_by (after_in state t) (replaced (carried_of before) target adds) stored.held.version seq_then profile_then holds image carries;
  }

  module _ (now : JournalView D) (fine : Bool) (is : IsReplaced disk before now target adds fine) where
    moments : (disk before.device).honest → LeavesOnly (model before.rides (disk before.device)) (model before.rides (disk now.device)) (StandsAfter state (t ∷ []))
    moments honest = leaves_weaker (model before.rides (disk before.device)) (model before.rides (disk now.device)) (EitherCarried (carried_of before) (replaced (carried_of before) target adds)) (StandsAfter state (t ∷ [])) (either_stands honest) (is.any_moment honest)

    -- ---- it succeeded

    module _ (ok : Replaced (disk before.device) (disk now.device) before now target adds calls) where
      held_then : IsHeld (disk now.device) now (after_in state t)
      held_then = record {
        kept = is.kept;
        version = ok.version ∙ stored.held.version;
        settled = ok.settled;
        seq = ok.seq ∙ seq_then;
        profile = ap profile_in ok.rides ∙ profile_then;
        good = good_then;
        held = λ honest. held_by before now (after_in state t) ok.rides target (ok.bytes (is.honest.1 honest)) holds;
      }

      account_then : account_of now (after_in state t) ≡ made
      account_then = λ i. record { state = after_in state t; used = ok.used i; half = ok.half i; rides = ok.rides i; opens = ok.opens i; identity = ok.identity i; sectors = ok.sectors i; broken = (ok.works ∙ sym works) i; copy = None }

      moved_done : Moved disk before state now None (t ∷ []) [] (passed (to_replace d t) ∷ [])
      moved_done = record {
        stored = record { held = held_then; copied = tt };
        honest = is.honest;
        rides = ok.rides;
        any_moment = moments;
        made = (
          now.device,
          record {
            passed = ok.made;
            leaves = ending_as (disk now.device) now (after_in state t) (coherent now.rides now.device) held_then ok.works [] target (λ honest. ok.bytes (is.honest.1 honest)) made (ap extent_of account_then);
          },
          refl,
        );
      }

      pub instead_done : (left : List Transaction) → AnswersPart disk before state copy slots left made now None (replies_done state.seq slots)
      instead_done left = done_answered disk coherent before state copy works now slots (passed (to_replace d t) ∷ []) left made None moved_done ok.works account_then (record { paired = refl; dones_are = refl; hits_are = refl })
          (λ qs rest last batch. as_snapshot d last t left qs rest goes (subst (λ (x : Account). IsBatch x left qs rest last) account_then batch))

    -- ---- the device failed

    module _ (broke : Broke (disk before.device) (disk now.device) calls before now) where
      new_is : account_of now state ≡ account_broken d
      new_is = broke_is (disk before.device) (disk now.device) before now state calls broke

      moved_hit : Moved disk before state now None [] (t ∷ []) (failed (to_replace d t) (account_of now state) ∷ [])
      moved_hit = record {
        stored = record { held = held_broke (disk before.device) (disk now.device) before now state calls broke stored.held is.honest is.kept; copied = tt };
        honest = is.honest;
        rides = broke.stays.rides;
        any_moment = moments;
        made = (
          now.device,
          record {
            failed = broke.failed;
            leaves = λ honest image left. ⊎_elim (λ old. inl (broken_as d (account_of now state) image new_is old)) (λ new. inr new)
                (either_as disk coherent before now state stored.held is.honest is.kept broke.stays.sectors (replaced (carried_of before) target adds) (extent_of made) (λ _. holds) refl refl refl seq_then refl refl profile_then refl refl [] target refl
                is.any_moment honest image (subst (λ (r : Bool). (model r (disk now.device)).left image) broke.stays.rides left));
          },
          refl,
        );
      }

      pub instead_hit : (left : List Transaction) (b : Account) → AnswersPart disk before state copy slots left b now None (replies_in_doubt slots)
      instead_hit left b = in_doubt_answered disk coherent before state copy works now slots (failed (to_replace d t) (account_broken d) ∷ []) left b
          (subst (λ (x : Account). Moved disk before state now None [] (t ∷ []) (failed (to_replace d t) x ∷ [])) new_is moved_hit) broke.broken t [] refl (record { paired = refl; dones_are = refl; hits_are = refl })
          (λ qs rest last batch. as_snapshot_in_doubt d last t left qs rest goes (subst (λ (x : Account). IsBatch x left qs rest last) new_is batch))
