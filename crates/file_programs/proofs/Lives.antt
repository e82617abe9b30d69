-- From one process to the next.
use Rattle.std.proofs.Common.{inl, inr, ⊎_elim, List, [], ◌++◌, refl, subst}
use Rattle.sector_device.specs.Disk.{Image}
use Rattle.doc_machine.specs.Transaction.{Transaction}
use Rattle.doc_changes.specs.State.{State}
use Rattle.store_commits.specs.Account.{Account}
use Rattle.doc_store.specs.Opening.{IsOpenedFrom}
use Rattle.store_commits.specs.Run.{dones_of, hits_of}
use Rattle.store_commits.specs.Images.{Stands, StandsForOne}
use Rattle.store_commits.specs.Folds.{StandsAfter}
use Rattle.file_programs.specs.FileLives.{OpensToAState, LeavesItsState, LeavesAState}

-- what was opened stands there
opened_stands : (image : Image) (account : Account) → IsOpenedFrom image account → Stands account.state image
opened_stands image account found = found.stands

pub opens_to : StandsForOne → OpensToAState
opens_to one state changes held opened stands is_opened honest =
    let after = stands held.value.seen.items (inl refl) in
    record {
      kept = after.kept;
      rest = after.rest;
      parts = after.parts;
      state_is = one held.value.seen.items _ _ (opened_stands held.value.seen.items opened.account (is_opened.found honest)) after.stands;
    }

pub leaves_last : LeavesItsState
leaves_last held later opened closed events replies went honest found image left = went.last honest image (found image left)

-- no change since
stands_yet : (state : State) (changes : List Transaction) (image : Image) → Stands state image → StandsAfter state changes image
stands_yet state changes image stands = record { kept = []; rest = changes; parts = refl; stands = stands }

pub leaves_some : StandsForOne → LeavesAState
leaves_some one state changes held later opened closed events replies stands went honest found image left =
    let accepted = dones_of events replies ++ hits_of events replies in
    let honest_opened = went.ran.lasts.honest.1 honest in
    ⊎_elim (λ old. ⊎_elim (λ before. inl (stands image before))
    (λ same. inr (stands_yet opened.account.state accepted image
    (subst (λ (s : State). Stands s image) (one held.value.seen.items _ _ same.1 (opened_stands held.value.seen.items opened.account (went.is_opened.found honest_opened))) same.2))) old)
    inr (went.any_moment honest image (found image left))
