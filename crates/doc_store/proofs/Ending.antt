-- What a life leaves, and what its part tells of what the crash kept.
use Rattle.std.proofs.Common.{◌≡◌, ◌⊎◌, inl, inr, ⊎_elim, ℕ, ◌+◌, ◌-◌, List, [], ◌∷◌, ◌++◌, length, refl, sym, ◌∙◌, ap, subst, arith, Bool, true, false, Some, None, if◌then◌else◌, ◌<◌, take, drop, get_or, set}
use Rattle.std.proofs.lemmas.List.{append_assoc, length-append, drop_more, drop-set, take_more, take-set}
use Rattle.sector_device.specs.Disk.{Disk, Image, IsCoherent, IsTearing, LeavesOnly}
use Rattle.sector_device.specs.Charges.{Failed}
use Rattle.sector_device.proofs.Charges.{failed_more}
use Rattle.sector_device.proofs.Moments.{left_now}
use Rattle.store_journal.specs.Layout.{capacity_of}
use Rattle.store_journal.specs.Carries.{Carried, Carries, EitherCarried, NamesBlocks}
use Rattle.store_journal.specs.Models.{model, weak}
use Rattle.store_journal.specs.Opening.{load_calls}
use Rattle.doc_machine.specs.Transaction.{Transaction}
use Rattle.doc_changes.specs.State.{State}
use Rattle.store_commits.specs.Account.{StoreView}
use Rattle.store_commits.specs.Folds.{after_each}
use Rattle.store_commits.specs.Run.{dones_of, hits_of}
use Rattle.doc_store.specs.Opening.{LacksRoom, OldOrStands, OpenFailed, carried_after, opening_cost}
use Rattle.store_commits.specs.Snapshot.{snapshot_bytes}
use Rattle.store_commits.specs.Images.{Stands, rides_for}
use Rattle.doc_store.specs.Ending.{HasSpent, Leaves, TimedIf, all_with_kept, began_or, next_of, with_kept, Told}
use Rattle.doc_store.specs.Opening.{MayLackRoom}
use Rattle.doc_store.specs.Lives.{IsLives, IsOpened, TellsNothing, accepted_of, events_of, replies_of}
use Rattle.doc_store.specs.Timed.{IsLate, IsTimely, Left, Timed, left}
use Rattle.doc_store.specs.declared.life.Life.{Life}
use Rattle.doc_store.specs.declared.life.Part.{Part}
use Rattle.store_commits.proofs.Changes.{after_append, seq_counts}
use Rattle.store_commits.proofs.Modelled.{model_sectors}
use Rattle.doc_store.proofs.Opened.{one_carried, one_state, after_version, carried_format}
use Rattle.doc_store.proofs.Rides.{model_adds, riding_version, stands_rides}

-- with each image that is left an opened life leaves what the image stands for
pub leaves_opened : {D : Type 0} (disk : D → Disk) (given : Disk) (start end : StoreView D) (faults : ℕ) (settled : Bool) (s : State) (life : Life) (p : Part) (began : ℕ) → Told disk start end (events_of life) p
    → (disk start.device).honest → start.account.broken ≡ false → start.account.copy ≡ None → start.account.state ≡ s → began ≡ s.seq → (image : Image) → (model start.account.rides (disk end.device)).left image
    → ((t : State) → HasSpent life.stop 0 given → IsTimely (left s given.seen settled) life.stop faults (events_of life) (replies_of p) start.account end.account (left t image true))
    → Leaves given (left s given.seen settled) life (record p { opened = true; kept = began; disk_faults = faults }) image
leaves_opened disk given start end faults settled s life p began told honest works no_copy begins began_is image left_so timely =
    let events = events_of life in
    let dones = dones_of events (replies_of p) in
    let hits = hits_of events (replies_of p) in
    let lasts = told.ran.lasts in
    let stands = lasts.at_end honest works image left_so in
    let kept = dones ++ stands.kept in
    let now = after_each end.account.state stands.kept in
    let parts : accepted_of p ≡ kept ++ stands.rest = told.accepted ∙ ap (λ (l : List Transaction). dones ++ l) (sym stands.parts) ∙ sym (append_assoc dones stands.kept stands.rest) in
    let count = length-append dones stands.kept in
    let acknowledged = told.acknowledged in
    let state : now ≡ after_each s kept =
    ap (λ (x : State). after_each x stands.kept) (lasts.state_is ∙ ap (λ (x : State). after_each x dones) begins) ∙ sym (after_append s dones stands.kept) in
    let seq = ap (λ (x : State). x.seq) state ∙ seq_counts s kept in
    let opened : IsOpened start.account end.account s events (record p { opened = true; kept = now.seq - began; disk_faults = faults }) now = record {
      opened = refl;
      begins = begins;
      works = works;
      no_copy = no_copy;
      commits = told.ran.commits;
      run = told.ran.run;
      accepted_are = told.accepted;
      acknowledged_are = told.acknowledged;
      kept_ones = kept;
      lost = stands.rest;
      parts = sym parts;
      at_least = omega (arith, acknowledged, count);
      counted = omega (arith, seq, began_is);
      leaves = state;
    } in
    record { state = now; lived = (left now image true, Some (start.account, end.account), opened, timely now, refl); began = began_is; stands = stands.stands }

-- where the opening failed, an image was there before, or it stands for the state too, and carries what was read, or what the opening makes of it
unopened_in : (old new : Disk) (s : State) (stands : Stands s old.seen) → IsCoherent new → LeavesOnly old new (OldOrStands old)
    → (image : Image) → new.left image → old.left image ⊎ (Stands s image × EitherCarried stands.carried (carried_after stands.carried s) image)
unopened_in old new s stands new_coherent leaves image left =
    ⊎_elim (λ was. inl was)
    (λ other. (
    let read_is : other.1.carried ≡ stands.carried = one_carried old.seen other.0 s other.1 stands in
    let state_is : other.0 ≡ s = one_state old.seen other.0 s other.1 stands in
    let carries = λ (c : Carried) (is : other.2.carried ≡ c). subst (λ (d : Carried). Carries d image) is other.2.carries in
    inr (
      subst (λ (x : State). Stands x image) state_is other.2,
      ⊎_elim (λ same. inl (carries stands.carried (same ∙ read_is)))
          (λ after. inr (carries (carried_after stands.carried s) (after ∙ (λ i. carried_after (read_is i) (state_is i))))) other.3,
    )
    ))
    (left_now old new (OldOrStands old) new_coherent leaves image left)

pub unopened : (rides : Bool) (old new : Disk) (s : State) (stands : Stands s old.seen) → IsCoherent (model rides new) → LeavesOnly (model rides old) (model rides new) (OldOrStands (model rides old))
    → (image : Image) → (model rides new).left image → (model rides old).left image ⊎ (Stands s image × EitherCarried stands.carried (carried_after stands.carried s) image)
unopened false old new s stands coherent leaves image left = unopened_in old new s stands coherent leaves image left
unopened true old new s stands coherent leaves image left = unopened_in (weak old) (weak new) s stands coherent leaves image left

-- a fault hit one of at most the calls that open what it stands for
pub failed_to_open : (old new : Disk) (s : State) (stands : Stands s old.seen) → OpenFailed old new → new.honest → (blocks : ℕ) → NamesBlocks stands.carried blocks old.seen → Failed old new (opening_cost stands.carried s blocks)
failed_to_open old new s stands failed honest blocks names =
    ⊎_elim (λ early. failed_more old new (load_calls stands.carried.rides (length stands.carried.bytes) blocks) (opening_cost stands.carried s blocks) (omega arith) early)
    (λ late. subst (λ (t : State). Failed old new (opening_cost stands.carried t blocks)) (one_state old.seen late.0 s late.1 stands) late.3)
    (failed.few honest stands.carried blocks stands.carries names)

-- in as many sectors
pub sized_unopened : (rides : Bool) (old new : Disk) → IsCoherent old → IsCoherent (model rides new) → new.sectors ≡ old.sectors → (image : Image) → (model rides new).left image → length image ≡ length old.seen
sized_unopened rides old new old_coherent new_coherent same image left = (new_coherent.shape image left).count ∙ model_sectors rides new ∙ same ∙ sym (old_coherent.shape old.seen old_coherent.seen).count

-- a half that lacks room lacked it before
rooms_in_2 : (old new : Disk) → IsCoherent old → IsCoherent new → new.sectors ≡ old.sectors → LeavesOnly old new (OldOrStands old) → MayLackRoom new → MayLackRoom old
rooms_in_2 old new old_coherent new_coherent same leaves lacks =
    ⊎_elim (λ was. (lacks.0, was, lacks.2))
    (λ other. (
    let image = lacks.0 in
    let lack = lacks.2 in
    let c_is : lack.stands.carried ≡ other.2.carried = one_carried image lack.state other.0 lack.stands other.2 in
    let s_is : lack.state ≡ other.0 = one_state image lack.state other.0 lack.stands other.2 in
    let one : other.2.carried.version ≡ 1 = sym (ap (λ (c : Carried). c.version) c_is) ∙ lack.version_is in
    let snapshot_is = ap (λ (s : State). length (snapshot_bytes false s.documents s.marks)) s_is in
    let size = ap (capacity_of false) (sized_unopened false old new old_coherent new_coherent same image lacks.1) in
    let over = lack.over in (
      old.seen,
      old_coherent.seen,
      record {
        state = other.0;
        stands = other.1;
        version_is = ⊎_elim (λ same. sym (ap (λ (c : Carried). c.version) same) ∙ one)
            (λ after. (let two = sym (ap (λ (c : Carried). c.version) after) ∙ one in let is = after_version other.1.carried other.0 (carried_format other.1.carried old.seen other.1.carries) in absurd (omega (arith, two, is)))) other.3;
        over = omega (arith, over, size, snapshot_is);
      },
    )
    ))
    (left_now old new (OldOrStands old) new_coherent leaves lacks.0 lacks.1)

-- in format 3 none lacks it
pub riding_has_room : (s : State) (image : Image) → rides_for s.profile ≡ true → Stands s image → LacksRoom image → ⊥
riding_has_room s image rides stands lack =
    let two = riding_version stands.carried image (stands_rides s image stands ∙ rides) stands.carries in
    let same = ap (λ (c : Carried). c.version) (one_carried image lack.state s lack.stands stands) in
    let one = lack.version_is in
    omega (arith, one, same, two)

pub rooms_unopened : (rides : Bool) (old new : Disk) (s : State) → rides_for s.profile ≡ rides → IsCoherent old → ((r : Bool) → IsCoherent (model r new)) → ((torn : List ℕ → Bool) → IsTearing torn new) → new.sectors ≡ old.sectors
    → LeavesOnly (model rides old) (model rides new) (OldOrStands (model rides old)) → ((image : Image) → (model rides old).left image → Stands s image) → Stands s old.seen → MayLackRoom new → MayLackRoom old
rooms_unopened false old new s is old_coherent new_coherent tears same leaves all here lacks = rooms_in_2 old new old_coherent (new_coherent false) same leaves lacks
rooms_unopened true old new s is old_coherent new_coherent tears same leaves all here lacks =
    let stands = ⊎_elim (all lacks.0) (λ other. other.0) (unopened true old new s here (new_coherent true) leaves lacks.0 (model_adds true new tears lacks.0 lacks.1)) in
    absurd (riding_has_room s lacks.0 is stands lacks.2)

pub leaves_unopened : (given : Disk) (faults : ℕ) (settled : Bool) (s : State) (life : Life) (part : Part) (image : Image) → TellsNothing part
    → (HasSpent life.stop 0 given → IsLate (left s given.seen settled) life.stop faults (left s image true)) → Stands s image → Leaves given (left s given.seen settled) life (record part { disk_faults = faults }) image
leaves_unopened given faults settled s life part image nothing late stands =
    let told : TellsNothing (with_kept (record part { disk_faults = faults }) s.seq) = record {
      opened = nothing.opened;
      replies = nothing.replies;
      accepted = nothing.accepted;
      acknowledged = nothing.acknowledged;
      kept = ap (λ (b : Bool). if b then s.seq - part.kept else part.kept) nothing.opened ∙ nothing.kept;
    } in
    record { state = s; lived = (left s image true, None, (told, refl), late, refl); began = ap (λ (b : Bool). if b then part.kept else s.seq) nothing.opened; stands = stands }

-- ---- lives one after another

-- and one more behind them
pub lives_more : {so now : Type 0} → (so → now) → (s t u : Left) (lives : List Life) (parts : List Part) (life : Life) (part : Part)
    → TimedIf so s lives parts t → TimedIf now t (life ∷ []) (part ∷ []) u → TimedIf so s (lives ++ life ∷ []) (parts ++ part ∷ []) u
lives_more {so} {now} gives s t u [] [] life part are is = let one = subst (λ (x : Left). TimedIf now x (life ∷ []) (part ∷ []) u) are is in (one.0, one.1, one.2, λ yes. one.3 (gives yes), one.4)
lives_more gives s t u (l ∷ ls) (p ∷ ps) life part are is = (are.0, are.1, are.2, are.3, lives_more gives are.0 t u ls ps life part are.4 is)
lives_more gives s t u lives parts life part are is = absurd are

-- by what they tell
pub lives_of : (so : Type 0) (s t : Left) (lives : List Life) (parts : List Part) → TimedIf so s lives parts t → IsLives s.state lives parts t.state
lives_of so s t [] [] are = ap (λ (l : Left). l.state) are
lives_of so s t (l ∷ ls) (p ∷ ps) are = (are.0.state, are.1, are.2, tt, lives_of so are.0 t ls ps are.4)
lives_of so s t lives parts are = absurd are

-- and by the clock
pub timed_of : {so : Type 0} → so → (s t : Left) (lives : List Life) (parts : List Part) → TimedIf so s lives parts t → Timed s lives parts t
timed_of is s t [] [] are = are
timed_of is s t (l ∷ ls) (p ∷ ps) are = (are.0, are.1, are.2, are.3 is, timed_of is are.0 t ls ps are.4)
timed_of is s t lives parts are = absurd are

-- ---- what the crashes kept is told by the openings behind them

-- the last part is told first
next_append : (parts : List Part) (part : Part) (last : ℕ) → next_of (parts ++ part ∷ []) last ≡ next_of parts (began_or part last)
next_append [] part last = refl
next_append (p ∷ parts) part last = ap (began_or p) (next_append parts part last)

pub kept_append : (parts : List Part) (part : Part) (last : ℕ) → all_with_kept (parts ++ part ∷ []) last ≡ all_with_kept parts (began_or part last) ++ with_kept part last ∷ []
kept_append [] part last = refl
kept_append (p ∷ parts) part last = λ i. with_kept p (next_append parts part last i) ∷ kept_append parts part last i

-- from the last part on
module _ (parts all : List Part) (next i k : ℕ) (d : Part) (one_less : i ≡ k + 1) (lt : k < length parts) (told : all_with_kept (take i parts) next ++ drop i parts ≡ all) where
  abbrev this : Part
  this = get_or parts k d

  this_told : all_with_kept (take k parts) (began_or this next) ++ with_kept this next ∷ drop (k + 1) parts ≡ all
  this_told =
      sym (append_assoc (all_with_kept (take k parts) (began_or this next)) (with_kept this next ∷ []) (drop (k + 1) parts))
      ∙ ap (λ (l : List Part). l ++ drop (k + 1) parts) (sym (ap (λ (l : List Part). all_with_kept l next) (take_more parts k d lt) ∙ kept_append (take k parts) this next))
      ∙ ap (λ (n : ℕ). all_with_kept (take n parts) next ++ drop n parts) (sym one_less) ∙ told

  told_by : (b : Bool) → this.opened ≡ b → all_with_kept (take k parts) (if b then this.kept else next) ++ record this { kept = if b then next - this.kept else this.kept } ∷ drop (k + 1) parts ≡ all
  told_by b is = subst (λ (x : Bool). all_with_kept (take k parts) (if x then this.kept else next) ++ record this { kept = if x then next - this.kept else this.kept } ∷ drop (k + 1) parts ≡ all) is this_told

  -- it was opened: it tells what was kept
  pub told_opened : (q : Part) (began : ℕ) → this.opened ≡ true → began ≡ this.kept → q ≡ record this { kept = next - began } → all_with_kept (take k (set parts k q)) began ++ drop k (set parts k q) ≡ all
  told_opened q began was_opened began_is is = rw (take-set parts k q, drop-set parts k q lt, is, began_is) (told_by true was_opened)

  -- it was not
  pub told_unopened : this.opened ≡ false → all_with_kept (take k parts) next ++ drop k parts ≡ all
  told_unopened was_not = rw (drop_more parts k d lt) (told_by false was_not)
