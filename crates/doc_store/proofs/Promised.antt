-- Runs and lives keep the promise.
use Rattle.std.proofs.Common.{◌≡◌, ◌≤◌, List, [], ◌∷◌, ◌++◌, length, length-take, map, take, drop, take-append-drop, refl, sym, ◌∙◌, ap, subst, arith, Bool, true, false, Option, Some, None}
use Rattle.std.proofs.lemmas.List.{append_assoc, append-nil, length-append}
use Rattle.std.proofs.Math.Seq.{take-append_seam}
use Rattle.sector_device.specs.Disk.{Disk, Image, LeavesOnly}
use Rattle.sector_device.proofs.Moments.{joined, leaves_weaker}
use Rattle.store_journal.specs.Models.{model}
use Rattle.doc_changes.specs.State.{State}
use Rattle.doc_machine.specs.Transaction.{Transaction}
use Rattle.store_commits.specs.Images.{Stands}
use Rattle.store_commits.specs.Account.{Account, StoreView}
use Rattle.store_commits.specs.Batch.{Commit}
use Rattle.store_commits.specs.Folds.{after_each, StandsAfter}
use Rattle.store_commits.specs.Run.{Event, IsRun, Lasts, Ran, dones_of, hits_of}
use Rattle.store_commits.specs.declared.event.Reply.{Reply}
use Rattle.doc_store.specs.Lives.{IsLife, IsLives, IsOpened, events_of, replies_of}
use Rattle.doc_store.specs.Promise.{Ledger, begun, state_of, Happening, accepts, answers, crashes, Crashed, History, happened, all_happened, LivesKeep, IsLeftOf, KeepsPromise}
use Rattle.doc_store.specs.declared.life.Life.{Life}
use Rattle.doc_store.specs.declared.life.Part.{Part}
use Rattle.store_commits.proofs.Changes.{after_append}
use Rattle.store_commits.proofs.Went.{AllAccepted, run_went}

-- ---- histories

pub history_append : (l m n : Ledger) (hs more : List Happening) → History l hs m → History m more n → History l (hs ++ more) n
history_append l m n [] more first second = subst (λ (k : Ledger). History k more n) first second
history_append l m n (h ∷ hs) more first second = (first.0, first.1, history_append first.0 m n hs more first.2 second)

-- they are counted one after another
accepted_history : (l : Ledger) (ts : List Transaction) → AllAccepted (state_of l) ts → History l (map accepts ts) (record l { counted = l.counted ++ ts })
accepted_history l [] all = ap (λ (c : List Transaction). record l { counted = c }) (append-nil l.counted)
accepted_history l (t ∷ ts) all =
    let mid : Ledger = record l { counted = l.counted ++ t ∷ [] } in
    let more = accepted_history mid ts (subst (λ (s : State). AllAccepted s ts) (sym (after_append l.begins l.counted (t ∷ []))) all.1) in
    (mid, (all.0, refl), subst (λ (c : List Transaction). History mid (map accepts ts) (record l { counted = c })) (append_assoc l.counted (t ∷ []) ts) more)

-- done and answered as that, and then hit
told_history : (l : Ledger) (ds hs : List Transaction) → AllAccepted (state_of l) ds → AllAccepted (after_each (state_of l) ds) hs
    → History l (map accepts ds ++ answers ∷ map accepts hs) (record l { counted = (l.counted ++ ds) ++ hs; lasting = length (l.counted ++ ds) })
told_history l ds hs first second =
    let done : Ledger = record l { counted = l.counted ++ ds } in
    let answered : Ledger = record l { counted = l.counted ++ ds; lasting = length (l.counted ++ ds) } in
    let after : AllAccepted (state_of answered) hs = subst (λ (s : State). AllAccepted s hs) (sym (after_append l.begins l.counted ds)) second in
    history_append l done (record l { counted = (l.counted ++ ds) ++ hs; lasting = length (l.counted ++ ds) }) (map accepts ds) (answers ∷ map accepts hs)
    (accepted_history l ds first) (answered, refl, accepted_history answered hs after)

-- ---- runs

-- what its replies tell is a history
run_history : (l : Ledger) (a b : Account) (es : List Event) (rs : List Reply) (commits : List Commit) → a.state ≡ state_of l → IsRun a es rs commits b
    → History l (happened es rs) (record l { counted = (l.counted ++ dones_of es rs) ++ hits_of es rs; lasting = length (l.counted ++ dones_of es rs) })
run_history l a b es rs commits begins run =
    let went = run_went a b es rs commits run in
    let ds = dones_of es rs in
    let hs = hits_of es rs in
    told_history l ds hs (subst (λ (s : State). AllAccepted s ds) begins went.accepted)
    (subst (λ (s : State). AllAccepted s hs) (went.state ∙ ap (λ (s : State). after_each s ds) begins) went.in_doubt)

-- a crash may keep the first of the transactions that count
left_of : (l : Ledger) (kept lost : List Transaction) (image : Image) → kept ++ lost ≡ l.counted → l.lasting ≤ length kept → Stands (after_each l.begins kept) image → IsLeftOf l image
left_of l kept lost image parts least stands =
    (record l { counted = kept; lasting = length kept }, record { kept = kept; lost = lost; parts = parts; all_lasting = least; left = refl }, stands)

-- a call that made a run keeps the promise
-- of which nothing has to last
none_lasts : (l : Ledger) (image : Image) → IsLeftOf l image → IsLeftOf (record l { lasting = 0 }) image
none_lasts l image is = left_of (record l { lasting = 0 }) is.1.kept is.1.lost image is.1.parts (omega arith) (subst (λ (m : Ledger). Stands (state_of m) image) is.1.left is.2)

pub run_keeps : {D : Type 0} (disk : D → Disk) (x y : StoreView D) (es : List Event) (rs : List Reply) → Ran disk x y es rs → KeepsPromise disk x y (dones_of es rs) (hits_of es rs)
run_keeps disk x y es rs ran =
    let s = x.account.state in
    let ds = dones_of es rs in
    let hs = hits_of es rs in
    let lasts = ran.lasts in
    let end : Ledger = record { begins = s; counted = ds ++ hs; lasting = length ds } in
    record {
      ledger = end;
      history = run_history (begun s) x.account y.account es rs ran.commits refl ran.run;
      state = lasts.state_is ∙ ap (λ (l : List Transaction). after_each s l) (sym (take-append_seam ds hs));
      any_moment = λ honest works. leaves_weaker (model x.account.rides (disk x.device)) (model x.account.rides (disk y.device)) (StandsAfter s (ds ++ hs)) (IsLeftOf (record end { lasting = 0 }))
          (λ image stands. left_of (record end { lasting = 0 }) stands.kept stands.rest image stands.parts (omega arith) stands.stands) (lasts.any_moment honest works);
      at_end = λ honest works image left. (
          let stands = lasts.at_end honest works image left in
          let count = length-append ds stands.kept in
          left_of end (ds ++ stands.kept) stands.rest image (append_assoc ds stands.kept stands.rest ∙ ap (λ (l : List Transaction). ds ++ l) stands.parts) (omega (arith, count))
          (subst (λ (t : State). Stands t image) (ap (λ (t : State). after_each t stands.kept) lasts.state_is ∙ sym (after_append s ds stands.kept)) stands.stands)
          );
    }

-- ---- promises that go on

-- what lasts is among what counts
accepts_within : (l m : Ledger) (ts : List Transaction) → History l (map accepts ts) m → l.lasting ≤ length l.counted → m.lasting ≤ length m.counted
accepts_within l m [] is within = subst (λ (x : Ledger). x.lasting ≤ length x.counted) (sym is) within
accepts_within l m (t ∷ ts) is within = accepts_within is.0 m ts is.2
    (subst (λ (x : Ledger). x.lasting ≤ length x.counted) (sym is.1.1) (let more = length-append l.counted (t ∷ []) in omega (arith, more, within)))

told_within : (l m : Ledger) (ds hs : List Transaction) → History l (map accepts ds ++ answers ∷ map accepts hs) m → m.lasting ≤ length m.counted
told_within l m [] hs is = accepts_within is.0 m hs is.2 (subst (λ (x : Ledger). x.lasting ≤ length x.counted) (sym is.1) (omega arith))
told_within l m (d ∷ ds) hs is = told_within is.0 m ds hs is.2

none_first : {X : Type 0} (xs ys : List X) → xs ++ ys ≡ [] → xs ≡ []
none_first [] ys none = refl
none_first (x ∷ xs) ys none = absurd (cc none)

-- of a run that accepts nothing, the state
stands_last : (l : Ledger) (s : State) (image : Image) → s ≡ after_each l.begins (take l.lasting l.counted) → l.lasting ≤ length l.counted → StandsAfter s [] image → IsLeftOf l image
stands_last l s image is within stands =
    let none = none_first stands.kept stands.rest stands.parts in
    let state : after_each s stands.kept ≡ after_each l.begins (take l.lasting l.counted) = ap (after_each s) none ∙ is in
    let count = length-take l.lasting l.counted in
    left_of l (take l.lasting l.counted) (drop l.lasting l.counted) image (take-append-drop l.lasting l.counted) (omega (arith, count, within)) (subst (λ (t : State). Stands t image) state stands.stands)

-- a run that accepts nothing keeps what was promised before it
module _ {D : Type 0} (disk : D → Disk) (x y z : StoreView D) (done hit : List Transaction) (kept : KeepsPromise disk x y done hit) (honest_on : (disk x.device).honest → (disk y.device).honest) (rides_is : y.account.rides ≡ x.account.rides)
    (lasts : Lasts disk y z [] []) where
  abbrev rides : Bool
  rides = x.account.rides

  abbrev unlasting : Ledger
  unlasting = record kept.ledger { lasting = 0 }

  within : kept.ledger.lasting ≤ length kept.ledger.counted
  within = told_within (begun x.account.state) kept.ledger done hit kept.history

  moments_by : (b : Bool) → y.account.broken ≡ b → (disk x.device).honest → x.account.broken ≡ false → LeavesOnly (model rides (disk x.device)) (model rides (disk z.device)) (IsLeftOf unlasting)
  moments_by true broken honest works =
      subst (λ (v : StoreView D). LeavesOnly (model rides (disk x.device)) (model rides (disk v.device)) (IsLeftOf unlasting)) (sym (lasts.still broken).0) (kept.any_moment honest works)
  moments_by false working honest works =
      joined (model rides (disk x.device)) (model rides (disk y.device)) (model rides (disk z.device)) (IsLeftOf unlasting) (kept.any_moment honest works)
      (leaves_weaker (model rides (disk y.device)) (model rides (disk z.device)) (StandsAfter y.account.state []) (IsLeftOf unlasting)
      (λ image stands. none_lasts kept.ledger image (stands_last kept.ledger y.account.state image kept.state within stands))
      (subst (λ (r : Bool). LeavesOnly (model r (disk y.device)) (model r (disk z.device)) (StandsAfter y.account.state [])) rides_is (lasts.any_moment (honest_on honest) working)))

  end_by : (b : Bool) → y.account.broken ≡ b → (disk x.device).honest → x.account.broken ≡ false → (image : Image) → (model rides (disk z.device)).left image → IsLeftOf kept.ledger image
  end_by true broken honest works image left = kept.at_end honest works image (subst (λ (v : StoreView D). (model rides (disk v.device)).left image) (lasts.still broken).0 left)
  end_by false working honest works image left =
      stands_last kept.ledger z.account.state image (lasts.state_is ∙ kept.state) within
      (lasts.at_end (honest_on honest) working image (subst (λ (r : Bool). (model r (disk z.device)).left image) (sym rides_is) left))

  pub promise_goes_on : KeepsPromise disk x z done hit
  promise_goes_on = record {
    ledger = kept.ledger;
    history = kept.history;
    state = lasts.state_is ∙ kept.state;
    any_moment = moments_by y.account.broken refl;
    at_end = end_by y.account.broken refl;
  }

-- ---- lives

-- what an opened life leaves of a ledger, with the transactions that its crash kept
abbrev kept_by : Ledger → List Transaction → Ledger
kept_by l ts = record l { counted = l.counted ++ ts; lasting = length (l.counted ++ ts) }

opened_history : (l : Ledger) (first last : Account) (es : List Event) (part : Part) (t : State)
    (is : IsOpened first last (state_of l) es part t) → History l (happened es (replies_of part) ++ crashes ∷ []) (kept_by l is.kept_ones)
opened_history l first last es part t is =
    let rs = replies_of part in
    let ds = dones_of es rs in
    let told : Ledger = record l { counted = (l.counted ++ ds) ++ hits_of es rs; lasting = length (l.counted ++ ds) } in
    let crashed : Crashed told (kept_by l is.kept_ones) = record {
      kept = l.counted ++ is.kept_ones;
      lost = is.lost;
      parts = append_assoc l.counted is.kept_ones is.lost ∙ ap (λ (c : List Transaction). l.counted ++ c) (is.parts ∙ is.accepted_are) ∙ sym (append_assoc l.counted ds (hits_of es rs));
      all_lasting = (let done = length-append l.counted ds in let after = length-append l.counted is.kept_ones in
          let least = is.at_least in let acknowledged = is.acknowledged_are in omega (arith, done, after, least, acknowledged));
      left = refl;
    } in
    history_append l told (kept_by l is.kept_ones) (happened es rs) (crashes ∷ []) (run_history l first last es rs is.commits is.begins is.run) (kept_by l is.kept_ones, crashed, refl)

-- one that was not opened leaves all that counts
happened_none : (es : List Event) → happened es [] ≡ answers ∷ []
happened_none [] = refl
happened_none (e ∷ es) = refl

unopened_history : (l : Ledger) (es : List Event) (rs : List Reply) → rs ≡ [] → History l (happened es rs ++ crashes ∷ []) (record l { lasting = length l.counted })
unopened_history l es rs none =
    let end : Ledger = record l { lasting = length l.counted } in
    let crashed : Crashed end end = record { kept = l.counted; lost = []; parts = append-nil l.counted; all_lasting = omega arith; left = refl } in
    subst (λ (hs : List Happening). History l (hs ++ crashes ∷ []) end) (sym (ap (happened es) none ∙ happened_none es)) (end, refl, (end, crashed, refl))

-- one or the other
life_history : (l : Ledger) (life : Life) (part : Part) (accounts : Option (Account × Account)) (t : State) → IsLife accounts (state_of l) (events_of life) part t
    → (m : Ledger) × History l (happened (events_of life) (replies_of part) ++ crashes ∷ []) m × (t ≡ state_of m)
life_history l life part (Some a) t is = (kept_by l is.kept_ones, opened_history l a.0 a.1 (events_of life) part t is, is.leaves ∙ sym (after_append l.begins l.counted is.kept_ones))
life_history l life part None t is = (record l { lasting = length l.counted }, unopened_history l (events_of life) (replies_of part) is.0.replies, is.1)

-- lives from any ledger that makes the state with which they begin
lives_history : (l : Ledger) (lives : List Life) (parts : List Part) (t : State) → IsLives (state_of l) lives parts t
    → (m : Ledger) × History l (all_happened lives parts) m × (t ≡ state_of m)
lives_history l [] [] t is = (l, refl, is)
lives_history l (life ∷ lives) (part ∷ parts) t is =
    let told = happened (events_of life) (replies_of part) in
    let first = life_history l life part is.1 is.0 is.2 in
    let rest = lives_history first.0 lives parts t (subst (λ (s : State). IsLives s lives parts t) first.2 is.4) in (
      rest.0,
      subst (λ (hs : List Happening). History l hs rest.0) (append_assoc told (crashes ∷ []) (all_happened lives parts))
          (history_append l first.0 rest.0 (told ++ crashes ∷ []) (all_happened lives parts) first.1 rest.1),
      rest.2,
    )
lives_history l lives parts t is = absurd is

-- lives keep the promise
pub lives_keep : (s t : State) (lives : List Life) (parts : List Part) → IsLives s lives parts t → LivesKeep s lives parts t
lives_keep s t lives parts is = let kept = lives_history (begun s) lives parts t is in record { ledger = kept.0; history = kept.1; state = kept.2 }
