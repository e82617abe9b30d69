-- What a crash leaves after the commits of a life, and the calls that a fuse lets through.
use Rattle.std.proofs.Common.{Bool, ◌≡◌, ◌⊎◌, inl, inr, ⊎_elim, ℕ, ◌+◌, ◌-◌, ◌<◌, ◌≤◌, List, [], ◌∷◌, length, refl, sym, ◌∙◌, ap, subst, arith, true, false, Option, Some}
use Rattle.sector_device.specs.Charges.{Made, Failed, IsShort, less}
use Rattle.sector_device.specs.Disk.{Disk, Image, AtLeast}
use Rattle.store_journal.specs.Carries.{Carries, EitherCarried, Carried, NamesBlocks}
use Rattle.store_journal.specs.Models.{model}
use Rattle.doc_changes.specs.State.{State}
use Rattle.store_commits.specs.Account.{Account, StoreView, IsStandingAs, Extent, StandsAs, extent_of}
use Rattle.store_commits.specs.Batch.{AreMade, Commit, failed, passed}
use Rattle.store_commits.specs.Images.{Stands}
use Rattle.store_commits.specs.Run.{Event, Ran, dones_of, hits_of}
use Rattle.store_commits.specs.declared.event.Reply.{Reply}
use Rattle.doc_store.specs.Ending.{HasSpent}
use Rattle.doc_store.specs.Opening.{IsOpenedFrom, carried_after, opening_cost, LacksRoom}
use Rattle.doc_store.specs.Timed.{AreInTime, HasOneImage, IsLate, IsLeftBy, IsTimely, Left, left}
use Rattle.store_commits.proofs.Went.{Stop, Went, has_failed, run_went}
use Rattle.store_journal.proofs.Unique.{carries_one}
use Rattle.doc_store.proofs.Rides.{AreOf, run_rides}

-- all that is left is in format 2, and needs no room
pub in_format_2 : (l : Extent) (image : Image) → StandsAs l image → LacksRoom image → ⊥
in_format_2 l image stands lacks =
    let now : Carried = record { version = 2; rides = l.rides; half = l.half; bytes = stands.bytes; seq = l.state.seq; opens = stands.opens; identity = l.identity } in
    let same : lacks.stands.carried ≡ now = carries_one image lacks.stands.carried now lacks.stands.carries stands.carries in
    let contrary : 1 ≡ 2 = sym lacks.version_is ∙ ap (λ (c : Carried). c.version) same in
    absurd (omega (arith, contrary))

pub left_has_room : (commits : List Commit) (last : Account) (image : Image) → IsLeftBy commits last image → LacksRoom image → ⊥
left_has_room [] last image stands = in_format_2 (extent_of last) image stands
left_has_room (passed k ∷ commits) last image stands = left_has_room commits last image stands
left_has_room (failed k kept ∷ commits) last image (inl stands) = in_format_2 (extent_of kept) image stands
left_has_room (failed k kept ∷ commits) last image (inr stands) = in_format_2 (extent_of k.made) image stands

-- calls that were made were passed
spends : (stop spent calls : ℕ) (old new : Disk) → HasSpent stop spent old → Made old new calls → HasSpent stop (spent + calls) new
spends stop spent calls old new has made =
    let enough : calls ≤ stop - spent = subst (λ (p : Option ℕ). AtLeast calls p) has.calls_left made.passed in
    let left : (stop - spent) - calls ≡ stop - (spent + calls) = omega arith in
    record {
      calls_left = made.calls_left ∙ ap (less calls) has.calls_left ∙ ap Some left;
      within = omega (arith, enough, has.within);
      unsaturated = λ saturated. has.unsaturated (made.failures_saturated.1 saturated);
    }

-- where one failed, there were too few, or a fault was counted
short : (stop spent calls : ℕ) (old new : Disk) → HasSpent stop spent old → Failed old new calls → (stop < spent + calls) ⊎ (old.own_failures < new.own_failures)
short stop spent calls old new has hit =
    ⊎_elim (λ few. let less_left : stop - spent < calls = subst (λ (p : Option ℕ). IsShort calls p) has.calls_left few in inl (omega (arith, less_left, has.within)))
    (⊎_elim (λ more. inr more) (λ saturated. absurd (has.unsaturated saturated))) hit.own_failures

-- ---- commits

module _ {D : Type 0} (disk : D → Disk) where
  abbrev faults_of : D → ℕ
  faults_of d = (disk d).own_failures

  -- none follows one that failed
  last_made : (commits : List Commit) (mid end : D) → commits ≡ [] → AreMade disk mid commits end → end ≡ mid
  last_made commits mid end none made = subst (λ (ks : List Commit). AreMade disk mid ks end) none made

  -- what a crash leaves
  left_by : (commits : List Commit) (old new : D) (last : Account) → Stop commits → AreOf last.rides commits → AreMade disk old commits new → (has_failed commits ≡ false → last.broken ≡ false) → IsStandingAs (disk new) last
      → (disk new).honest → (image : Image) → (model last.rides (disk new)).left image → IsLeftBy commits last image
  left_by [] old new last stop of made works stands honest image is_left = stands honest (works refl) image is_left
  left_by (passed k ∷ commits) old new last stop of made works stands honest image is_left = left_by commits made.0 new last stop of made.2 works stands honest image is_left
  left_by (failed k kept ∷ commits) old new last stop of made works stands honest image is_left =
      let here = subst (λ (r : Bool). (model r (disk new)).left image) (sym of.0) is_left in
      let same = last_made commits made.0 new stop made.2 in
      ⊎_elim (λ old. inl old) (λ new. inr new.stands) (made.1.leaves (subst (λ (d : D). (disk d).honest) same honest) image (subst (λ (d : D). (model kept.rides (disk d)).left image) same here))

  -- the disk itself had no fault if all passed
  same_faults : (commits : List Commit) (old new : D) → has_failed commits ≡ false → AreMade disk old commits new → faults_of new ≡ faults_of old
  same_faults [] old new none made = ap faults_of made
  same_faults (passed k ∷ commits) old new none made = same_faults commits made.0 new none made.2 ∙ made.1.passed.own_failures
  same_faults (failed k kept ∷ commits) old new none made = absurd (cc none)

  in_time : (stop faults spent : ℕ) (commits : List Commit) (old new : D) → Stop commits → AreMade disk old commits new → (faults ≡ 0 → faults_of new ≤ faults_of old) → HasSpent stop spent (disk old) → AreInTime stop faults spent commits
  in_time stop faults spent [] old new stops made few has = tt
  in_time stop faults spent (passed k ∷ commits) old new stops made few has =
      let after = spends stop spent k.calls (disk old) (disk made.0) has made.1.passed in
      let same = made.1.passed.own_failures in (
        after.within,
        in_time stop faults (spent + k.calls) commits made.0 new stops made.2 (λ none. let least = few none in omega (arith, least, same)) after,
      )
  in_time stop faults spent (failed k kept ∷ commits) old new stops made few has =
      let same = ap faults_of (last_made commits made.0 new stops made.2) in (
        (λ none. ⊎_elim (λ past. past) (λ more. let least = few none in omega (arith, least, more, same)) (short stop spent k.calls (disk old) (disk made.0) has made.1.failed)),
        stops,
      )

  -- a run, of a store that worked
  module _ (start end : StoreView D) (es : List Event) (rs : List Reply) (ran : Ran disk start end es rs) (works : start.account.broken ≡ false) where
    abbrev went : Went start.account end.account ran.commits (dones_of es rs) (hits_of es rs)
    went = run_went start.account end.account es rs ran.commits ran.run

    abbrev rides : (end.account.rides ≡ start.account.rides) × AreOf start.account.rides ran.commits
    rides = run_rides start.account end.account es rs ran.commits ran.run

    pub run_leaves : IsStandingAs (disk end.device) end.account → (disk end.device).honest → (image : Image) → (model end.account.rides (disk end.device)).left image → IsLeftBy ran.commits end.account image
    run_leaves = left_by ran.commits start.device end.device end.account went.stop (subst (λ (r : Bool). AreOf r ran.commits) (sym rides.0) rides.1) ran.made (λ none. went.works none works)

    pub none_failed : end.account.broken ≡ false → has_failed ran.commits ≡ false
    none_failed fine = by (has_failed ran.commits) refl
      where
        by : (b : Bool) → has_failed ran.commits ≡ b → has_failed ran.commits ≡ false
        by false is = is
        by true is = let both = sym fine ∙ went.broke is in absurd (cc both)

-- an opening and events, through a fuse of so many calls
pub timely_from : {D : Type 0} (disk : D → Disk) (given : D) (start end : StoreView D) (stop : ℕ) (es : List Event) (rs : List Reply) → start.account.broken ≡ false → IsStandingAs (disk end.device) end.account
    → (found : IsOpenedFrom (disk given).seen start.account) (blocks : ℕ) → NamesBlocks found.stands.carried blocks (disk given).seen → start.account.sectors ≡ length (disk given).seen → Made (disk given) (disk start.device) (opening_cost found.stands.carried start.account.state blocks)
    → Ran disk start end es rs → (s : State) (settled : Bool) (t : Left) → t.settled ≡ true → (disk end.device).honest → (model end.account.rides (disk end.device)).left t.image → HasSpent stop 0 (disk given)
    → IsTimely (left s (disk given).seen settled) stop ((disk end.device).own_failures - (disk given).own_failures) es rs start.account end.account t
timely_from {D} disk given start end stop es rs works stands found blocks names sectors made ran s settled t settles honest is_left has =
    let opening = opening_cost found.stands.carried start.account.state blocks in
    let begun = spends stop 0 opening (disk given) (disk start.device) has made in
    let begun_is : HasSpent stop opening (disk start.device) = subst (λ (n : ℕ). HasSpent stop n (disk start.device)) (let n : 0 + opening ≡ opening = omega arith in n) begun in
    let opened = made.own_failures in
    record {
      found = found;
      sectors = sectors;
      blocks = blocks;
      names = names;
      within = begun_is.within;
      commits = ran.commits;
      run = ran.run;
      timely = in_time disk stop ((disk end.device).own_failures - (disk given).own_failures) opening ran.commits start.device end.device (run_went start.account end.account es rs ran.commits ran.run).stop ran.made
          (λ none. omega (arith, none, opened)) begun_is;
      none = λ fine. (let same = same_faults disk ran.commits start.device end.device (none_failed disk start end es rs ran works fine) ran.made in omega (arith, same, opened));
      leaves = run_leaves disk start end es rs ran works stands honest t.image is_left;
      settles = settles;
    }

-- an opening that failed, through such a fuse
pub late_from : (rides : Bool) (given after : Disk) (stop : ℕ) (s : State) (stands : Stands s given.seen) → ((blocks : ℕ) → NamesBlocks stands.carried blocks given.seen → Failed given after (opening_cost stands.carried s blocks)) → (settled : Bool) (t : Left)
    → (settled ≡ true → HasOneImage rides given) → t.settled ≡ true → (model rides given).left t.image ⊎ EitherCarried stands.carried (carried_after stands.carried s) t.image → length t.image ≡ length given.seen → HasSpent stop 0 given → IsLate (left s given.seen settled) stop (after.own_failures - given.own_failures) t
late_from rides given after stop s stands hit settled t alone settles leaves sized has =
    record {
      stands = stands;
      late = λ none blocks names. ⊎_elim (λ past. omega (arith, past)) (λ more. omega (arith, more, none)) (short stop 0 (opening_cost stands.carried s blocks) given after has (hit blocks names));
      sectors = sized;
      leaves = λ is. ⊎_elim (λ old. inl (subst (λ (image : Image). Carries stands.carried image) (sym (alone is t.image old)) stands.carries)) (λ other. other) leaves;
      settles = settles;
    }
