-- What lasts of transactions one after another, and runs that go on.
use Rattle.std.proofs.Common.{◌≡◌, ◌⊎◌, inl, inr, ℕ, List, [], ◌∷◌, ◌++◌, length, length-append, suc, ◌+◌, refl, sym, ◌∙◌, ap, subst, true, false, Bool, ◌↔◌, arith}
use Rattle.std.proofs.lemmas.List.{append_assoc, append-nil}
use Rattle.sector_device.specs.Disk.{Disk, Image, LeavesOnly}
use Rattle.sector_device.proofs.Moments.{joined, leaves_weaker, left_now}
use Rattle.store_journal.specs.Models.{model}
use Rattle.doc_machine.specs.Transaction.{Transaction, changes_of}
use Rattle.doc_changes.specs.State.{State}
use Rattle.store_commits.specs.Folds.{after_each, StandsAfter}
use Rattle.store_commits.specs.Images.{Stands}
use Rattle.store_commits.specs.Account.{Account, StoreView, IsStanding, account_broken}
use Rattle.store_commits.specs.Batch.{AreMade, Commit, IsBatch, as_snapshot, as_snapshot_in_doubt, behind_in_doubt, commit_in_doubt, commit_made, failed, is_full, no_more, passed, room_in_doubt, room_made, stays_broken, Slot, waits, said, asked, changes, replies_done, replies_in_doubt}
use Rattle.store_commits.specs.Events.{Event, Reply, change, done_by, hit_by, dones_of, hits_of}
use Rattle.store_commits.specs.Copying.{IsPumped}
use Rattle.store_commits.specs.Replacing.{account_after}
use Rattle.store_commits.specs.Snapshot.{account_with_snapshot}
use Rattle.store_commits.specs.declared.pump.Pump.{Pump}
use Rattle.store_commits.specs.Run.{IsDone, IsRun, Lasts, Ran, a_batch, a_seal, a_snapshot, a_step, no_memory, nothing, one_more}
use Rattle.store_commits.proofs.Changes.{after_append}
use Rattle.store_commits.proofs.Slots.{swap}
use Rattle.store_commits.proofs.Standing.{not_both, stays}
use Rattle.store_commits.proofs.Modelled.{AreCoherent}

-- ---- lists

none_front : {X : Type 0} (xs ys : List X) → xs ++ ys ≡ [] → xs ≡ []
none_front [] ys none = refl
none_front (x ∷ xs) ys none = absurd (cc none)

none_behind : {X : Type 0} (xs ys : List X) → xs ++ ys ≡ [] → ys ≡ []
none_behind [] ys none = none
none_behind (x ∷ xs) ys none = absurd (cc none)

pub changes_append : (ts us : List Transaction) → changes (ts ++ us) ≡ changes ts ++ changes us
changes_append [] us = refl
changes_append (t ∷ ts) us = ap (λ (l : List Event). change t ∷ l) (changes_append ts us)

pub changes_length : (ts : List Transaction) → length (changes ts) ≡ length ts
changes_length [] = refl
changes_length (t ∷ ts) = ap suc (changes_length ts)

pub dones_append : (es fs : List Event) (rs qs : List Reply) → length es ≡ length rs → dones_of (es ++ fs) (rs ++ qs) ≡ dones_of es rs ++ dones_of fs qs
dones_append [] fs [] qs same = refl
dones_append (e ∷ es) fs (r ∷ rs) qs same =
    ap (λ (l : List Transaction). done_by e r ++ l) (dones_append es fs rs qs (omega (arith, same))) ∙ sym (append_assoc (done_by e r) (dones_of es rs) (dones_of fs qs))
dones_append es fs rs qs same = absurd (let none : ⊥ = omega (arith, same) in none)

pub hits_append : (es fs : List Event) (rs qs : List Reply) → length es ≡ length rs → hits_of (es ++ fs) (rs ++ qs) ≡ hits_of es rs ++ hits_of fs qs
hits_append [] fs [] qs same = refl
hits_append (e ∷ es) fs (r ∷ rs) qs same =
    ap (λ (l : List Transaction). hit_by e r ++ l) (hits_append es fs rs qs (omega (arith, same))) ∙ sym (append_assoc (hit_by e r) (hits_of es rs) (hits_of fs qs))
hits_append es fs rs qs same = absurd (let none : ⊥ = omega (arith, same) in none)

-- what more changes might have left
pub widened : (s : State) (cs more : List Transaction) (image : Image) → StandsAfter s cs image → StandsAfter s (cs ++ more) image
widened s cs more image stands = record {
  kept = stands.kept;
  rest = stands.rest ++ more;
  parts = sym (append_assoc stands.kept stands.rest more) ∙ ap (λ (l : List Transaction). l ++ more) stands.parts;
  stands = stands.stands;
}

-- and behind those that were done
pub shifted : (s t : State) (dones cs : List Transaction) (image : Image) → t ≡ after_each s dones → StandsAfter t cs image → StandsAfter s (dones ++ cs) image
shifted s t dones cs image is stands = record {
  kept = dones ++ stands.kept;
  rest = stands.rest;
  parts = append_assoc dones stands.kept stands.rest ∙ ap (λ (l : List Transaction). dones ++ l) stands.parts;
  stands = subst (λ (u : State). Stands u image) (ap (λ (u : State). after_each u stands.kept) is ∙ sym (after_append s dones stands.kept)) stands.stands;
}

-- ---- one snapshot, and one step of a copy

pub pumped_state : (a b : Account) (most : ℕ) (p : Pump) → IsPumped a most p b → b.state ≡ a.state
pumped_state a b most p (inl is) = ap (λ (x : Account). x.state) is.1.new_is
pumped_state a b most p (inr (inl is)) = ap (λ (x : Account). x.state) is.new_is
pumped_state a b most p (inr (inr is)) = ap (λ (x : Account). x.state) is.new_is

pub pumped_works : (a b : Account) (most : ℕ) (p : Pump) → IsPumped a most p b → a.broken ≡ false
pumped_works a b most p (inl is) = is.1.works
pumped_works a b most p (inr (inl is)) = is.can.works
pumped_works a b most p (inr (inr is)) = is.can.works

-- ---- what lasts

module _ {D : Type 0} (disk : D → Disk) (coherent : AreCoherent disk) where
  -- no transaction is done, and none is in doubt
  pub lasts_unchanged : (old new : StoreView D) → (disk old.device).honest ↔ (disk new.device).honest → (old.account.broken ≡ true → new ≡ old) → new.account.state ≡ old.account.state → new.account.rides ≡ old.account.rides
      → ((disk old.device).honest → old.account.broken ≡ false → LeavesOnly (model old.account.rides (disk old.device)) (model old.account.rides (disk new.device)) (StandsAfter old.account.state [])) → Lasts disk old new [] []
  lasts_unchanged old new same still state rides leaves = record {
    state_is = state;
    none_in_doubt = λ works. refl;
    rides_is = rides;
    honest = same;
    any_moment = leaves;
    at_end = λ honest works image left. subst (λ (s : State). StandsAfter s [] image) (sym state)
        (left_now (model old.account.rides (disk old.device)) (model old.account.rides (disk new.device)) (StandsAfter old.account.state []) (coherent old.account.rides new.device (same.0 honest)) (leaves honest works) image left);
    still = λ broken. (still broken, refl);
  }

  pub lasts_nothing : (x : StoreView D) → IsStanding (disk x.device) x.account → Lasts disk x x [] []
  lasts_nothing x standing = lasts_unchanged x x (λ h. h, λ h. h) (λ broken. refl) refl refl (stays (disk x.device) x.account [] (coherent x.account.rides x.device) standing)

  -- these and those
  module _ (x y z : StoreView D) (dones more_dones in_doubt more_in_doubt : List Transaction) (first : Lasts disk x y dones in_doubt) (second : Lasts disk y z more_dones more_in_doubt) where
    -- the first broke the store: the second did nothing
    no_more_dones : y.account.broken ≡ true → more_dones ≡ []
    no_more_dones broken = none_front more_dones more_in_doubt (second.still broken).1

    no_more_hits : y.account.broken ≡ true → more_in_doubt ≡ []
    no_more_hits broken = none_behind more_dones more_in_doubt (second.still broken).1

    -- none of the first are in doubt, or none of the second are done
    apart : (b : Bool) → y.account.broken ≡ b → (in_doubt ≡ []) ⊎ (more_dones ≡ [])
    apart true is = inr (no_more_dones is)
    apart false is = inl (first.none_in_doubt is)

    abbrev rides : Bool
    rides = x.account.rides

    abbrev each : List Transaction
    each = (dones ++ in_doubt) ++ (more_dones ++ more_in_doubt)

    front : (disk x.device).honest → x.account.broken ≡ false → LeavesOnly (model rides (disk x.device)) (model rides (disk y.device)) (StandsAfter x.account.state each)
    front honest works = leaves_weaker (model rides (disk x.device)) (model rides (disk y.device)) (StandsAfter x.account.state (dones ++ in_doubt)) (StandsAfter x.account.state each)
        (widened x.account.state (dones ++ in_doubt) (more_dones ++ more_in_doubt)) (first.any_moment honest works)

    moments_by : (b : Bool) → y.account.broken ≡ b → (disk x.device).honest → x.account.broken ≡ false → LeavesOnly (model rides (disk x.device)) (model rides (disk z.device)) (StandsAfter x.account.state each)
    moments_by true is honest works = subst (λ (v : StoreView D). LeavesOnly (model rides (disk x.device)) (model rides (disk v.device)) (StandsAfter x.account.state each)) (sym (second.still is).0) (front honest works)
    moments_by false is honest works =
        let none : dones ≡ dones ++ in_doubt = sym (append-nil dones) ∙ ap (λ (l : List Transaction). dones ++ l) (sym (first.none_in_doubt is)) in
        joined (model rides (disk x.device)) (model rides (disk y.device)) (model rides (disk z.device)) (StandsAfter x.account.state each) (front honest works)
        (leaves_weaker (model rides (disk y.device)) (model rides (disk z.device)) (StandsAfter y.account.state (more_dones ++ more_in_doubt)) (StandsAfter x.account.state each)
        (λ image stands. subst (λ (l : List Transaction). StandsAfter x.account.state (l ++ (more_dones ++ more_in_doubt)) image) none
        (shifted x.account.state y.account.state dones (more_dones ++ more_in_doubt) image first.state_is stands))
        (subst (λ (r : Bool). LeavesOnly (model r (disk y.device)) (model r (disk z.device)) (StandsAfter y.account.state (more_dones ++ more_in_doubt))) first.rides_is (second.any_moment (first.honest.0 honest) is)))

    end_by : (b : Bool) → y.account.broken ≡ b → (disk x.device).honest → x.account.broken ≡ false → (image : Image) → (model rides (disk z.device)).left image → StandsAfter z.account.state (in_doubt ++ more_in_doubt) image
    end_by true is honest works image left =
        let all : in_doubt ≡ in_doubt ++ more_in_doubt = sym (append-nil in_doubt) ∙ ap (λ (l : List Transaction). in_doubt ++ l) (sym (no_more_hits is)) in
        let same = (second.still is).0 in
        subst (λ (v : StoreView D). StandsAfter v.account.state (in_doubt ++ more_in_doubt) image) (sym same)
        (subst (λ (l : List Transaction). StandsAfter y.account.state l image) all (first.at_end honest works image (subst (λ (v : StoreView D). (model rides (disk v.device)).left image) same left)))
    end_by false is honest works image left =
        subst (λ (l : List Transaction). StandsAfter z.account.state (l ++ more_in_doubt) image) (sym (first.none_in_doubt is)) (second.at_end (first.honest.0 honest) is image (subst (λ (r : Bool). (model r (disk z.device)).left image) (sym first.rides_is) left))

    none_by : (b : Bool) → y.account.broken ≡ b → z.account.broken ≡ false → in_doubt ++ more_in_doubt ≡ []
    none_by true is works = not_both z.account.broken works (ap (λ (v : StoreView D). v.account.broken) (second.still is).0 ∙ is)
    none_by false is works = (λ i. first.none_in_doubt is i ++ second.none_in_doubt works i)

    still_both : x.account.broken ≡ true → (z ≡ x) × ((dones ++ more_dones) ++ (in_doubt ++ more_in_doubt) ≡ [])
    still_both broken =
        let is = first.still broken in
        let after = ap (λ (v : StoreView D). v.account.broken) is.0 ∙ broken in (
          (second.still after).0 ∙ is.0,
          (λ i. (none_front dones in_doubt is.1 i ++ no_more_dones after i) ++ (none_behind dones in_doubt is.1 i ++ no_more_hits after i)),
        )

    pub lasts_both : Lasts disk x z (dones ++ more_dones) (in_doubt ++ more_in_doubt)
    lasts_both = record {
      state_is = second.state_is ∙ ap (λ (s : State). after_each s more_dones) first.state_is ∙ sym (after_append x.account.state dones more_dones);
      none_in_doubt = none_by y.account.broken refl;
      rides_is = second.rides_is ∙ first.rides_is;
      honest = (λ h. second.honest.0 (first.honest.0 h), λ h. first.honest.1 (second.honest.1 h));
      any_moment = λ honest works. subst (λ (l : List Transaction). LeavesOnly (model rides (disk x.device)) (model rides (disk z.device)) (StandsAfter x.account.state l))
          (sym (swap dones in_doubt more_dones more_in_doubt (apart y.account.broken refl))) (moments_by y.account.broken refl honest works);
      at_end = end_by y.account.broken refl;
      still = still_both;
    }

  -- by the replies
  pub lasts_behind : (x y z : StoreView D) (es fs : List Event) (rs qs : List Reply) → length es ≡ length rs → Lasts disk x y (dones_of es rs) (hits_of es rs) → Lasts disk y z (dones_of fs qs) (hits_of fs qs)
      → Lasts disk x z (dones_of (es ++ fs) (rs ++ qs)) (hits_of (es ++ fs) (rs ++ qs))
  lasts_behind x y z es fs rs qs paired first second =
      let dones = sym (dones_append es fs rs qs paired) in
      let hits = sym (hits_append es fs rs qs paired) in
      subst (λ (p : List Transaction × List Transaction). Lasts disk x z p.0 p.1) (λ i. (dones i, hits i)) (lasts_both x y z (dones_of es rs) (dones_of fs qs) (hits_of es rs) (hits_of fs qs) first second)

-- ---- one reply to each

done_lengths : (seq : ℕ) (slots : List Slot) → length (asked slots) ≡ length (replies_done seq slots)
done_lengths seq [] = refl
done_lengths seq (waits t ∷ slots) = ap suc (done_lengths (seq + length (changes_of t)) slots)
done_lengths seq (said t r ∷ slots) = ap suc (done_lengths seq slots)

in_doubt_lengths : (slots : List Slot) → length (asked slots) ≡ length (replies_in_doubt slots)
in_doubt_lengths [] = refl
in_doubt_lengths (waits t ∷ slots) = ap suc (in_doubt_lengths slots)
in_doubt_lengths (said t r ∷ slots) = ap suc (in_doubt_lengths slots)

pub batch_paired : (a b : Account) (ts : List Transaction) (rs : List Reply) (commits : List Commit) → IsBatch a ts rs commits b → length ts ≡ length rs
batch_paired _ _ _ _ _ (no_more a) = refl
batch_paired _ _ _ _ _ (commit_made a b d slots ts rs more made forced rest) =
    omega (arith, length-append (replies_done a.state.seq slots) rs, length-append (asked slots) ts, done_lengths a.state.seq slots, batch_paired b d ts rs more rest)
batch_paired _ _ _ _ _ (commit_in_doubt a b d slots ts rs more hit forced rest) =
    omega (arith, length-append (replies_in_doubt slots) rs, length-append (asked slots) ts, in_doubt_lengths slots, batch_paired b d ts rs more rest)
batch_paired _ _ _ _ _ (room_made a b d t ts rs more goes made rest) = ap suc (batch_paired b d ts rs more rest)
batch_paired _ _ _ _ _ (behind_in_doubt a b d t ts rs more goes hit rest) = ap suc (batch_paired b d ts rs more rest)
batch_paired _ _ _ _ _ (room_in_doubt a d t ts rs more goes rest) = ap suc (batch_paired (account_broken a) d ts rs more rest)
batch_paired _ _ _ _ _ (as_snapshot a d t ts rs more goes rest) = ap suc (batch_paired (account_with_snapshot (account_after a t)) d ts rs more rest)
batch_paired _ _ _ _ _ (as_snapshot_in_doubt a d t ts rs more goes rest) = ap suc (batch_paired (account_broken a) d ts rs more rest)
batch_paired _ _ _ _ _ (is_full a d t ts rs more works accepted none rest) = ap suc (batch_paired a d ts rs more rest)
batch_paired _ _ _ _ _ (stays_broken a d t ts rs more broken rest) = ap suc (batch_paired a d ts rs more rest)

done_paired : (a b : Account) (es : List Event) (rs : List Reply) (commits : List Commit) → IsDone a es rs commits b → length es ≡ length rs
done_paired _ _ _ _ _ (a_batch a b ts rs commits is) = changes_length ts ∙ batch_paired a b ts rs commits is
done_paired _ _ _ _ _ (a_snapshot a b r is) = refl
done_paired _ _ _ _ _ (a_step a b most r is) = refl
done_paired _ _ _ _ _ (a_seal a b r is) = refl
done_paired _ _ _ _ _ (no_memory a t) = refl

pub run_paired : (a b : Account) (es : List Event) (rs : List Reply) (commits : List Commit) → IsRun a es rs commits b → length es ≡ length rs
run_paired _ _ _ _ _ (nothing a) = refl
run_paired _ _ _ _ _ (one_more a b d es more_es rs more_rs commits more_commits run more) =
    length-append es more_es ∙ (λ i. run_paired a b es rs commits run i + done_paired b d more_es more_rs more_commits more i) ∙ sym (length-append rs more_rs)

-- ---- runs one after another

pub one_done : (a b : Account) (es : List Event) (rs : List Reply) (commits : List Commit) → IsDone a es rs commits b → IsRun a es rs commits b
one_done a b es rs commits is = one_more a a b [] es [] rs [] commits (nothing a) is

run_append : (a b d : Account) (es fs : List Event) (rs qs : List Reply) (ks ls : List Commit) → IsRun a es rs ks b → IsRun b fs qs ls d → IsRun a (es ++ fs) (rs ++ qs) (ks ++ ls) d
run_append a _ _ es _ rs _ ks _ first (nothing b) =
    subst (λ (h : List Commit). IsRun a (es ++ []) (rs ++ []) h b) (sym (append-nil ks))
    (subst (λ (h : List Reply). IsRun a (es ++ []) h ks b) (sym (append-nil rs))
    (subst (λ (h : List Event). IsRun a h rs ks b) (sym (append-nil es)) first))
run_append a _ _ es _ rs _ ks _ first (one_more b d e fs more_fs qs more_qs ls more_ls second more) =
    subst (λ (h : List Commit). IsRun a (es ++ (fs ++ more_fs)) (rs ++ (qs ++ more_qs)) h e) (append_assoc ks ls more_ls)
    (subst (λ (h : List Reply). IsRun a (es ++ (fs ++ more_fs)) h ((ks ++ ls) ++ more_ls) e) (append_assoc rs qs more_qs)
    (subst (λ (h : List Event). IsRun a h ((rs ++ qs) ++ more_qs) ((ks ++ ls) ++ more_ls) e) (append_assoc es fs more_fs)
    (one_more a d e (es ++ fs) more_fs (rs ++ qs) more_qs (ks ++ ls) more_ls (run_append a b d es fs rs qs ks ls first second) more)))

pub made_append : {D : Type 0} (disk : D → Disk) (x y z : D) (ks ls : List Commit) → AreMade disk x ks y → AreMade disk y ls z → AreMade disk x (ks ++ ls) z
made_append {D} disk x y z [] ls first second = subst (λ (d : D). AreMade disk d ls z) first second
made_append disk x y z (passed k ∷ ks) ls first second = (first.0, first.1, made_append disk first.0 y z ks ls first.2 second)
made_append disk x y z (failed k kept ∷ ks) ls first second = (first.0, first.1, made_append disk first.0 y z ks ls first.2 second)

module _ {D : Type 0} (disk : D → Disk) (coherent : AreCoherent disk) where
  pub ran_nothing : (x : StoreView D) → IsStanding (disk x.device) x.account → Ran disk x x [] []
  ran_nothing x standing = record { commits = []; run = nothing x.account; made = refl; lasts = lasts_nothing disk coherent x standing }

  pub ran_joined : (x y z : StoreView D) (es fs : List Event) (rs qs : List Reply) → Ran disk x y es rs → Ran disk y z fs qs → Ran disk x z (es ++ fs) (rs ++ qs)
  ran_joined x y z es fs rs qs first second = record {
    commits = first.commits ++ second.commits;
    run = run_append x.account y.account z.account es fs rs qs first.commits second.commits first.run second.run;
    made = made_append disk x.device y.device z.device first.commits second.commits first.made second.made;
    lasts = lasts_behind disk coherent x y z es fs rs qs (run_paired x.account y.account es rs first.commits first.run) first.lasts second.lasts;
  }
