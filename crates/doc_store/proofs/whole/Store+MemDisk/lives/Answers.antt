use Rattle.std.proofs.Common.{◌≡◌, inl, inr, ⊎_elim, ◌∙◌, ℕ, ◌++◌, List, length, take, drop, ap, subst, sym, arith, Bool, true, false}
use Rattle.std.proofs.lemmas.List.{append-nil, drop_all, take_all}
use Rattle.sector_device.specs.Memory.{mem_disk, mem_coherent}
use Rattle.store_journal.specs.Models.{model}
use Rattle.doc_changes.specs.State.{State}
use Rattle.doc_store.specs.Ending.{TimedIf, all_with_kept}
use Rattle.store_commits.specs.Images.{rides_for}
use Rattle.doc_store.specs.Lives.{AllStand, CrashesKeep}
use Rattle.doc_store.specs.Timed.{HasOneImage, left}
use Rattle.doc_store.specs.declared.life.Part.{Part}
use Rattle.doc_store.proofs.Crashed.{mem_here}
use Rattle.doc_store.proofs.Ending.{lives_of, timed_of}
use Rattle.doc_store.proofs.Promised.{lives_keep}
use Rattle.doc_store.proofs.Rides.{stands_rides}
use Rattle.doc_store.proofs.whole.Store+MemDisk.lives.Goals as goal

pub returns-in-Err-clause-err : goal.returns-in-Err-clause-err
returns-in-Err-clause-err c = λ s all keeps.
    let parts = c.in_ok-parts in
    let lived = parts.ensures.lived s false all (λ is. absurd (cc is)) keeps in
    let disk = parts.disk in
    let fault = c.in-Err.fault in
    record {
      parts = all_with_kept parts.parts.items lived.0.seq;
      state = lived.0;
      lived = lives_of ((mem_disk c.args.disk).failures_saturated → ⊥) (left s (mem_disk c.args.disk).seen false) (left lived.0 (mem_disk disk).seen lived.1) c.args.lives.items _ lived.2;
      before = disk;
      counts = parts.ensures.counts;
      stand = lived.3;
      why = c.in-Err.ensures.refused;
      number = ⊎_elim (λ device. inr (inl device)) (⊎_elim (λ memory. inl memory)
          (λ none. inr (inr (none.0, parts.ensures.rooms s all keeps ((mem_disk disk).seen, (mem_coherent disk tt).seen, none.1)))))
          (c.in-Err.ensures.exact lived.0 (lived.3 (mem_disk disk).seen (mem_here (rides_for lived.0.profile) disk)) tt);
    }

whole : (n : ℕ) (xs ys : List Part) → n ≡ length ys → length xs ≡ length ys → take n (xs ++ drop (length xs) ys) ≡ xs
whole n xs ys all same =
    ap (λ (zs : List Part). take n (xs ++ zs)) (drop_all (length xs) ys (omega (arith, same))) ∙ ap (take n) (append-nil xs) ∙ take_all n xs (omega (arith, all, same))

-- what the lives tell at last
lived : (c : goal.After-parts-3-1) (s : State) (settled : Bool) → AllStand (mem_disk c.args.disk) s → (settled ≡ true → HasOneImage (rides_for s.profile) (mem_disk c.args.disk)) → CrashesKeep s c.args.lives.items
    → (now : Bool) × TimedIf ((mem_disk c.args.disk).failures_saturated → ⊥) (left s (mem_disk c.args.disk).seen settled) c.args.lives.items (take c.in_ok-parts.parts.len (c.tell_kept.new.parts ++ drop (length c.tell_kept.new.parts) c.in_ok-parts.parts.items))
    (left c.in-Ok.store.account.state (mem_disk c.in_ok-parts.disk).seen now)
lived c s settled all alone keeps =
    let lived = c.in_ok-parts.ensures.lived s settled all alone keeps in
    let parts = c.in_ok-parts.parts in
    let disk = c.in_ok-parts.disk in
    let image = (mem_disk disk).seen in
    let given = left s (mem_disk c.args.disk).seen settled in
    let state = c.in-Ok.ensures.exact lived.0 (lived.3 image (mem_here (rides_for lived.0.profile) disk)) tt in
    let seq = ap (λ status. status.seq) c.status.ensures.status ∙ ap (λ (t : State). t.seq) state in
    let told : c.tell_kept.new.parts ≡ all_with_kept parts.items lived.0.seq = c.tell_kept.ensures ∙ (λ i. all_with_kept (c.deref_mut.ensures.value i) (seq i)) in
    let all_parts = whole parts.len c.tell_kept.new.parts parts.items (omega (arith, parts.ok.0)) (c.tell_kept.auto.parts ∙ ap length c.deref_mut.ensures.value) in (
      lived.1,
      rw (all_parts ∙ told, state) lived.2,
    )

-- the account is in the format of its profile
stands_rides_now : (c : goal.After-parts-3-1) → c.in-Ok.store.account.rides ≡ rides_for c.in-Ok.store.account.state.profile
stands_rides_now c =
    let found = c.in-Ok.ensures.opened.found tt in
    found.opened_as.rides_is ∙ stands_rides c.in-Ok.store.account.state (mem_disk c.in_ok-parts.disk).seen found.stands

pub returns : goal.returns
returns c =
    let disk = c.in_ok-parts.disk in
    let parts = c.in_ok-parts.parts in
    let told = take parts.len (c.tell_kept.new.parts ++ drop (length c.tell_kept.new.parts) parts.items) in
    let state = c.in-Ok.store.account.state in
    let lives = λ (s : State) (all : AllStand (mem_disk c.args.disk) s) (keeps : CrashesKeep s c.args.lives.items). (
    let is = lived c s false all (λ is. absurd (cc is)) keeps in
    lives_of ((mem_disk c.args.disk).failures_saturated → ⊥) (left s (mem_disk c.args.disk).seen false) (left state (mem_disk disk).seen is.0) c.args.lives.items told is.1
    ) in
    record {
      lives = lives;
      promise = λ s all keeps. lives_keep s state c.args.lives.items told (lives s all keeps);
      timed = λ s settled all alone keeps unsaturated. (
          let is = lived c s settled all alone keeps in
          ((mem_disk disk).seen, is.0, c.in-Ok.ensures.opened.found tt, timed_of unsaturated (left s (mem_disk c.args.disk).seen settled) (left state (mem_disk disk).seen is.0) c.args.lives.items told is.1)
          );
      works = (c.in-Ok.ensures.opened.works, c.in-Ok.ensures.opened.no_copy);
      stands = λ s all keeps image left. c.in-Ok.ensures.standing tt c.in-Ok.ensures.opened.works image (subst (λ (r : Bool). (model r (mem_disk c.in-Ok.store.device)).left image) (sym (stands_rides_now c)) left);
      err = λ s all keeps. tt;
    }
