use Rattle.std.proofs.Common.{◌≡◌, ◌<◌, ◌∷◌, [], ℕ, List, length, ap, subst, ◌∙◌, arith, true}
use Rattle.std.proofs.lemmas.Result.{on_ok_weaker}
use Rattle.doc_changes.specs.State.{Good, State}
use Rattle.doc_machine.specs.Transaction.{transaction_of}
use Rattle.doc_machine.specs.Trial.{state_at}
use Rattle.store_commits.specs.Inside.{IsInstead}
use Rattle.store_commits.specs.Run.{Done}
use Rattle.store_commits.specs.Snapshot.{snapshot_bytes}
use Rattle.store_commits.proofs.Changes.{size_is, some_accepted}
use Rattle.store_commits.proofs.Plans.{further_behind, further_full, further_instead, nowhere, whole_back}
use Rattle.store_commits.proofs.plan.Planning.force.Goals as goal

-- the snapshot of the documents before it makes room
pub returns-then-used-self-clause-ok : goal.returns-then-used-self-clause-ok
returns-then-used-self-clause-ok c = on_ok_weaker c.alone.result (λ alone a slots is.
    let p = c.args.self.now in
    let t = c.args.trial.now in
    let asked = transaction_of c.args.transaction in
    let tried = c.in-Ok.ensures.made in
    let size = ap length c.requires.frames ∙ size_is p.rides t.state.seq asked in
    let over = c.requires.over in
    let small = c.if-used-self.true in
    let len = c.len.ensures in
    let len_frames = c.len-2.ensures in
    let ok = c.in_ok-snapshot.snapshot.ok in
    let ok_frames = c.args.frames.ok in
    let left = alone.left in
    let bytes = alone.bytes in
    further_behind a slots p t is asked tried.accepted (omega (arith, over, size)) tried.made.good (subst Good tried.made.state c.transact.ensures.good) c.alone.new.self alone.other alone.closed c.transact.new.self tried.made
    (alone.frames_are ∙ c.requires.frames) (alone.each_are ∙ ap (λ (l : List ℕ). l ∷ []) c.requires.frames) (alone.adds_is ∙ c.len-adds.ensures) (alone.replies ∙ ap (λ (n : ℕ). Done n ∷ []) tried.seq_is) (omega (arith, bytes, size))
    c.in_ok-snapshot.snapshot (c.in_ok-snapshot.ensures.frames ∙ ap (λ (s : State). snapshot_bytes p.rides s.documents s.marks) c.look.ensures.same) (omega (arith, small, len, len_frames, ok, ok_frames, size)) alone.base_is (omega (arith, left, len, len_frames, ok, ok_frames, size)))
    c.alone.ensures

-- the snapshot of those after it fits
pub returns-in-Some-clause-ok : goal.returns-in-Some-clause-ok
returns-in-Some-clause-ok c = on_ok_weaker c.alone-in-Some.result (λ alone a slots is.
    let p = c.args.self.now in
    let t = c.args.trial.now in
    let asked = transaction_of c.args.transaction in
    let tried = c.in-Ok.ensures.made in
    let size = ap length c.requires.frames ∙ size_is p.rides t.state.seq asked in
    let over = c.requires.over in
    let wide = c.if-used-self.false in
    let len = c.len.ensures in
    let len_frames = c.len-2.ensures in
    let len_after = c.len-size.ensures in
    let ok = c.in_ok-snapshot.snapshot.ok in
    let ok_frames = c.args.frames.ok in
    let found = subst (IsInstead p c.transact.new.self.state) c.in-Some.is c.in_ok-after.ensures in
    let fits = found.2 in
    let left = alone.left in
    let bytes = alone.bytes in
    further_instead a slots p t is asked tried.accepted (omega (arith, over, size)) tried.made.good (subst Good tried.made.state c.transact.ensures.good) c.alone-in-Some.new.self alone.other alone.closed c.transact.new.self tried.made
    (alone.frames_are ∙ c.requires.frames) (alone.each_are ∙ ap (λ (l : List ℕ). l ∷ []) c.requires.frames) (alone.adds_is ∙ c.len-adds.ensures) (alone.replies ∙ ap (λ (n : ℕ). Done n ∷ []) tried.seq_is) (omega (arith, bytes, size))
    c.in-Some.after found.1 found.0 fits alone.base_is (omega (arith, left, len_after, fits))
    (nowhere a slots p t is asked tried.accepted (omega (arith, over, size)) tried.made.good (subst Good tried.made.state c.transact.ensures.good) c.alone-in-Some.new.self alone.other alone.closed
    c.in_ok-snapshot.snapshot.items (c.in_ok-snapshot.ensures.frames ∙ ap (λ (s : State). snapshot_bytes p.rides s.documents s.marks) c.look.ensures.same) (omega (arith, wide, len, len_frames, ok, ok_frames, size))))
    c.alone-in-Some.ensures

-- nothing has room: it is taken back
pub returns-clause-ok : goal.returns-clause-ok
returns-clause-ok c = on_ok_weaker c.full.result (λ full a slots is.
    let p = c.args.self.now in
    let t = c.args.trial.now in
    let asked = transaction_of c.args.transaction in
    let tried = c.in-Ok.ensures.made in
    let back : c.keep.new.self ≡ t = whole_back t c.transact.new.self c.keep.new.self asked c.len-before.result tried.made (some_accepted t.state asked tried.accepted) c.len-before.ensures.len c.keep.ensures.state c.keep.ensures.past in
    let size = ap length c.requires.frames ∙ size_is p.rides t.state.seq asked in
    let over = c.requires.over in
    let wide = c.if-used-self.false in
    let len = c.len.ensures in
    let len_frames = c.len-2.ensures in
    let ok = c.in_ok-snapshot.snapshot.ok in
    let ok_frames = c.args.frames.ok in
    further_full a slots p t is asked tried.accepted (omega (arith, over, size)) tried.made.good (subst Good tried.made.state c.transact.ensures.good) c.full.new.self full.other full.closed
    c.in_ok-snapshot.snapshot.items (c.in_ok-snapshot.ensures.frames ∙ ap (λ (s : State). snapshot_bytes p.rides s.documents s.marks) c.look.ensures.same) (omega (arith, wide, len, len_frames, ok, ok_frames, size))
    (subst (λ (s : State). p.rides ≡ true → p.capacity < length (snapshot_bytes p.rides s.documents s.marks)) tried.made.state (subst (IsInstead p c.transact.new.self.state) c.in_default.is c.in_ok-after.ensures)) full.base_is full.frames_are full.each_are full.adds_is full.replies full.left full.bytes c.keep.new.self back)
    c.full.ensures

pub returns-clause-origin : goal.returns-clause-origin
returns-clause-origin c =
    let t = c.args.trial.now in
    let asked = transaction_of c.args.transaction in
    let tried = c.in-Ok.ensures.made in
    ap (state_at 0) (whole_back t c.transact.new.self c.keep.new.self asked c.len-before.result tried.made (some_accepted t.state asked tried.accepted) c.len-before.ensures.len c.keep.ensures.state c.keep.ensures.past)
