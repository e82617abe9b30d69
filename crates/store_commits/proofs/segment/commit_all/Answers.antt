use Rattle.std.proofs.Common.{◌≡◌, ◌+◌, ◌*◌, ◌-◌, [], ℕ, List, length, ap, sym, subst, ◌∙◌, arith}
use Rattle.std.proofs.lemmas.List.{nil_from_length}
use Rattle.std.specs.Vec.Iter.{into_iter_items}
use Rattle.doc_machine.specs.Transaction.{Transaction}
use Rattle.store_commits.specs.Account.{with_copy}
use Rattle.store_commits.specs.Batch.{changes, waiting}
use Rattle.store_commits.specs.Copying.{HasSpare, copy_of, target_of}
use Rattle.store_commits.specs.Events.{dones_of}
use Rattle.store_commits.specs.Folds.{AreFramedEach, all_changes, frames_each}
use Rattle.store_commits.specs.Run.{Reply}
use Rattle.store_commits.specs.Given.{bytes_each}
use Rattle.store_commits.specs.Inside.{LeavesNumbers, HasCome, account_of, bytes_in, each_in, replies_in}
use Rattle.store_commits.specs.declared.segment.Segment.{Segment}
use Rattle.store_commits.proofs.Joining.{all_come, all_framed, all_given, come_further, come_nowhere, committed, how_many, next_ready}
use Rattle.store_commits.proofs.Modelled.{both_models}
use Rattle.store_commits.proofs.Parts.{planned_some}
use Rattle.store_commits.proofs.segment.commit_all.Goals as goal

pub loop-segment-init : goal.loop-segment-init
loop-segment-init g c =
    let items = c.into_iter-segment-iterator.ensures.into_iter_gives.0 in
    let disk = g.D.SectorDevice.disk in
    let journal = c.args.journal.now in
    let copy = target_of c.args.copy.now in
    let room = c.requires.room in
    let same = ap replies_in items in
    let places = c.requires.places in
    let same_each = ap each_in items in
    record {
      come = λ s slots end stored planned.
          subst (λ (told : List Reply × List (List ℕ)). HasCome disk journal s copy slots end journal copy (into_iter_items c.into_iter-segment-iterator.result) told.0 told.1) (λ i. (sym c.requires.none.0 i, bytes_each (sym c.requires.none.1 i)))
          (subst (λ (rest : List Segment). HasCome disk journal s copy slots end journal copy rest [] []) (sym items) (come_nowhere disk (both_models g.D.SectorDevice.disk g.met.D.SectorDevice.coherent g.met.D.SectorDevice.torn_coherent) journal s copy slots end c.args.segments.items stored planned));
      grows = subst (λ (rest : List Segment). HasSpare c.args.copy.now (bytes_in rest)) (sym items) c.requires.grows;
      numbers = subst (λ (rest : List Segment). LeavesNumbers journal (2 * length rest + 1)) (sym items) c.requires.numbers;
      room = omega (arith, room, same);
      places = omega (arith, places, same_each);
    }

pub commit_segment-requires-clause-ready : goal.commit_segment-requires-clause-ready
commit_segment-requires-clause-ready g c =
    let disk = g.D.SectorDevice.disk in
    let l = c.loop-segment in
    let copy = target_of c.args.copy.now in
    let p = c.requires.prepared in
    let come = subst (λ (rest : List Segment). HasCome disk c.args.journal.now p.0 copy p.3.slots p.3.end l.journal (target_of l.copy) rest l.committed.replies.items (bytes_each l.committed.frames.items)) c.in-Some.ensures.steps.0
    (l.invariant.come p.0 p.3.slots p.3.end p.2 p.3.planned) in
    next_ready disk (both_models g.D.SectorDevice.disk g.met.D.SectorDevice.coherent g.met.D.SectorDevice.torn_coherent) c.args.journal.now l.journal p.0 copy (target_of l.copy) p.3.slots p.3.end l.committed.replies.items (bytes_each l.committed.frames.items) c.in-Some.segment (into_iter_items c.next.new.self) come

pub commit_segment-requires-clause-numbers : goal.commit_segment-requires-clause-numbers
commit_segment-requires-clause-numbers g c =
    let left = c.loop-segment.invariant.numbers in
    let count = ap length c.in-Some.ensures.steps.0 in
    omega (arith, left, count)

pub loop-segment-preserved : goal.loop-segment-preserved
loop-segment-preserved g c =
    let disk = g.D.SectorDevice.disk in
    let l = c.loop-segment in
    let copy = target_of c.args.copy.now in
    let rest = into_iter_items c.next.new.self in
    let steps = c.in-Some.ensures.steps.0 in
    let made = c.commit_segment.ensures in
    let new = c.commit_segment.new in
    let room = l.invariant.room in
    let all = ap replies_in steps in
    let len = made.len in
    let capacity = made.capacity in
    let places = l.invariant.places in
    let all_each = ap each_in steps in
    let len_frames = made.len_frames in
    let capacity_frames = made.capacity_frames in
    record {
      come = λ s slots end stored planned.
          come_further disk (both_models g.D.SectorDevice.disk g.met.D.SectorDevice.coherent g.met.D.SectorDevice.torn_coherent) c.args.journal.now l.journal new.journal s copy (target_of l.copy) (target_of new.copy) slots end l.committed.replies.items new.committed.replies.items (bytes_each l.committed.frames.items) (bytes_each new.committed.frames.items) c.in-Some.segment made.answered rest
          (subst (λ (more : List Segment). HasCome disk c.args.journal.now s copy slots end l.journal (target_of l.copy) more l.committed.replies.items (bytes_each l.committed.frames.items)) steps (l.invariant.come s slots end stored planned));
      grows = made.grows (bytes_in rest) (subst (λ (more : List Segment). HasSpare l.copy (bytes_in more)) steps l.invariant.grows);
      numbers = (let left = l.invariant.numbers in let used = made.numbers in let count = ap length steps in omega (arith, left, used, count));
      room = omega (arith, room, all, len, capacity);
      places = omega (arith, places, all_each, len_frames, capacity_frames);
    }

pub overflow_sub-seq : goal.overflow_sub-seq
overflow_sub-seq g c =
    let p = c.requires.prepared in
    let l = c.loop-segment in
    let journal = c.args.journal.now in
    let copy = target_of c.args.copy.now in
    let none = nil_from_length _ (sym l.segment-iterator.rest.ok.0 ∙ c.in-None.ensures.steps.0) in
    let was = all_come g.D.SectorDevice.disk (both_models g.D.SectorDevice.disk g.met.D.SectorDevice.coherent g.met.D.SectorDevice.torn_coherent) journal l.journal p.0 copy (target_of l.copy) p.3.slots p.3.end l.committed.replies.items (bytes_each l.committed.frames.items) _ none (l.invariant.come p.0 p.3.slots p.3.end p.2 p.3.planned) in
    let many = how_many g.D.SectorDevice.disk (both_models g.D.SectorDevice.disk g.met.D.SectorDevice.coherent g.met.D.SectorDevice.torn_coherent) journal l.journal p.0 copy (target_of l.copy) p.3.slots p.3.end l.committed.replies.items was p.2.held.seq in
    let seq = c.seq.ensures in
    let before = c.seq-before.ensures in
    omega (arith, many, seq, before)

pub returns-clause-committed : goal.returns-clause-committed
returns-clause-committed g c = λ s cs stored prepared.
    let disk = g.D.SectorDevice.disk in
    let coherent = (both_models g.D.SectorDevice.disk g.met.D.SectorDevice.coherent g.met.D.SectorDevice.torn_coherent) in
    let l = c.loop-segment in
    let journal = c.args.journal.now in
    let copy = target_of c.args.copy.now in
    let copied = target_of l.copy in
    let replies = l.committed.replies.items in
    let none = nil_from_length _ (sym l.segment-iterator.rest.ok.0 ∙ c.in-None.ensures.steps.0) in
    let was = all_come disk coherent journal l.journal s copy copied prepared.slots prepared.end replies (bytes_each l.committed.frames.items) _ none (l.invariant.come s prepared.slots prepared.end stored prepared.planned) in
    let many = how_many disk coherent journal l.journal s copy copied prepared.slots prepared.end replies was stored.held.seq in
    let seq = c.seq.ensures in
    let before = c.seq-before.ensures in
    let oldest = c.seq.result - c.seq-before.result in
    let number : oldest ≡ length (all_changes (waiting was.told.first)) = omega (arith, many, seq, before) in
    committed disk coherent journal l.journal s copy copied prepared.slots prepared.end replies was (planned_some (with_copy (account_of journal s) (copy_of copy)) c.args.segments.items prepared.slots prepared.end prepared.planned) c.args.trial prepared.tried oldest number c.end.result (c.end.ensures ∙ c.keep.ensures.state) cs prepared.all

pub returns-clause-frames : goal.returns-clause-frames
returns-clause-frames g c = λ s cs stored prepared.
    let l = c.loop-segment in
    let journal = c.args.journal.now in
    let none = nil_from_length _ (sym l.segment-iterator.rest.ok.0 ∙ c.in-None.ensures.steps.0) in
    let disk = g.D.SectorDevice.disk in
    let coherent = (both_models disk g.met.D.SectorDevice.coherent g.met.D.SectorDevice.torn_coherent) in
    let copy = target_of c.args.copy.now in
    let copied = target_of l.copy in
    let replies = l.committed.replies.items in
    let frames = bytes_each l.committed.frames.items in
    let come = l.invariant.come s prepared.slots prepared.end stored prepared.planned in
    record {
      given = all_given disk coherent journal l.journal s copy copied prepared.slots prepared.end replies frames _ none come
          ∙ ap (λ (ts : List Transaction). frames_each journal.rides s.seq (dones_of (changes ts) replies)) prepared.all;
      framed = subst (λ (ts : List Transaction). AreFramedEach s.seq (dones_of (changes ts) replies)) prepared.all
          (all_framed disk coherent journal l.journal s copy copied prepared.slots prepared.end replies frames _ none come);
    }
