use Rattle.std.proofs.Common.{◌++◌, sym, ◌∙◌, subst, ap, List, Option, length, map, arith}
use Rattle.std.proofs.lemmas.List.{length-map}
use Rattle.doc_machine.specs.Transaction.{transaction_of}
use Rattle.refusals.specs.declared.numbers.TheConstants.{BROKEN}
use Rattle.doc_changes.specs.Refusals.{plain}
use Rattle.doc_changes.specs.State.{State}
use Rattle.store_commits.specs.Account.{StoreView, with_copy}
use Rattle.store_commits.specs.Batch.{changes}
use Rattle.store_commits.specs.Copying.{Target, copy_of, target_of}
use Rattle.store_commits.specs.Events.{dones_of}
use Rattle.store_commits.specs.Folds.{AreFramedEach, frames_each}
use Rattle.store_commits.specs.Given.{GivesBack, bytes_each}
use Rattle.store_commits.specs.Inside.{IsStored, account_of, store_view, HasCommitted}
use Rattle.store_commits.specs.declared.event.Reply.{Reply}
use Rattle.store_commits.specs.declared.event.Reply.TheVariants.{Refused}
use Rattle.store_commits.proofs.Given.{dones_broken, planned_each}
use Rattle.store_commits.proofs.Joining.{broken_whole}
use Rattle.store_commits.proofs.Parts.{planned_replies}
use Rattle.store_commits.proofs.Standing.{standing}
use Rattle.store_commits.proofs.Modelled.{both_models}
use Rattle.store_commits.proofs.batch.commit_batch.Goals as goal

pub returns-then-is_broken-clause-batched : goal.returns-then-is_broken-clause-batched
returns-then-is_broken-clause-batched g c =
    let journal = c.args.journal.now in
    let machine = c.args.machine.now in
    let items = c.args.transactions.items in
    broken_whole g.D.SectorDevice.disk (both_models g.D.SectorDevice.disk g.met.D.SectorDevice.coherent g.met.D.SectorDevice.torn_coherent) (store_view journal machine (target_of c.args.copy.now)) (standing (g.D.SectorDevice.disk journal.device) journal machine c.requires.held)
    (sym c.if-is_broken.ensures.broken) items c.say_broken.new.said.items (c.say_broken.ensures ∙ (λ i. c.in_ok-replies.ensures.items i ++ map (λ _. Refused (plain BROKEN)) items))

pub returns-then-is_broken-clause-frames : goal.returns-then-is_broken-clause-frames
returns-then-is_broken-clause-frames g c =
    let items = c.args.transactions.items in
    let ts = map transaction_of items in
    let rides = c.args.journal.now.rides in
    let seq = c.args.machine.now.seq in
    let replies = c.say_broken.ensures ∙ (λ i. c.in_ok-replies.ensures.items i ++ map (λ _. Refused (plain BROKEN)) items) in
    let none = ap (dones_of (changes ts)) replies ∙ dones_broken ts items in
    record {
      given = ap bytes_each c.in_ok-frames.ensures.items ∙ sym (ap (frames_each rides seq) none);
      framed = subst (AreFramedEach seq) (sym none) tt;
    }

pub commit_all-requires-clause-prepared : goal.commit_all-requires-clause-prepared
commit_all-requires-clause-prepared g c =
    let journal = c.args.journal.now in
    let cs = map transaction_of c.args.transactions.items in
    let s = c.begin-trial.result.state in
    let start = c.begin-trial.ensures.state ∙ c.replace.ensures.value in
    let stored = subst (λ (q : State × Option Target). IsStored (g.D.SectorDevice.disk journal.device) journal q.0 q.1) (λ i. (sym start i, sym c.in-Ok.ensures.same i)) c.requires in
    (s, cs, stored, c.in-Ok.ensures.prepared)

pub commit_all-requires-clause-room : goal.commit_all-requires-clause-room
commit_all-requires-clause-room g c =
    let prepared = c.in-Ok.ensures.prepared in
    let a = with_copy (account_of c.args.journal.now c.begin-trial.result.state) (copy_of (target_of c.prepare.new.copy)) in
    let count = planned_replies a c.in-Ok.segments.items prepared.slots prepared.end prepared.planned in
    let all = ap length prepared.all in
    let same = length-map c.args.transactions.items transaction_of in
    let len = c.len.ensures in
    let ok = c.args.transactions.ok in
    let made = c.in_ok-replies.ensures in
    omega (arith, count, all, same, len, ok, made.len, made.exact)

pub commit_all-requires-clause-places : goal.commit_all-requires-clause-places
commit_all-requires-clause-places g c =
    let prepared = c.in-Ok.ensures.prepared in
    let a = with_copy (account_of c.args.journal.now c.begin-trial.result.state) (copy_of (target_of c.prepare.new.copy)) in
    let few = planned_each a c.in-Ok.segments.items prepared.slots prepared.end prepared.planned in
    let all = ap length prepared.all in
    let same = length-map c.args.transactions.items transaction_of in
    let len = c.len-2.ensures in
    let ok = c.args.transactions.ok in
    let made = c.in_ok-frames.ensures in
    omega (arith, few, all, same, len, ok, made.len, made.exact)

-- of the store that it began with
pub returns-in-Ok-clause-batched : goal.returns-in-Ok-clause-batched
returns-in-Ok-clause-batched g c =
    let disk = g.D.SectorDevice.disk in
    let journal = c.args.journal.now in
    let cs = map transaction_of c.args.transactions.items in
    let s = c.begin-trial.result.state in
    let start = c.begin-trial.ensures.state ∙ c.replace.ensures.value in
    let stored = subst (λ (q : State × Option Target). IsStored (disk journal.device) journal q.0 q.1) (λ i. (sym start i, sym c.in-Ok.ensures.same i)) c.requires in
    let made : HasCommitted disk (store_view journal c.args.machine.now (target_of c.args.copy.now)) cs c.commit_all.new.committed.replies.items c.commit_all.new.journal c.commit_all.result (target_of c.commit_all.new.copy) =
    subst (λ (v : StoreView g.row.D.Denot). HasCommitted disk v cs c.commit_all.new.committed.replies.items c.commit_all.new.journal c.commit_all.result (target_of c.commit_all.new.copy))
    (λ i. store_view journal (start i) (c.in-Ok.ensures.same i)) (c.commit_all.ensures.committed s cs stored c.in-Ok.ensures.prepared) in
    made.batched

pub returns-in-Ok-clause-frames : goal.returns-in-Ok-clause-frames
returns-in-Ok-clause-frames g c =
    let journal = c.args.journal.now in
    let cs = map transaction_of c.args.transactions.items in
    let s = c.begin-trial.result.state in
    let start = c.begin-trial.ensures.state ∙ c.replace.ensures.value in
    let stored = subst (λ (q : State × Option Target). IsStored (g.D.SectorDevice.disk journal.device) journal q.0 q.1) (λ i. (sym start i, sym c.in-Ok.ensures.same i)) c.requires in
    let back = subst (λ (m : State). GivesBack (account_of journal m) cs c.commit_all.new.committed) start (c.commit_all.ensures.frames s cs stored c.in-Ok.ensures.prepared) in
    record { given = back.given; framed = back.framed }
