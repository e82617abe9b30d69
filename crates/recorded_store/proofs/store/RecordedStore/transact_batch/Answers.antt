use Rattle.std.proofs.Common.{◌∙◌, map, arith, sym, ap, subst}
use Rattle.std.proofs.lemmas.List.{length-map}
use Rattle.change_history.specs.History.{History, with_each}
use Rattle.doc_machine.specs.Transaction.{transaction_of}
use Rattle.store_commits.specs.Batch.{changes}
use Rattle.recorded_store.specs.Recorded.{IsRecord, RecordedView, told_of}
use Rattle.recorded_store.proofs.Dones.{each, few, recorded, records, rise}
use Rattle.recorded_store.proofs.store.RecordedStore.transact_batch.Goals as goal

pub record-requires-clause-each : goal.record-requires-clause-each
record-requires-clause-each g c =
    let disk = g.D.SectorDevice.disk in
    let old = c.self.inside.store in
    let new = c.commit.new.self in
    let ts = map transaction_of c.args.transactions.items in
    let committed = c.in_ok-committed.committed in
    let batched = c.in_ok-committed.ensures.batched in
    let frames = c.in_ok-committed.ensures.frames in
    each disk old new ts committed batched frames

pub record-requires-clause-rise : goal.record-requires-clause-rise
record-requires-clause-rise g c =
    let disk = g.D.SectorDevice.disk in
    let old = c.self.inside.store in
    let new = c.commit.new.self in
    let ts = map transaction_of c.args.transactions.items in
    let committed = c.in_ok-committed.committed in
    let batched = c.in_ok-committed.ensures.batched in
    let frames = c.in_ok-committed.ensures.frames in
    let h = c.reserve.new.self.history in
    let is = subst (λ (k : History). IsRecord (record { account = c.self.inside.store.account; history = k })) (sym c.in_ok-reserve.ensures.same) c.self.invariant in
    rise disk old new ts committed batched frames h is

pub record-requires-clause-room : goal.record-requires-clause-room
record-requires-clause-room g c =
    let disk = g.D.SectorDevice.disk in
    let old = c.self.inside.store in
    let new = c.commit.new.self in
    let ts = map transaction_of c.args.transactions.items in
    let committed = c.in_ok-committed.committed in
    let batched = c.in_ok-committed.ensures.batched in
    let frames = c.in_ok-committed.ensures.frames in
    let less = few disk old new ts committed batched frames in
    let same = length-map c.args.transactions.items transaction_of in
    let room = c.in_ok-reserve.ensures.room in
    let len = c.len.ensures in
    let ok = c.args.transactions.ok in
    omega (arith, less, same, room, len, ok)

pub invariant_of-self-2 : goal.invariant_of-self-2
invariant_of-self-2 g c =
    let disk = g.D.SectorDevice.disk in
    let old = c.self.inside.store in
    let new = c.commit.new.self in
    let ts = map transaction_of c.args.transactions.items in
    let committed = c.in_ok-committed.committed in
    let batched = c.in_ok-committed.ensures.batched in
    let frames = c.in_ok-committed.ensures.frames in
    let h = c.reserve.new.self.history in
    let is = subst (λ (k : History). IsRecord (record { account = c.self.inside.store.account; history = k })) (sym c.in_ok-reserve.ensures.same) c.self.invariant in
    recorded disk old new ts committed batched frames h is c.record.new.history.history c.record.ensures.told

-- of the store that it began with
pub returns-clause-recorded : goal.returns-clause-recorded
returns-clause-recorded g c =
    let disk = g.D.SectorDevice.disk in
    let old = c.self.inside.store in
    let new = c.commit.new.self in
    let ts = map transaction_of c.args.transactions.items in
    let committed = c.in_ok-committed.committed in
    let batched = c.in_ok-committed.ensures.batched in
    let frames = c.in_ok-committed.ensures.frames in
    let h = c.reserve.new.self.history in
    let is = subst (λ (k : History). IsRecord (record { account = c.self.inside.store.account; history = k })) (sym c.in_ok-reserve.ensures.same) c.self.invariant in
    let whole = c.in_ok-reserve.ensures.same ∙ ap (λ (v : RecordedView g.row.D.Denot). v.history) c.self.view_is in
    let account = ap (λ (v : RecordedView g.row.D.Denot). v.store.account) c.self.view_is in
    records disk old new ts committed batched frames h is c.record.new.history.history c.record.ensures.told
    ∙ (λ i. with_each (whole i) (told_of (account i) (changes ts) (sym c.record.ensures.replies i)))
