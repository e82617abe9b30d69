use Rattle.std.proofs.Common.{◌∙◌, Result, ap, refl, subst, sym}
use Rattle.std.specs.Prelude.{IsOk}
use Rattle.doc_store.specs.declared.status.Status.{Status}
use Rattle.serve_lines.specs.declared.serving.Served.{Served}
use Rattle.protocol.specs.declared.serve_fault.ServeFault.{ServeFault}
use Rattle.jpstore.proofs.Fine.{if_ok}
use Rattle.jpstore.proofs.Going.{each_end, went_nowhere, went_of}
use Rattle.jpstore.proofs.Sealed.{promise_on, went_on}
use Rattle.jpstore.proofs.sealing.serve_and_seal.Goals as goal

pub returns-in-Ok-clause-session : goal.returns-in-Ok-clause-session
returns-in-Ok-clause-session g c =
    let s = c.in-Ok.ensures.session in
    let sealed = c.seal_if_changed-broken.ensures.sealed c.args.store.now.store (ap (λ v. v.account.state.seq) (sym c.store.ensures) ∙ sym (ap (λ (t : Status). t.seq) c.status-seq.ensures.status)) in
    (s.0, s.1, s.2, (c.serve.new.store, s.3, sealed))

pub returns-in-Ok-clause-kept : goal.returns-in-Ok-clause-kept
returns-in-Ok-clause-kept g c =
    let s = c.in-Ok.ensures.session in
    let sealed = c.seal_if_changed-broken.ensures.sealed c.args.store.now.store (ap (λ v. v.account.state.seq) (sym c.store.ensures) ∙ sym (ap (λ (t : Status). t.seq) c.status-seq.ensures.status)) in
    let k = c.serve.ensures.kept in
    let was = k.0 in (
      record {
        read = was.read;
        consumed = was.consumed;
        lines = was.lines;
        later = was.later;
        parts = was.parts;
        replies = was.replies;
        done = was.done;
        hit = was.hit;
        replied = was.replied;
        promise = promise_on g.D.SectorDevice.disk c.args.store.now c.serve.new.store c.seal_if_changed-broken.new.store.store sealed _ _ _ s.3.told.session was.done was.hit was.promise;
      },
      (λ _. k.1 (subst (λ (r : Result Served ServeFault). IsOk r) (sym c.in-Ok.is) refl)),
      (λ _. k.2 (λ bad. cc (bad, c.in-Ok.is))),
    )

pub returns-in-Ok-clause-went : goal.returns-in-Ok-clause-went
returns-in-Ok-clause-went g c =
    let s = c.in-Ok.ensures.session in
    let sealed = c.seal_if_changed-broken.ensures.sealed c.args.store.now.store (ap (λ v. v.account.state.seq) (sym c.store.ensures) ∙ sym (ap (λ (t : Status). t.seq) c.status-seq.ensures.status)) in
    went_on g.D.SectorDevice.disk c.args.store.now c.serve.new.store c.seal_if_changed-broken.new.store.store sealed _ _ _ s.3.told.session c.runs_join.ensures.joined

pub returns-in-Err-clause-went : goal.returns-in-Err-clause-went
returns-in-Err-clause-went g c =
    let disk = g.D.SectorDevice.disk in
    let old = c.args.store.now in
    let new = c.serve.new.store in
    let options = c.args.options.now in
    let e = c.serve.ensures in
    each_end c.serve.result (if_ok c.serve.result (λ v s. went_of disk options old new _ _ s.3.told.session) e.session) (λ is. went_of disk options old new _ _ (e.reader is).2.writes.session) (λ is. went_of disk options old new _ _ (e.turns is).2.writes.session) (λ is. went_of disk options old new _ _ (e.writer is).2.session)
    (λ is. went_nowhere disk old.store new.store c.runs_join.ensures.none e.standing (ap (λ v. v.store) (e.memory is).0))
