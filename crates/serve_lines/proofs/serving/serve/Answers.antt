use Rattle.std.proofs.Common.{◌≡◌, ◌⊎◌, inl, inr, ⊎_elim, ℕ, List, [], refl, ap, subst, sym, Option, Err}
use Rattle.std.proofs.lemmas.List.{append-nil}
use Rattle.std.specs.Io.KnownBytes.{Appends, Consumes}
use Rattle.std.specs.Result.{IsErrOf}
use Rattle.recorded_store.specs.Recorded.{RecordedView, recorded_of}
use Rattle.doc_store.specs.Promise.{KeepsPromise}
use Rattle.protocol.specs.Lines.{lines_of}
use Rattle.serve_lines.specs.Kept.{known_of, no_line}
use Rattle.protocol.specs.declared.serve_fault.ServeFault.{ServeFault}
use Rattle.serve_lines.specs.declared.serving.Served.{Served}
use Rattle.protocol.specs.declared.serve_fault.ServeFault.TheVariants.{Reader, Writer, Turns, Memory}
use Rattle.serve_lines.proofs.Keeping.{kept_broken_off, kept_paused, kept_so}
use Rattle.serve_lines.proofs.Reading.{consumes_none}
use Rattle.serve_lines.proofs.Telling.{appends_none}
use Rattle.serve_lines.proofs.serving.serve.Goals as goal

-- how a session that ended early ended
abbrev Ends : ServeFault → ServeFault → Type 0
Ends f named = IsErrOf {T = ℕ} {E = ServeFault} (Err f) named

one_of : (f : ServeFault) → Ends f Reader ⊎ Ends f Writer ⊎ Ends f Turns ⊎ Ends f Memory
one_of Reader = inl refl
one_of Writer = inr (inl refl)
one_of Turns = inr (inr (inl refl))
one_of Memory = inr (inr (inr refl))

-- the call ended so too
ends_so : (f named : ServeFault) → Ends f named → IsErrOf {T = Served} {E = ServeFault} (Err f) named
ends_so f named is = let same : f ≡ named = cc is in ap (λ (x : ServeFault). Err x) same

pub returns-in-Ok-clause-promise : goal.returns-in-Ok-clause-promise
returns-in-Ok-clause-promise g c =
    let session = c.in-Ok.ensures.ok.3.told.session in
    (session.events, session.said, c.runs_keep_the_promise.ensures.runs c.args.store.now.store c.answer_all-ended.new.store.store session.events session.said session.ran)

pub returns-in-Ok-clause-promised : goal.returns-in-Ok-clause-promised
returns-in-Ok-clause-promised g c =
    λ lines replies was. c.runs_keep_the_promise.ensures.runs c.args.store.now.store c.answer_all-ended.new.store.store was.events was.said was.ran

pub returns-in-Err-clause-promised : goal.returns-in-Err-clause-promised
returns-in-Err-clause-promised g c =
    λ lines replies was. c.runs_keep_the_promise.ensures.runs c.args.store.now.store c.answer_all-ended.new.store.store was.events was.said was.ran

-- whatever ended it, what had been done until then was one run
pub returns-in-Err-clause-promise : goal.returns-in-Err-clause-promise
returns-in-Err-clause-promise g c =
    let old = c.args.store.now in
    let new = c.answer_all-ended.new.store in
    let keep = c.runs_keep_the_promise.ensures in
    ⊎_elim (λ is. (let session = (c.in-Err.ensures.reader is).2.writes.session in (session.events, session.said, keep.runs old.store new.store session.events session.said session.ran)))
    (⊎_elim (λ is. (let session = (c.in-Err.ensures.writer is).2.session in (session.events, session.said, keep.runs old.store new.store session.events session.said session.ran)))
    (⊎_elim (λ is. (let session = (c.in-Err.ensures.turns is).2.writes.session in (session.events, session.said, keep.runs old.store new.store session.events session.said session.ran)))
    (λ is. (let same = (c.in-Err.ensures.memory is).0 in ([], [], subst (λ (v : RecordedView g.row.D.Denot). KeepsPromise g.D.SectorDevice.disk v.store new.store [] []) same (keep.none new.store c.is_broken-broken.ensures.standing)))))) (one_of c.in-Err.fault)

pub returns-in-Ok-clause-kept : goal.returns-in-Ok-clause-kept
returns-in-Ok-clause-kept g c =
    let old = c.args.store.now in
    let new = c.answer_all-ended.new.store in
    let left = g.R.Read.remaining c.args.reader.now in
    let left_new = g.R.Read.remaining c.answer_all-ended.new.reader in
    let ok = c.in-Ok.ensures.ok in
    let told = ok.3.told in (
      kept_so g.D.SectorDevice.disk c.args.options.now old new left left_new ok.0 ok.1 (c.runs_keep_the_promise.ensures.runs old.store new.store) (lines_of ok.0) [] told.replies told.session (sym (append-nil (lines_of ok.0))),
      λ is. (refl, ok.2),
      λ not_writer. told.wrote,
    )

-- whatever ended it, the first of the lines were answered so
pub returns-in-Err-clause-kept : goal.returns-in-Err-clause-kept
returns-in-Err-clause-kept g c =
    let disk = g.D.SectorDevice.disk in
    let options = c.args.options.now in
    let old = c.args.store.now in
    let new = c.answer_all-ended.new.store in
    let left = g.R.Read.remaining c.args.reader.now in
    let left_new = g.R.Read.remaining c.answer_all-ended.new.reader in
    let before = g.W.Write.contents c.args.writer.now in
    let after = g.W.Write.contents c.answer_all-ended.new.writer in
    let keep = c.runs_keep_the_promise.ensures in
    ⊎_elim (λ is. (let r = c.in-Err.ensures.reader is in (kept_paused disk options old new left left_new r.0 r.1 (keep.runs old.store new.store) before after r.2, λ ok. absurd (cc ok), λ not_writer. r.2.writes.wrote)))
    (⊎_elim (λ is. (let r = c.in-Err.ensures.writer is in (kept_broken_off disk options old new left left_new r.0 r.1 (keep.runs old.store new.store) r.2, λ ok. absurd (cc ok), λ not_writer. absurd (not_writer (ends_so c.in-Err.fault Writer is)))))
    (⊎_elim (λ is. (let r = c.in-Err.ensures.turns is in (kept_paused disk options old new left left_new r.0 r.1 (keep.runs old.store new.store) before after r.2, λ ok. absurd (cc ok), λ not_writer. r.2.writes.wrote)))
    (λ is. (let same = c.in-Err.ensures.memory is in (
      record {
        read = [];
        consumed = subst (λ (x : Option (List ℕ)). Consumes left x []) (ap g.R.Read.remaining (sym same.1)) (consumes_none left);
        lines = [];
        later = [];
        parts = refl;
        replies = [];
        done = [];
        hit = [];
        replied = no_line (known_of (recorded_of old));
        promise = subst (λ (v : RecordedView g.row.D.Denot). KeepsPromise disk v.store new.store [] []) same.0 (keep.none new.store c.is_broken-broken.ensures.standing);
      },
      λ ok. absurd (cc ok),
      λ not_writer. subst (λ (x : Option (List ℕ)). Appends before x []) (ap g.W.Write.contents (sym same.2)) (appends_none before),
    ))))) (one_of c.in-Err.fault)
