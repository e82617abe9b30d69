use Rattle.std.proofs.Common.{[], Err, Result, inl, inr, ap, refl, subst, ◌∙◌}
use Rattle.doc_changes.specs.declared.refusal.Refusal.{Refusal}
use Rattle.recorded_store.specs.Recorded.{recorded_of}
use Rattle.protocol.specs.Read.{asked_by, ReadsRequest}
use Rattle.protocol.specs.declared.request.Request.{Request}
use Rattle.protocol.specs.Reply.{refusal_reply}
use Rattle.serve_lines.specs.Session.{AnswersOther}
use Rattle.serve_lines.proofs.Shown.{asks_so, unasked}
use Rattle.serve_lines.proofs.answer.answer.Goals as goal

pub returns-in-Ok : goal.returns-in-Ok
returns-in-Ok g c = λ options line asks within.
    let reply = c.reply_to.ensures in
    let request = asked_by c.in-Ok.request in
    let asked = subst (λ (a : Result Request Refusal). ReadsRequest line a) c.in-Ok.is asks in
    let answered = asks_so g.D.SectorDevice.disk options c.args.store.now c.reply_to.new.store line request reply.0 asked (reply.2 options) in
    (reply.0, reply.1, answered)

pub returns-in-Err : goal.returns-in-Err
returns-in-Err g c = λ options line asks within.
    let said = refusal_reply c.in-Err.refusal in
    let reads = subst (λ (a : Result Request Refusal). ReadsRequest line a) c.in-Err.is asks in
    let other : AnswersOther (recorded_of c.args.store.now) line [] [] said (recorded_of c.args.store.now) = elim reads [
      | inl memory ↦ inl (ap refusal_reply memory, within (c.in-Err.is ∙ ap Err memory), (refl, refl, refl))
      | inr none ↦ inr (Err none.0, none.2, (ap refusal_reply none.1, (refl, refl, refl)))
    ] in
    (said, refl, unasked g.D.SectorDevice.disk options c.args.store.now line said other)
