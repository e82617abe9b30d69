use Rattle.std.proofs.Common.{ap, inr, refl, ◌∙◌}
use Rattle.doc_changes.specs.Reading.{revision_at}
use Rattle.store_commits.specs.Account.{StoreView}
use Rattle.protocol.specs.Reply.{refusal_reply, revision_reply}
use Rattle.serve_lines.specs.Session.{reply_to_rev}
use Rattle.serve_lines.proofs.answer.rev.Goals as goal

pub returns-in-Ok : goal.returns-in-Ok
returns-in-Ok g c =
    let here = ap (λ (v : StoreView g.row.D.Denot). revision_at v.account.state c.args.name.now) c.store.ensures in
    (revision_reply c.in-Ok.revision, refl, inr (ap reply_to_rev (c.in-Ok.ensures ∙ here), (refl, refl, refl)))

pub returns-in-Err : goal.returns-in-Err
returns-in-Err g c =
    let here = ap (λ (v : StoreView g.row.D.Denot). revision_at v.account.state c.args.name.now) c.store.ensures in
    (refusal_reply c.in-Err.refusal, refl, inr (ap reply_to_rev (c.in-Err.ensures ∙ here), (refl, refl, refl)))
