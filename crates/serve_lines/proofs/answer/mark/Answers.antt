use Rattle.std.proofs.Common.{ap, sym, refl, inr, option_map, ◌∙◌}
use Rattle.doc_changes.specs.MarkView.{mark_in}
use Rattle.doc_changes.specs.Reading.{mark_at}
use Rattle.store_commits.specs.Account.{StoreView}
use Rattle.recorded_store.specs.Recorded.{recorded_of}
use Rattle.protocol.specs.Request as asked
use Rattle.protocol.specs.Reply.{mark_reply, refusal_reply}
use Rattle.serve_lines.specs.Session.{reply_to_mark}
use Rattle.serve_lines.proofs.Shown.{shows}
use Rattle.serve_lines.proofs.answer.mark.Goals as goal

pub returns-in-Ok : goal.returns-in-Ok
returns-in-Ok g c =
    let reply = mark_reply (option_map (λ m. mark_in m.now) c.in-Ok.present) in
    let here = ap (λ (v : StoreView g.row.D.Denot). mark_at v.account.state c.args.key.now) c.store.ensures in
    shows (recorded_of c.args.store.now) (asked.mark c.args.key.now) c.shown.result reply (ap reply_to_mark (sym c.in-Ok.ensures ∙ here), (refl, refl, refl)) (c.shown.ensures reply c.mark_line.ensures)

pub returns-in-Err : goal.returns-in-Err
returns-in-Err g c =
    let here = ap (λ (v : StoreView g.row.D.Denot). mark_at v.account.state c.args.key.now) c.store.ensures in
    (refusal_reply c.in-Err.refusal, refl, inr (ap reply_to_mark (sym c.in-Err.ensures ∙ here), (refl, refl, refl)))
