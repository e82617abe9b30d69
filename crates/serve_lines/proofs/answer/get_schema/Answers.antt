use Rattle.std.proofs.Common.{ap, inr, sym, refl, ◌∙◌}
use Rattle.doc_tree.specs.TreeView.{view}
use Rattle.doc_changes.specs.Reading.{schema_at}
use Rattle.store_commits.specs.Account.{StoreView}
use Rattle.recorded_store.specs.Recorded.{recorded_of}
use Rattle.protocol.specs.Request as asked
use Rattle.protocol.specs.Reply.{refusal_reply, value_reply}
use Rattle.serve_lines.specs.Session.{found_reply}
use Rattle.serve_lines.proofs.Shown.{shows}
use Rattle.serve_lines.proofs.answer.get_schema.Goals as goal

pub returns-in-Ok : goal.returns-in-Ok
returns-in-Ok g c =
    let reply = value_reply (view c.in-Ok.schema.now) in
    let here = ap (λ (v : StoreView g.row.D.Denot). schema_at v.account.state c.args.name.now) c.store.ensures in
    shows (recorded_of c.args.store.now) (asked.get_schema c.args.name.now) c.shown.result reply (ap found_reply (sym c.in-Ok.ensures ∙ here), (refl, refl, refl)) (c.shown.ensures reply c.value_line.ensures)

pub returns-in-Err : goal.returns-in-Err
returns-in-Err g c =
    let here = ap (λ (v : StoreView g.row.D.Denot). schema_at v.account.state c.args.name.now) c.store.ensures in
    (refusal_reply c.in-Err.refusal, refl, inr (ap found_reply (sym c.in-Err.ensures ∙ here), (refl, refl, refl)))
