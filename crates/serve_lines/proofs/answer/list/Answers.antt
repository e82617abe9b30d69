use Rattle.std.proofs.Common.{ap, ◌∙◌, refl, map}
use Rattle.doc_changes.specs.Reading.{names_of}
use Rattle.store_commits.specs.Account.{StoreView}
use Rattle.recorded_store.specs.Recorded.{recorded_of}
use Rattle.protocol.specs.Request as asked
use Rattle.protocol.specs.Reply.{names_reply}
use Rattle.serve_lines.proofs.Shown.{shows}
use Rattle.serve_lines.proofs.answer.list.Goals as goal

pub returns-in-Ok : goal.returns-in-Ok
returns-in-Ok g c =
    let reply = names_reply (map (λ n. n.now) c.as_slice.result.now) in
    let here = ap (λ (v : StoreView g.row.D.Denot). names_of v.account.state) c.store.ensures in
    let same = ap (λ ns. names_reply (map (λ n. n.now) ns)) c.as_slice.ensures.value ∙ ap names_reply (c.in-Ok.ensures ∙ here) in
    shows (recorded_of c.args.store.now) asked.list c.shown.result reply (same, (refl, refl, refl)) (c.shown.ensures reply c.names_line.ensures)
