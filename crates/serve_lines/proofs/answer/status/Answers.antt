use Rattle.std.proofs.Common.{ap, refl, ◌∙◌}
use Rattle.doc_store.specs.Formats.{status_of}
use Rattle.store_commits.specs.Account.{StoreView}
use Rattle.recorded_store.specs.Recorded.{recorded_of}
use Rattle.protocol.specs.Request as asked
use Rattle.status_lines.specs.Status.{status_reply}
use Rattle.serve_lines.proofs.Shown.{shows}
use Rattle.serve_lines.proofs.answer.status.Goals as goal

pub returns : goal.returns
returns g c =
    let reply = status_reply c.status-status.result in
    let here = ap (λ (v : StoreView g.row.D.Denot). status_of v.account) c.store.ensures in
    shows (recorded_of c.args.store.now) asked.status c.shown.result reply (ap status_reply (c.status-status.ensures.status ∙ here), (refl, refl, refl)) (c.shown.ensures reply c.status_line.ensures)
