use Rattle.std.proofs.Common.{ap, ap₂, refl, sym, ◌∙◌}
use Rattle.change_history.specs.History.{since}
use Rattle.doc_store.specs.Formats.{status_of}
use Rattle.doc_store.specs.declared.status.Status.{Status}
use Rattle.store_commits.specs.Account.{StoreView}
use Rattle.recorded_store.specs.Recorded.{recorded_of}
use Rattle.std.specs.VecDeque.Iter.{deque_iter_rest}
use Rattle.protocol.specs.Request as asked
use Rattle.protocol.specs.Changes.{AreToldFrom, gone_reply}
use Rattle.status_lines.specs.Status.{id_of}
use Rattle.serve_lines.specs.Session.{told_reply}
use Rattle.serve_lines.proofs.Changing.{tells_none, tells_some}
use Rattle.serve_lines.proofs.Shown.{shows}
use Rattle.serve_lines.proofs.answer.changes.Goals as goal

pub told_changes-requires : goal.told_changes-requires
told_changes-requires g c =
    let t = c.in-Some.ensures.transactions in
    (t.0, record { rides = c.args.store.now.account.rides; each = t.1; readable = t.2; rises = c.in-Some.ensures.rises })

pub returns-in-Some : goal.returns-in-Some
returns-in-Some g c =
    let old = recorded_of c.args.store.now in
    let from = c.args.from in
    let first = deque_iter_rest c.in-Some.told in
    let status = c.status-status.ensures.status ∙ ap (λ (v : StoreView g.row.D.Denot). status_of v.account) c.store.ensures in
    let t = c.in-Some.ensures.transactions in
    let told : AreToldFrom from first t.0 = record { rides = old.rides; each = t.1; readable = t.2; rises = c.in-Some.ensures.rises } in
    let reply = told_reply (id_of c.status-status.result) c.status-status.result.seq from t.0 in
    let said = ap (λ (s : Status). told_reply (id_of s) s.seq from t.0) status in
    let tells = tells_some old from c.args.most reply first (since old.history.floor old.history.told from) c.in-Some.ensures.told t.0 t.1 t.2 said in
    shows old (asked.changes from c.args.most) c.told_changes.result reply (tells, (refl, refl, refl)) (c.told_changes.ensures t.0 told)

pub returns-in-None : goal.returns-in-None
returns-in-None g c =
    let old = recorded_of c.args.store.now in
    let from = c.args.from in
    let status = c.status-status.ensures.status ∙ ap (λ (v : StoreView g.row.D.Denot). status_of v.account) c.store.ensures in
    let reply = gone_reply c.status-status.result.seq c.floor.result in
    let said = ap₂ gone_reply (ap (λ (s : Status). s.seq) status) c.floor.ensures in
    let tells = tells_none old from c.args.most reply (since old.history.floor old.history.told from) c.in-None.ensures.told said in
    shows old (asked.changes from c.args.most) c.shown.result reply (tells, (refl, refl, refl)) (c.shown.ensures reply c.gone_line.ensures)
