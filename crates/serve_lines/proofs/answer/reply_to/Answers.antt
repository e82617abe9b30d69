use Rattle.std.proofs.Common.{rules, ap, ap₂, sym, ◌∙◌, subst, []}
use Rattle.doc_tree.specs.Doc.{Doc}
use Rattle.recorded_store.specs.Recorded.{recorded_of}
use Rattle.protocol.specs.Read.{asked_by}
use Rattle.protocol.specs.Request as asked
use Rattle.protocol.specs.Says.{Says}
use Rattle.serve_lines.specs.LineReplies.{AnswersRequest}
use Rattle.serve_lines.proofs.Shown.{asks_nothing}
use Rattle.serve_lines.proofs.answer.reply_to.Goals as goal

pub returns-in-Query : goal.returns-in-Query
returns-in-Query g c =
    let account = recorded_of c.args.store.now in
    let same = ap₂ asked.query c.as_str-in-Query.ensures.value c.as_str-in-Query-2.ensures.value ∙ sym (ap asked_by c.in-Query.is) in
    asks_nothing g.D.SectorDevice.disk c.args.store.now (asked_by c.args.request) c.query.result
    (subst (λ (r : asked.Request). (x : Doc) × Says c.query.result x × AnswersRequest account r [] [] x account) same c.query.ensures)

pub returns-in-Get : goal.returns-in-Get
returns-in-Get g c = asks_nothing g.D.SectorDevice.disk c.args.store.now (asked_by c.args.request) c.get.result (search rules)

pub returns-in-GetSchema : goal.returns-in-GetSchema
returns-in-GetSchema g c = asks_nothing g.D.SectorDevice.disk c.args.store.now (asked_by c.args.request) c.get_schema.result (search rules)

pub returns-in-Rev : goal.returns-in-Rev
returns-in-Rev g c = asks_nothing g.D.SectorDevice.disk c.args.store.now (asked_by c.args.request) c.rev.result (search rules)

pub returns-in-Mark : goal.returns-in-Mark
returns-in-Mark g c = asks_nothing g.D.SectorDevice.disk c.args.store.now (asked_by c.args.request) c.mark.result (search rules)

pub returns-in-List : goal.returns-in-List
returns-in-List g c = asks_nothing g.D.SectorDevice.disk c.args.store.now (asked_by c.args.request) c.list.result (search rules)

pub returns-in-Status : goal.returns-in-Status
returns-in-Status g c = asks_nothing g.D.SectorDevice.disk c.args.store.now (asked_by c.args.request) c.status.result (search rules)

pub returns-in-Changes : goal.returns-in-Changes
returns-in-Changes g c = asks_nothing g.D.SectorDevice.disk c.args.store.now (asked_by c.args.request) c.changes.result (search rules)
