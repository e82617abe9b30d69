use Rattle.std.proofs.Common.{Ok, Err, ap, inl, inr, sym, refl, ◌∙◌}
use Rattle.doc_changes.specs.Refusals.{plain}
use Rattle.doc_changes.specs.State.{State}
use Rattle.doc_machine.specs.Queries.{nodes_at}
use Rattle.path_eval.specs.NodeView.{listed_of}
use Rattle.path_parse.specs.SyntaxView.{query_view}
use Rattle.refusals.specs.declared.numbers.TheConstants.{PATH, PATH_LEFT_OUT, PATH_LONG}
use Rattle.store_commits.specs.Account.{StoreView}
use Rattle.recorded_store.specs.Recorded.{recorded_of}
use Rattle.protocol.specs.Request as asked
use Rattle.protocol.specs.Reply.{refusal_reply}
use Rattle.serve_lines.specs.Session.{selected_reply}
use Rattle.serve_lines.proofs.Shown.{shows}
use Rattle.serve_lines.proofs.answer.query.Goals as goal

pub returns-in-Err : goal.returns-in-Err
returns-in-Err g c =
    let said = refusal_reply c.plain.result in
    elim c.in-Err.ensures.err [
      | inl long ↦ (said, refl, inr (Err (plain PATH_LONG), inl (long.1, refl), ap refusal_reply (c.plain.ensures ∙ ap plain long.0), (refl, refl, refl)))
      | inr judged ↦ elim judged.1 [
        | inl left ↦ (said, refl, inr (Err (plain PATH_LEFT_OUT), inr (judged.0, inr (inl (left.1, refl))), ap refusal_reply (c.plain.ensures ∙ ap plain left.0), (refl, refl, refl)))
        | inr more ↦ elim more [
          | inl none ↦ (said, refl, inr (Err (plain PATH), inr (judged.0, inl (none.1, refl)), ap refusal_reply (c.plain.ensures ∙ ap plain none.0), (refl, refl, refl)))
          | inr memory ↦ (said, refl, inl (ap refusal_reply (c.plain.ensures ∙ ap plain memory), (refl, refl, refl)))
        ]
      ]
    ]

pub returns-in-Ok-select : goal.returns-in-Ok-select
returns-in-Ok-select g c =
    let nodes = listed_of c.in-Ok-select.nodes in
    let spelled = c.in-Ok.ensures.ok in
    let here = c.look.ensures.same ∙ ap (λ (v : StoreView g.row.D.Denot). v.account.state) c.store.ensures in
    let found = sym c.in-Ok-select.ensures ∙ ap (λ (s : State). nodes_at s c.args.name.now (query_view c.in-Ok.query)) here in
    shows (recorded_of c.args.store.now) (asked.query c.args.name.now c.args.path.now) c.selected.result (selected_reply (Ok nodes))
    (Ok nodes, inr (spelled.0, inr (inr (query_view c.in-Ok.query, spelled.1, found))), refl, (refl, refl, refl)) c.selected.ensures

pub returns : goal.returns
returns g c =
    let refusal = c.in-Err-select.refusal in
    let here = ap (λ (s : State). nodes_at s c.args.name.now (query_view c.in-Ok.query)) (c.look.ensures.same ∙ ap (λ (v : StoreView g.row.D.Denot). v.account.state) c.store.ensures) in
    let spelled = c.in-Ok.ensures.ok in
    elim c.in-Err-select.ensures [
      | inl none ↦ (refusal_reply refusal, refl, inr (Err refusal, inr (spelled.0, inr (inr (query_view c.in-Ok.query, spelled.1, sym none ∙ here))), refl, (refl, refl, refl)))
      | inr memory ↦ (refusal_reply refusal, refl, inl (ap refusal_reply memory, (refl, refl, refl)))
    ]
