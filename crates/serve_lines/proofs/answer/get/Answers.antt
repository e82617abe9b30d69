use Rattle.std.proofs.Common.{Ok, Err, ap, inl, inr, sym, refl, ◌∙◌}
use Rattle.doc_tree.specs.TreeView.{view}
use Rattle.doc_changes.specs.Reading.{value_at}
use Rattle.doc_changes.specs.Refusals.{plain}
use Rattle.refusals.specs.declared.numbers.TheConstants.{POINTER}
use Rattle.store_commits.specs.Account.{StoreView}
use Rattle.recorded_store.specs.Recorded.{recorded_of}
use Rattle.protocol.specs.Request as asked
use Rattle.protocol.specs.Reply.{value_reply, refusal_reply}
use Rattle.serve_lines.proofs.Shown.{shows}
use Rattle.serve_lines.proofs.answer.get.Goals as goal

pub returns-in-Err : goal.returns-in-Err
returns-in-Err g c = elim c.in-Err.ensures.err [
  | inl none ↦ (refusal_reply c.plain.result, refl, inr (Err (plain POINTER), inr (none.1, refl), ap refusal_reply (c.plain.ensures ∙ ap plain none.0), (refl, refl, refl)))
  | inr memory ↦ (refusal_reply c.plain.result, refl, inl (ap refusal_reply (c.plain.ensures ∙ ap plain memory), (refl, refl, refl)))
]

pub returns-in-Ok-get : goal.returns-in-Ok-get
returns-in-Ok-get g c =
    let value = view c.in-Ok-get.value.now in
    let here = ap (λ (v : StoreView g.row.D.Denot). value_at v.account.state c.args.name.now c.in-Ok.pointer) c.store.ensures in
    shows (recorded_of c.args.store.now) (asked.get c.args.name.now c.args.path.now) c.shown.result (value_reply value)
    (Ok value, inl (c.in-Ok.pointer, c.in-Ok.ensures.ok, sym c.in-Ok-get.ensures ∙ here), refl, (refl, refl, refl)) (c.shown.ensures (value_reply value) c.value_line.ensures)

pub returns : goal.returns
returns g c =
    let refusal = c.in-Err-get.refusal in
    let here = ap (λ (v : StoreView g.row.D.Denot). value_at v.account.state c.args.name.now c.in-Ok.pointer) c.store.ensures in
    (refusal_reply refusal, refl, inr (Err refusal, inl (c.in-Ok.pointer, c.in-Ok.ensures.ok, sym c.in-Err-get.ensures ∙ here), refl, (refl, refl, refl)))
