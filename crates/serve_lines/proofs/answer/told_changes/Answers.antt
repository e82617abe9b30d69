use Rattle.std.proofs.Common.{◌≡◌, ◌≤◌, ◌<◌, ℕ, List, Option, length, inl, inr, ap, sym, ◌∙◌, option_map}
use Rattle.doc_tree.specs.Text.{text_of}
use Rattle.doc_changes.specs.Refusals.{plain}
use Rattle.refusals.specs.declared.numbers.TheConstants.{REPLY_LONG}
use Rattle.protocol.specs.Changes.{changes_reply}
use Rattle.protocol.specs.Reply.{line_of, refusal_reply}
use Rattle.status_lines.specs.Status.{id_of, shown_id}
use Rattle.serve_lines.specs.Session.{told_reply}
use Rattle.serve_lines.proofs.Changing.{told_beyond, told_within}
use Rattle.serve_lines.proofs.answer.told_changes.Goals as goal

pub returns-in-Ok-changes_line : goal.returns-in-Ok-changes_line
returns-in-Ok-changes_line c = λ ts told.
    let status = c.args.status.now in
    let from = c.args.from in
    let shown = option_map (λ id. id.now) c.identity_in-identity.result in
    let id : shown ≡ id_of status = c.identity_in-identity.ensures ∙ ap (shown_id status) c.as_str.ensures.value ∙ c.in-Ok.ensures in
    let line = c.in-Ok-changes_line.ensures ts told in
    let same = told_within shown status.seq from ts line.1 in
    inl (line.0 ∙ ap line_of (sym same ∙ ap (λ (i : Option (List ℕ)). told_reply i status.seq from ts) id))

pub returns : goal.returns
returns c = λ ts told.
    let status = c.args.status.now in
    let from = c.args.from in
    let shown = option_map (λ id. id.now) c.identity_in-identity.result in
    let id : shown ≡ id_of status = c.identity_in-identity.ensures ∙ ap (shown_id status) c.as_str.ensures.value ∙ c.in-Ok.ensures in
    elim (c.in-Err.ensures ts told) [
      | inl long ↦ inl (sym (ap (λ (i : Option (List ℕ)). told_reply i status.seq from ts) id) ∙ told_beyond shown status.seq from ts long.1 ∙ ap refusal_reply (sym long.0))
      | inr memory ↦ inr (ap refusal_reply (sym memory))
    ]
