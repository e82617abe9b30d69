use Rattle.std.proofs.Common.{◌≡◌, ◌∙◌, ℕ, List, Option, IfOk, ap, subst}
use Rattle.doc_tree.specs.Doc.{object}
use Rattle.protocol.specs.Reply.{line_of}
use Rattle.status_lines.specs.Status.{id_of, shown_id, status_members}
use Rattle.status_lines.proofs.status.status_line.Goals as goal

pub returns : goal.returns
returns c =
    let status = c.args.status.now in
    let id = c.as_str-id.result.now in
    let shown : shown_id status id ≡ id_of status = ap (shown_id status) c.as_str-id.ensures.value ∙ c.in_ok-text.ensures in
    subst (λ (o : Option (List ℕ)). IfOk c.shown_line.result (λ line. line.items ≡ line_of (object (status_members status o)))) shown
    (c.shown_line.ensures (object (status_members status (shown_id status id))) (λ log sent. sent))
