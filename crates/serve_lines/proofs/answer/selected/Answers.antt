use Rattle.std.proofs.Common.{◌≡◌, ◌≤◌, ◌<◌, List, length, Ok, inl, inr, ap, sym, ◌∙◌, cond}
use Rattle.std.proofs.lemmas.Bool.{le-leb, lt-leb}
use Rattle.doc_tree.specs.Text.{text_of}
use Rattle.doc_changes.specs.Refusals.{plain}
use Rattle.refusals.specs.declared.numbers.TheConstants.{REPLY_LONG}
use Rattle.path_eval.specs.Nodes.{Located}
use Rattle.path_eval.specs.NodeView.{listed_of}
use Rattle.protocol.specs.Reply.{nodes_reply, refusal_reply, line_of}
use Rattle.serve_lines.specs.Session.{selected_reply}
use Rattle.protocol.specs.declared.limits.TheConstants.{REPLY_BYTES}
use Rattle.serve_lines.proofs.answer.selected.Goals as goal

within : (nodes : List Located) → length (text_of (nodes_reply nodes)) ≤ REPLY_BYTES → selected_reply (Ok nodes) ≡ nodes_reply nodes
within nodes h = ap (λ b. cond b (nodes_reply nodes) (refusal_reply (plain REPLY_LONG))) (le-leb (length (text_of (nodes_reply nodes))) REPLY_BYTES h)

beyond : (nodes : List Located) → REPLY_BYTES < length (text_of (nodes_reply nodes)) → selected_reply (Ok nodes) ≡ refusal_reply (plain REPLY_LONG)
beyond nodes h = ap (λ b. cond b (nodes_reply nodes) (refusal_reply (plain REPLY_LONG))) (lt-leb (length (text_of (nodes_reply nodes))) REPLY_BYTES h)

pub returns-in-Ok : goal.returns-in-Ok
returns-in-Ok c = inl (c.in-Ok.ensures.0 ∙ ap line_of (sym (within (listed_of c.args.nodes.now) c.in-Ok.ensures.1)))

pub returns-in-Err : goal.returns-in-Err
returns-in-Err c = elim c.in-Err.ensures [
  | inl long ↦ inl (beyond (listed_of c.args.nodes.now) long.1 ∙ ap refusal_reply (sym long.0))
  | inr memory ↦ inr (ap refusal_reply (sym memory))
]
