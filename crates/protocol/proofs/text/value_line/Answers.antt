use Rattle.doc_tree.specs.TreeView.{view}
use Rattle.protocol.specs.Reply.{value_reply}
use Rattle.protocol.proofs.text.value_line.Goals as goal

pub returns : goal.returns
returns c = c.shown_line.ensures (value_reply (view c.args.value.now)) (λ log sent. sent)
