use Rattle.std.proofs.Common.{true≢false, not, ap, ◌∙◌}
use Rattle.std.proofs.lemmas.Slice.Eq.{bytes_eq-Decides}
use Rattle.doc_tree.specs.TreeView.{view}
use Rattle.record_text.proofs.Spelling.{unread, written_again}
use Rattle.record_text.proofs.read.spelled_tree.Goals as goal

pub returns-in-Err-2 : goal.returns-in-Err-2
returns-in-Err-2 c = unread c.args.bytes.now c.in-Err.fault c.if-fault-eq-MEMORY.false c.in-Err.ensures.err

pub returns-then-ne : goal.returns-then-ne
returns-then-ne c = λ d t.
    let same = c.as_slice.ensures.value ∙ c.in_ok-text.ensures.text ∙ written_again c.args.bytes.now (view c.in-Ok.tree) c.in-Ok.ensures.ok d t in
    true≢false (c.if-ne.ensures ∙ ap not ((bytes_eq-Decides c.as_slice.result.now c.args.bytes.now).1 same))
