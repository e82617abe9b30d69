use Rattle.doc_tree.proofs.Escaping.{some_added}
use Rattle.doc_tree.proofs.escape.put_escaped.Goals as goal

pub parts-preserved : goal.parts-preserved
parts-preserved c =
    some_added c.args.out.now.items c.parts.out.items c.put_some.new.out.items c.args.text.now c.parts.rest.now c.in_ok-done.done c.split_at.result.1.now c.parts.invariant c.in_ok-done.ensures.text c.split_at.ensures.back
