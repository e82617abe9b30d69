use Rattle.std.proofs.Common.{◌≡◌, ℕ, List, ◌++◌, length, Option}
use Rattle.doc_tree.specs.Doc.{Doc}
use Rattle.serve_lines.specs.Progress.{HasReplied}
use Rattle.serve_lines.specs.LineReplies.{AllSay}
use Rattle.serve_lines.proofs.progress.Progress.tell_rest.Given as goal

abbrev pub invariant-replies : goal.invariant-replies
invariant-replies g l = record {
  told : (before : Option (List ℕ)) (said docs : List Doc) → AllSay l.fn.self.session.ready.items docs → HasReplied before (g.W.Write.contents l.fn.writer) l.fn.self said
      → (given left : List Doc) × (docs ≡ given ++ left) × AllSay l.self.session.ready.items left × HasReplied before (g.W.Write.contents l.writer) l.self (said ++ given);
}

abbrev pub decreases-replies : goal.decreases-replies
decreases-replies g l = length l.self.session.ready.items
