use Rattle.std.proofs.Common.{◌≡◌, ◌++◌, drop}
use Rattle.doc_edits.specs.Change.{tokens_of}
use Rattle.doc_edits.proofs.keeping.copy_path.Given as goal

abbrev pub invariant-loop-token : goal.invariant-loop-token
invariant-loop-token l = tokens_of l.copy.items ++ tokens_of (drop l.token-index l.path) ≡ tokens_of l.path
