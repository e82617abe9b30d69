use Rattle.std.proofs.Common.{◌≡◌, ◌++◌, drop, decimal}
use denote.Text.{Utf8}
use denote.Shadow.{shadow}
use Rattle.doc_edits.specs.Change.{tokens_of}
use Rattle.doc_edits.specs.Keeping.{with_last}
use Rattle.doc_edits.proofs.keeping.path_to.Given as goal

abbrev pub invariant-loop-next : goal.invariant-loop-next
invariant-loop-next l = shadow (Utf8 l.last) × (tokens_of l.path.items ++ with_last (decimal l.fn.index) l.last (tokens_of (drop l.next-index l.rest)) ≡ with_last (decimal l.fn.index) l.fn.token (tokens_of l.rest))
