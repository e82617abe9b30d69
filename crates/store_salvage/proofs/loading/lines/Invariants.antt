use Rattle.std.proofs.Common.{◌≡◌, ◌++◌, drop}
use Rattle.store_salvage.specs.Lines.{lines_of_documents}
use Rattle.store_salvage.proofs.loading.lines.Given as goal

-- the lines of the documents that are left stand behind
abbrev pub invariant-loop-place : goal.invariant-loop-place
invariant-loop-place l = l.lines.items ++ lines_of_documents (drop l.place l.look.documents) ≡ lines_of_documents l.look.documents
