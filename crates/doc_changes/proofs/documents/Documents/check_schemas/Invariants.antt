use Rattle.std.proofs.Common.{drop}
use Rattle.doc_changes.specs.State.{AreOffered}
use Rattle.doc_changes.proofs.documents.Documents.check_schemas.Given as goal

-- all are offered if those are that are left
abbrev pub invariant-loop-place : goal.invariant-loop-place
invariant-loop-place l = AreOffered l.profile (drop l.place l.self.documents) → AreOffered l.profile l.self.documents
