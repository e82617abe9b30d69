use Rattle.std.proofs.Common.{◌≡◌, ◌++◌, drop}
use Rattle.store_commits.specs.Snapshot.{document_bytes, snapshot_bytes}
use Rattle.store_commits.proofs.snapshot.creations.Given as goal

-- the frames of the documents that are left stand behind
abbrev pub invariant-loop-place : goal.invariant-loop-place
invariant-loop-place l = l.frames.items ++ document_bytes l.rides (drop l.place l.look.documents) ≡ snapshot_bytes l.rides l.look.documents l.look.marks
