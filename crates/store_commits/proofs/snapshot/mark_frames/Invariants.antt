use Rattle.std.proofs.Common.{◌≡◌, ◌++◌, drop, map, true}
use Rattle.doc_changes.specs.MarkView.{mark_in}
use Rattle.store_commits.specs.Snapshot.{mark_bytes}
use Rattle.store_commits.proofs.snapshot.mark_frames.Given as goal

-- the frames of the marks that are left stand behind
abbrev pub invariant-loop-mark : goal.invariant-loop-mark
invariant-loop-mark l = l.frames.items ++ mark_bytes true (drop l.mark-index (map mark_in l.marks)) ≡ mark_bytes true (map mark_in l.marks)
