use Rattle.std.proofs.Common.{◌≡◌, drop, map}
use Rattle.doc_changes.specs.MarkPlaces.{place_from}
use Rattle.doc_changes.specs.MarkView.{mark_in}
use Rattle.doc_changes.proofs.marks.find.Given as goal

-- the place is that among those that are left
abbrev pub invariant-loop-index : goal.invariant-loop-index
invariant-loop-index l = place_from l.index l.key (drop l.index (map mark_in l.marks)) ≡ place_from 0 l.key (map mark_in l.marks)
