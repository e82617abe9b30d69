use Rattle.std.proofs.Common.{◌≡◌, drop}
use Rattle.doc_tree.specs.Doc.{Doc}
use Rattle.path_parse.specs.SyntaxView.{segments_view}
use Rattle.path_plans.specs.Planned.{plan}
use Rattle.path_tables.proofs.Made.{ways_onto}
use Rattle.path_tables.proofs.planning.ways_of.Given as goal

abbrev pub invariant-loop-segment : goal.invariant-loop-segment
invariant-loop-segment l = (root : Doc) → ways_onto l.ways.items (plan root (segments_view (drop l.segment-index l.segment-items))) ≡ plan root (segments_view l.segment-items)
