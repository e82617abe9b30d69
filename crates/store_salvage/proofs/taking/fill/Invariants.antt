use Rattle.std.proofs.Common.{◌≡◌, List}
use Rattle.doc_changes.specs.State.{Good}
use Rattle.store_salvage.specs.Gathering.{AddsAll, Placed}
use Rattle.store_salvage.proofs.taking.fill.Given as goal

abbrev pub invariant-loop-frame : goal.invariant-loop-frame
invariant-loop-frame l = record {
  adds : (added : List Placed) × AddsAll l.parts l.fn.gathered.last l.fn.gathered.machine added l.gathered.last l.gathered.machine;
  doubts : l.gathered.doubts.items ≡ l.fn.gathered.doubts.items;
  good : Good l.gathered.machine;
}
