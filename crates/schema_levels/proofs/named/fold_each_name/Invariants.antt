use Rattle.std.proofs.Common.{◌≡◌, length, replicate}
use Rattle.doc_tree.specs.TreeView.{members_view}
use Rattle.schema_levels.specs.Below.{collect}
use Rattle.schema_levels.specs.Levels.{AreKept}
use Rattle.schema_levels.specs.Searched.{AreSearched}
use Rattle.schema_pattern.specs.Tables.{sources}
use Rattle.schema_levels.specs.PlaceInValue.{member_name}
use Rattle.schema_levels.specs.Table.{titles}
use Rattle.schema_levels.proofs.Folding.{Going}
use Rattle.schema_levels.proofs.named.fold_each_name.Given as goal

abbrev pub invariant-loop-name : goal.invariant-loop-name
invariant-loop-name l =
    (length l.passed ≡ length l.asked) × (length l.below_asked ≡ length l.asked) × (length l.below_passed ≡ length l.asked)
    × AreKept l.nodes (collect l.asked member_name 0 l.nodes (replicate (length l.asked) 0)) l.below_asked
    × Going l.nodes l.asked l.fn.passed l.passed (titles (members_view l.name-iterator)) (titles (members_view l.members.entries))
    × AreSearched (sources l.searches) l.nodes × (sources l.searches ≡ sources l.fn.searches)
