use Rattle.std.proofs.Common.{◌≡◌, ◌++◌, map}
use Rattle.std.specs.Vec.Iter.{into_iter_items}
use Rattle.doc_tree.specs.TreeView.{elements_view}
use Rattle.record_text.specs.Change.{change_of}
use Rattle.protocol.specs.Request.{objects_of}
use Rattle.protocol.proofs.several.commands_in.Given as goal

abbrev pub invariant-loop-tree : goal.invariant-loop-tree
invariant-loop-tree l = record {
  listed : elements_view l.yielded ≡ objects_of (map change_of l.commands.items);
  left : l.fn.trees.items ≡ l.yielded ++ into_iter_items l.tree-iterator;
}
