use Rattle.std.proofs.Common.{◌≡◌, ◌+◌}
use Rattle.doc_tree.specs.TreeView.{members_view}
use Rattle.judged_work.specs.Sizes.{names_size}
use Rattle.judged_work.proofs.sizes.spend_each_name.Given as goal

abbrev pub invariant-loop-name : goal.invariant-loop-name
invariant-loop-name l = l.left + names_size (members_view l.members.entries) ≡ l.fn.before + names_size (members_view l.name-iterator)
