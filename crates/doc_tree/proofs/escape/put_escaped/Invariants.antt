use Rattle.std.proofs.Common.{◌≡◌, ◌++◌, length}
use Rattle.json.specs.Print.{escape}
use Rattle.doc_tree.proofs.escape.put_escaped.Given as goal

abbrev pub invariant-parts : goal.invariant-parts
invariant-parts l = l.out.items ++ escape l.rest ≡ l.initial.out.items ++ escape l.initial.rest

abbrev pub decreases-parts : goal.decreases-parts
decreases-parts l = length l.rest
