use Rattle.std.proofs.Common.{◌≡◌, drop, map, string_bytes}
use Rattle.doc_tree.specs.TreeView.{view}
use Rattle.schema_rules.specs.Pointers.{walk}
use Rattle.schema_rules.specs.declared.keyword.Shape.TheVariants as shapes
use Rattle.schema_references.proofs.pointers.walk.Given as goal

abbrev pub invariant-loop-token : goal.invariant-loop-token
invariant-loop-token l = walk l.shape (map string_bytes (drop l.token-index l.tokens)) (view l.here) ≡ walk shapes.One (map string_bytes l.tokens) (view l.root)
