use Rattle.std.proofs.Common.{◌≡◌, ◌∷◌, [], drop, map, string_bytes}
use Rattle.doc_tree.specs.TreeView.{view}
use Rattle.schema_rules.specs.declared.keyword.Shape.TheVariants as shapes
use Rattle.schema_nodes.specs.Reaching.{number_to}
use Rattle.schema_nodes.proofs.targets.number_to.Given as goal

abbrev pub invariant-loop-token : goal.invariant-loop-token
invariant-loop-token l = number_to l.targets.held.now l.shape (map string_bytes (drop l.token-index l.tokens)) (view l.value) l.row l.names.entries ≡ number_to l.targets.held.now shapes.One (map string_bytes l.tokens) (view l.root) (l.targets.whole ∷ []) l.targets.named.entries
