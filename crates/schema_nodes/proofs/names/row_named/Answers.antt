use Rattle.std.proofs.Common.{ap, inl, inr, ⊎_elim, ◌∙◌}
use Rattle.doc_tree.specs.TreeView.{members_view}
use Rattle.schema_nodes.proofs.Naming.{row_none}
use Rattle.schema_nodes.proofs.names.row_named.Goals as goal

pub returns : goal.returns
returns c = row_none c.args.name.now (members_view c.loop-key.key-iterator.a) c.loop-key.key-iterator.b.rest.now (⊎_elim (λ x. inl (ap members_view x.1.0)) (λ x. inr x.1.0) c.in-None.ensures.steps) ∙ c.loop-key.invariant
