use Rattle.std.proofs.Common.{List, ℕ, ◌++◌, inl, inr, ⊎_elim, sym, ap, ◌∙◌, append-nil}
use Rattle.doc_tree.specs.TreeView.{view, members_view}
use Rattle.schema_nodes.proofs.Edging.{edges_none}
use Rattle.schema_nodes.proofs.edges.edges_in.Goals as goal

pub returns : goal.returns
returns c =
    let none = edges_none c.args.targets.now (view c.args.root.now) (members_view c.loop-name.name-iterator.a) c.loop-name.name-iterator.b.rest.now (⊎_elim (λ x. inl (ap members_view x.1.0)) (λ x. inr x.1.0) c.in-None.ensures.steps) in
    sym (append-nil c.loop-name.found.items) ∙ ap (λ (l : List ℕ). c.loop-name.found.items ++ l) (sym none) ∙ c.loop-name.invariant
