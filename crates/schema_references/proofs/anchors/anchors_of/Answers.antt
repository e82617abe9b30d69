use Rattle.std.proofs.Common.{◌++◌, map, ap, ◌∙◌}
use Rattle.std.proofs.lemmas.Result.{IfOk-weaker}
use Rattle.doc_tree.specs.TreeView.{view}
use Rattle.schema_rules.specs.Anchors.{anchors_of}
use Rattle.schema_rules.specs.Schemas.{schemas}
use Rattle.schema_references.proofs.anchors.anchors_of.Goals as goal

pub returns : goal.returns
returns c = IfOk-weaker c.anchors_in.result _ _ (λ v h. h ∙ ap (λ l. map (λ s. s.now) l ++ anchors_of (schemas (view c.args.root.now))) c.new.ensures.items) c.anchors_in.ensures
