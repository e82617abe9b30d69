use Rattle.std.proofs.Common.{ap, ◌∙◌}
use Rattle.std.specs.List.{list_any}
use Rattle.std.proofs.lemmas.Result.{IfOk-weaker}
use Rattle.doc_tree.specs.TreeView.{view}
use Rattle.doc_schema.specs.Defects.{has_defect}
use Rattle.doc_schema.specs.Positions.{offered_positions}
use Rattle.doc_schema.proofs.defects.some_position_has.Goals as goal

pub returns : goal.returns
returns c = IfOk-weaker c.defective_whole.result _ _ (λ b h. h ∙ ap (λ t. list_any (has_defect c.args.profile c.args.defect (view c.args.root.now)) (offered_positions c.args.profile (view t))) c.tree.ensures) c.defective_whole.ensures
