use Rattle.std.proofs.Common.{◌≡◌, false, ◌||◌, sym, ap, ◌∙◌}
use Rattle.std.specs.List.{list_any}
use Rattle.std.proofs.lemmas.Result.{IfOk-weaker}
use Rattle.doc_tree.specs.Doc.{object}
use Rattle.doc_tree.specs.TreeView.{view, members_view}
use Rattle.doc_tree.proofs.Views.{view-Object}
use Rattle.doc_schema.specs.Defects.{has_defect, is_defective}
use Rattle.doc_schema.specs.Positions.{offered_positions}
use Rattle.schema_rules.specs.Schemas.{offered_below}
use Rattle.doc_schema.proofs.Anywhere.{of_object}
use Rattle.doc_schema.proofs.defects.defective_whole.Goals as goal

pub returns-else-branch : goal.returns-else-branch
returns-else-branch c =
    let d = c.args.defect in
    let r = view c.args.root.now in
    let ms = members_view c.in-Object.members.entries in
    let is : view c.args.schema.now ≡ object ms = ap view c.in-Object.is ∙ view-Object c.in-Object.members in
    IfOk-weaker c.defective_below.result _ _ (λ _ h. h ∙ ap (λ b. b || list_any (is_defective c.args.profile d r false) (offered_below c.args.profile ms)) (sym c.if-branch.false ∙ c.in_ok-some_member_is_wrong-in-Object.ensures) ∙ sym (of_object c.args.profile d r ms) ∙ sym (ap (λ x. list_any (has_defect c.args.profile d r) (offered_positions c.args.profile x)) is)) c.defective_below.ensures
