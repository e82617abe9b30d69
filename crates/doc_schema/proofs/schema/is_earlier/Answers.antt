use Rattle.std.proofs.Common.{sym, ◌∙◌}
use Rattle.doc_tree.specs.TreeView.{view}
use Rattle.schema_rules.specs.declared.profile.Profile.TheVariants.{Two}
use Rattle.doc_schema.specs.declared.defects.Defect.TheVariants.{LeftOut}
use Rattle.doc_schema.proofs.Anywhere.{untold}
use Rattle.doc_schema.proofs.Earlier.{earlier_by, later}
use Rattle.doc_schema.proofs.schema.is_earlier.Goals as goal

pub returns-then-branch : goal.returns-then-branch
returns-then-branch c = later (view c.args.whole.now) (sym c.if-branch.true ∙ c.in_ok-some_position_has.ensures)

pub returns : goal.returns
returns c =
    let s = view c.args.whole.now in
    earlier_by s c.in_ok-some_position_has-2.field-0 (untold Two LeftOut s (sym c.if-branch.false ∙ c.in_ok-some_position_has.ensures)) c.in_ok-some_position_has-2.ensures
