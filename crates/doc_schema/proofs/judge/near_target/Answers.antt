use Rattle.std.proofs.Common.{◌∙◌}
use Rattle.doc_tree.specs.TreeView.{view}
use Rattle.schema_references.proofs.Kept.{same_target}
use Rattle.doc_schema.proofs.judge.near_target.Goals as goal

pub returns : goal.returns
returns c = c.earlier_target.ensures ∙ same_target (view c.args.root.now) (view c.args.value.now) c.requires
