use Rattle.std.proofs.Common.{refl}
use Rattle.doc_tree.specs.TreeView.{view}
use Rattle.schema_nodes.proofs.Fitting.{asserts_alone}
use Rattle.schema_nodes.proofs.rules.alone.Goals as goal

pub returns-in_ok-new-in_default : goal.returns-in_ok-new-in_default
returns-in_ok-new-in_default c = asserts_alone c.args.keyword (view c.args.value.now) _ (record {
  not_min_contains = c.in_default.not-MinContains;
  not_if = c.in_default.not-If;
  not_defs = c.in_default.not-Defs;
  not_anchor = c.in_default.not-Anchor;
  not_id = c.in_default.not-Id;
  not_dialect = c.in_default.not-Dialect;
  not_left_out = c.in_default.not-LeftOut;
  not_unknown = c.in_default.not-Unknown;
}) c.in_ok-new-in_default.field-0 refl c.in_ok-new-in_default.ensures
