use Rattle.std.proofs.Common.{refl, sym, subst}
use Rattle.std.proofs.lemmas.Result.{IfOk-weaker}
use Rattle.doc_tree.specs.TreeView.{view}
use Rattle.schema_levels.specs.declared.node.Rule.TheVariants.{All, Any, One, ByPlace}
use Rattle.schema_nodes.specs.Fits.{Fits, known_near}
use Rattle.schema_rules.proofs.Others.{AsksNone}
use Rattle.schema_nodes.proofs.Fitting.{fits_alone}
use Rattle.schema_nodes.proofs.rules.rule_of.Goals as goal

pub returns-in_ok-copy-in-PrefixItems : goal.returns-in_ok-copy-in-PrefixItems
returns-in_ok-copy-in-PrefixItems c = subst (λ k. Fits c.args.targets.now c.args.ranks.now (view c.args.root.now) (known_near c.args.near.now) k (view c.args.value.now) c.args.row.now (ByPlace c.in_ok-copy-in-PrefixItems.field-0)) (sym c.in-PrefixItems.is) (c.in_ok-copy-in-PrefixItems.field-0, refl, c.in_ok-copy-in-PrefixItems.ensures)

pub returns-in_ok-copy-in-AllOf : goal.returns-in_ok-copy-in-AllOf
returns-in_ok-copy-in-AllOf c = subst (λ k. Fits c.args.targets.now c.args.ranks.now (view c.args.root.now) (known_near c.args.near.now) k (view c.args.value.now) c.args.row.now (All c.in_ok-copy-in-AllOf.field-0)) (sym c.in-AllOf.is) (c.in_ok-copy-in-AllOf.field-0, refl, c.in_ok-copy-in-AllOf.ensures)

pub returns-in_ok-copy-in-AnyOf : goal.returns-in_ok-copy-in-AnyOf
returns-in_ok-copy-in-AnyOf c = subst (λ k. Fits c.args.targets.now c.args.ranks.now (view c.args.root.now) (known_near c.args.near.now) k (view c.args.value.now) c.args.row.now (Any c.in_ok-copy-in-AnyOf.field-0)) (sym c.in-AnyOf.is) (c.in_ok-copy-in-AnyOf.field-0, refl, c.in_ok-copy-in-AnyOf.ensures)

pub returns-in_ok-copy-in-OneOf : goal.returns-in_ok-copy-in-OneOf
returns-in_ok-copy-in-OneOf c = subst (λ k. Fits c.args.targets.now c.args.ranks.now (view c.args.root.now) (known_near c.args.near.now) k (view c.args.value.now) c.args.row.now (One c.in_ok-copy-in-OneOf.field-0)) (sym c.in-OneOf.is) (c.in_ok-copy-in-OneOf.field-0, refl, c.in_ok-copy-in-OneOf.ensures)

pub returns-in_default : goal.returns-in_default
returns-in_default c =
    let none : AsksNone c.args.keyword = record {
      not_pattern = c.in_default.not-Pattern;
      not_properties = c.in_default.not-Properties;
      not_pattern_properties = c.requires;
      not_additional_properties = c.in_default.not-AdditionalProperties;
      not_property_names = c.in_default.not-PropertyNames;
      not_prefix_items = c.in_default.not-PrefixItems;
      not_items = c.in_default.not-Items;
      not_contains = c.in_default.not-Contains;
      not_max_contains = c.in_default.not-MaxContains;
      not_all_of = c.in_default.not-AllOf;
      not_any_of = c.in_default.not-AnyOf;
      not_one_of = c.in_default.not-OneOf;
      not_not = c.in_default.not-Not;
      not_then = c.in_default.not-Then;
      not_else = c.in_default.not-Else;
      not_dependent_schemas = c.in_default.not-DependentSchemas;
      not_ref = c.in_default.not-Ref;
    } in
    IfOk-weaker c.alone.result _ _ (λ r h. fits_alone c.args.targets.now c.args.ranks.now (view c.args.root.now) (known_near c.args.near.now) c.args.keyword (view c.args.value.now) c.args.row.now r none h) c.alone.ensures
