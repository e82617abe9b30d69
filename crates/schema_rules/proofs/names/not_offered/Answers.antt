use Rattle.std.proofs.Common.{sym, ap}
use Rattle.schema_rules.specs.Keywords.{not_offered}
use Rattle.schema_rules.proofs.names.not_offered.Goals as goal

pub returns-in-pattern : goal.returns-in-pattern
unfolding not_offered
returns-in-pattern c = ap not_offered (sym c.in-pattern.is)

pub returns-in-patternProperties : goal.returns-in-patternProperties
unfolding not_offered
returns-in-patternProperties c = ap not_offered (sym c.in-patternProperties.is)

pub returns-in-unevaluatedItems : goal.returns-in-unevaluatedItems
unfolding not_offered
returns-in-unevaluatedItems c = ap not_offered (sym c.in-unevaluatedItems.is)

pub returns-in-unevaluatedProperties : goal.returns-in-unevaluatedProperties
unfolding not_offered
returns-in-unevaluatedProperties c = ap not_offered (sym c.in-unevaluatedProperties.is)

pub returns-in-dependentSchemas : goal.returns-in-dependentSchemas
unfolding not_offered
returns-in-dependentSchemas c = ap not_offered (sym c.in-dependentSchemas.is)

pub returns-in-text : goal.returns-in-text
unfolding not_offered
returns-in-text c = ap not_offered (sym c.in-text.is)

pub returns-in-text-2 : goal.returns-in-text-2
unfolding not_offered
returns-in-text-2 c = ap not_offered (sym c.in-text-2.is)

pub returns-in-text-3 : goal.returns-in-text-3
unfolding not_offered
returns-in-text-3 c = ap not_offered (sym c.in-text-3.is)

pub returns-in-text-4 : goal.returns-in-text-4
unfolding not_offered
returns-in-text-4 c = ap not_offered (sym c.in-text-4.is)
