use Rattle.std.proofs.Common.{sym, ap}
use Rattle.schema_rules.specs.Keywords.{for_sizes}
use Rattle.schema_rules.proofs.names.for_sizes.Goals as goal

pub returns-in-minLength : goal.returns-in-minLength
unfolding for_sizes
returns-in-minLength c = ap for_sizes (sym c.in-minLength.is)

pub returns-in-maxLength : goal.returns-in-maxLength
unfolding for_sizes
returns-in-maxLength c = ap for_sizes (sym c.in-maxLength.is)

pub returns-in-minItems : goal.returns-in-minItems
unfolding for_sizes
returns-in-minItems c = ap for_sizes (sym c.in-minItems.is)

pub returns-in-maxItems : goal.returns-in-maxItems
unfolding for_sizes
returns-in-maxItems c = ap for_sizes (sym c.in-maxItems.is)

pub returns-in-uniqueItems : goal.returns-in-uniqueItems
unfolding for_sizes
returns-in-uniqueItems c = ap for_sizes (sym c.in-uniqueItems.is)

pub returns-in-minProperties : goal.returns-in-minProperties
unfolding for_sizes
returns-in-minProperties c = ap for_sizes (sym c.in-minProperties.is)

pub returns-in-maxProperties : goal.returns-in-maxProperties
unfolding for_sizes
returns-in-maxProperties c = ap for_sizes (sym c.in-maxProperties.is)

pub returns-in-required : goal.returns-in-required
unfolding for_sizes
returns-in-required c = ap for_sizes (sym c.in-required.is)

pub returns-in-dependentRequired : goal.returns-in-dependentRequired
unfolding for_sizes
returns-in-dependentRequired c = ap for_sizes (sym c.in-dependentRequired.is)
