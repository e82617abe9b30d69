use Rattle.std.proofs.Common.{sym, ap}
use Rattle.schema_rules.specs.Keywords.{for_numbers}
use Rattle.schema_rules.proofs.names.for_numbers.Goals as goal

pub returns-in-multipleOf : goal.returns-in-multipleOf
unfolding for_numbers
returns-in-multipleOf c = ap for_numbers (sym c.in-multipleOf.is)

pub returns-in-minimum : goal.returns-in-minimum
unfolding for_numbers
returns-in-minimum c = ap for_numbers (sym c.in-minimum.is)

pub returns-in-maximum : goal.returns-in-maximum
unfolding for_numbers
returns-in-maximum c = ap for_numbers (sym c.in-maximum.is)

pub returns-in-exclusiveMinimum : goal.returns-in-exclusiveMinimum
unfolding for_numbers
returns-in-exclusiveMinimum c = ap for_numbers (sym c.in-exclusiveMinimum.is)

pub returns-in-exclusiveMaximum : goal.returns-in-exclusiveMaximum
unfolding for_numbers
returns-in-exclusiveMaximum c = ap for_numbers (sym c.in-exclusiveMaximum.is)
