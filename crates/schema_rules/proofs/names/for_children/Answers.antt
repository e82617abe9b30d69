use Rattle.std.proofs.Common.{sym, ap}
use Rattle.schema_rules.specs.Keywords.{for_children}
use Rattle.schema_rules.proofs.names.for_children.Goals as goal

pub returns-in-properties : goal.returns-in-properties
unfolding for_children
returns-in-properties c = ap for_children (sym c.in-properties.is)

pub returns-in-additionalProperties : goal.returns-in-additionalProperties
unfolding for_children
returns-in-additionalProperties c = ap for_children (sym c.in-additionalProperties.is)

pub returns-in-propertyNames : goal.returns-in-propertyNames
unfolding for_children
returns-in-propertyNames c = ap for_children (sym c.in-propertyNames.is)

pub returns-in-prefixItems : goal.returns-in-prefixItems
unfolding for_children
returns-in-prefixItems c = ap for_children (sym c.in-prefixItems.is)

pub returns-in-items : goal.returns-in-items
unfolding for_children
returns-in-items c = ap for_children (sym c.in-items.is)

pub returns-in-contains : goal.returns-in-contains
unfolding for_children
returns-in-contains c = ap for_children (sym c.in-contains.is)

pub returns-in-minContains : goal.returns-in-minContains
unfolding for_children
returns-in-minContains c = ap for_children (sym c.in-minContains.is)

pub returns-in-maxContains : goal.returns-in-maxContains
unfolding for_children
returns-in-maxContains c = ap for_children (sym c.in-maxContains.is)
