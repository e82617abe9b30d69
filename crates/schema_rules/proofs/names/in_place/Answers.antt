use Rattle.std.proofs.Common.{sym, ap}
use Rattle.schema_rules.specs.Keywords.{in_place}
use Rattle.schema_rules.proofs.names.in_place.Goals as goal

pub returns-in-allOf : goal.returns-in-allOf
unfolding in_place
returns-in-allOf c = ap in_place (sym c.in-allOf.is)

pub returns-in-anyOf : goal.returns-in-anyOf
unfolding in_place
returns-in-anyOf c = ap in_place (sym c.in-anyOf.is)

pub returns-in-oneOf : goal.returns-in-oneOf
unfolding in_place
returns-in-oneOf c = ap in_place (sym c.in-oneOf.is)

pub returns-in-not : goal.returns-in-not
unfolding in_place
returns-in-not c = ap in_place (sym c.in-not.is)

pub returns-in-if : goal.returns-in-if
unfolding in_place
returns-in-if c = ap in_place (sym c.in-if.is)

pub returns-in-then : goal.returns-in-then
unfolding in_place
returns-in-then c = ap in_place (sym c.in-then.is)

pub returns-in-else : goal.returns-in-else
unfolding in_place
returns-in-else c = ap in_place (sym c.in-else.is)
