use Rattle.std.proofs.Common.{sym, ap}
use Rattle.schema_rules.specs.Keywords.{of_core}
use Rattle.schema_rules.proofs.names.of_core.Goals as goal

pub returns-in-text : goal.returns-in-text
unfolding of_core
returns-in-text c = ap of_core (sym c.in-text.is)

pub returns-in-text-2 : goal.returns-in-text-2
unfolding of_core
returns-in-text-2 c = ap of_core (sym c.in-text-2.is)

pub returns-in-text-3 : goal.returns-in-text-3
unfolding of_core
returns-in-text-3 c = ap of_core (sym c.in-text-3.is)

pub returns-in-text-4 : goal.returns-in-text-4
unfolding of_core
returns-in-text-4 c = ap of_core (sym c.in-text-4.is)
