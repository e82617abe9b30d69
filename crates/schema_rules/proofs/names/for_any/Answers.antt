use Rattle.std.proofs.Common.{sym, ap}
use Rattle.schema_rules.specs.Keywords.{for_any}
use Rattle.schema_rules.proofs.names.for_any.Goals as goal

pub returns-in-type : goal.returns-in-type
unfolding for_any
returns-in-type c = ap for_any (sym c.in-type.is)

pub returns-in-enum : goal.returns-in-enum
unfolding for_any
returns-in-enum c = ap for_any (sym c.in-enum.is)

pub returns-in-const : goal.returns-in-const
unfolding for_any
returns-in-const c = ap for_any (sym c.in-const.is)
