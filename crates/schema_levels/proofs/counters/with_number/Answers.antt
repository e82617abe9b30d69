use Rattle.std.proofs.Common.{arith}
use Rattle.schema_levels.proofs.Giving.{if_ok, kept_on}
use Rattle.schema_levels.proofs.counters.with_number.Goals as goal

pub returns-clause-given : goal.returns-clause-given
returns-clause-given c = if_ok c.with_counter.result (λ cs h. (kept_on c.args.before c.in_ok-counters.counters cs c.in_ok-counters.ensures.given.0 h.0, h.1, h.2)) c.with_counter.ensures.given

pub returns-clause-few : goal.returns-clause-few
returns-clause-few c = if_ok c.with_counter.result (λ cs h. omega (arith, h, c.in_ok-counters.ensures.few)) c.with_counter.ensures.few
