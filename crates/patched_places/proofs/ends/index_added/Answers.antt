use Rattle.std.proofs.Common.{sym, ◌∙◌}
use Rattle.patched_places.proofs.AtEnd.{added_dash, added_index}
use Rattle.patched_places.proofs.ends.index_added.Goals as goal

pub returns-then-eq : goal.returns-then-eq
returns-then-eq c = added_dash c.args.len _ c.args.token.now c.saturating_sub-last.ensures (sym c.eq.ensures ∙ c.if-eq.true)

pub returns : goal.returns
returns c = added_index c.args.len _ c.args.token.now c.index_behind.result c.saturating_sub-last.ensures (sym c.eq.ensures ∙ c.if-eq.false) c.index_behind.ensures
