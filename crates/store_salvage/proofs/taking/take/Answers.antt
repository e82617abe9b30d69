use Rattle.std.proofs.Common.{◌∙◌, sym}
use Rattle.store_salvage.specs.Gathering.{placed_of}
use Rattle.store_salvage.proofs.Gathers.{asked, unasked}
use Rattle.store_salvage.proofs.taking.take.Goals as goal

pub returns-then-is_allowed-clause-goes : goal.returns-then-is_allowed-clause-goes
returns-then-is_allowed-clause-goes c = asked c.args.source (placed_of c.args.found) c.args.gathered c.take_change.result (sym c.is_noted.ensures ∙ c.if-is_noted.false) c.take_change.ensures.goes

pub returns-else-is_allowed-clause-goes : goal.returns-else-is_allowed-clause-goes
returns-else-is_allowed-clause-goes c = unasked c.args.source (placed_of c.args.found) c.args.gathered c.refuse.result (sym c.is_noted.ensures ∙ c.if-is_noted.false) (c.is_allowed.ensures c.if-is_allowed.false) c.refuse.ensures.same c.refuse.ensures.doubts
