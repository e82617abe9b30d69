use Rattle.std.proofs.Common.{sym}
use Rattle.protocol.proofs.Cuts.{cut_found, cut_none}
use Rattle.protocol.proofs.cut.cut_at_feed.Goals as goal

pub returns-in-Some : goal.returns-in-Some
returns-in-Some c = cut_found c.args.bytes.now c.in-Some.at (sym c.in-Some.ensures)

pub returns-in-None : goal.returns-in-None
returns-in-None c = cut_none c.args.bytes.now (sym c.in-None.ensures)
