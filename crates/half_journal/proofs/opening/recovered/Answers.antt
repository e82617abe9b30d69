use Rattle.half_journal.proofs.Opened.{knows_read}
use Rattle.half_journal.proofs.opening.recovered.Goals as goal

pub returns-clause-knows : goal.returns-clause-knows
returns-clause-knows c = knows_read c.args.commit c.args.bytes.now c.sector_at.result c.requires.size c.sector_at.ensures
