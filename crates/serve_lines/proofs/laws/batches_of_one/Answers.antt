use Rattle.serve_lines.proofs.One.{one_never_waits}
use Rattle.serve_lines.proofs.laws.batches_of_one.Goals as goal

pub returns : goal.returns
returns g c = one_never_waits g.D.SectorDevice.disk
