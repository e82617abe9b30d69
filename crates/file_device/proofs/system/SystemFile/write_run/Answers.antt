use Rattle.std.proofs.Common.{subst}
use Rattle.sector_device.specs.History.{KeepsTo}
use Rattle.file_device.proofs.system.SystemFile.write_run.Goals as goal

pub returns-in-Ok-clause-honest : goal.returns-in-Ok-clause-honest
returns-in-Ok-clause-honest c = λ n keeps. subst (KeepsTo n) c.take_told-told.ensures (c.note_written.ensures.honest n keeps)

pub returns-in-Err-clause-honest : goal.returns-in-Err-clause-honest
returns-in-Err-clause-honest c = λ n keeps. subst (KeepsTo n) c.take_told-told.ensures (c.note_failed.ensures.honest n keeps)
