use Rattle.std.proofs.Common.{◌+◌, [], get_or, ap, subst, ◌∙◌}
use Rattle.sector_device.specs.History.{KeepsTo, seen_after}
use Rattle.sector_device.specs.declared.history.History.{History}
use Rattle.file_device.proofs.system.SystemFile.read_run.Goals as goal

pub returns-in-Ok-clause-honest : goal.returns-in-Ok-clause-honest
returns-in-Ok-clause-honest c = λ n keeps. subst (KeepsTo n) c.take_told-told.ensures (c.note_read.ensures.honest n keeps)

pub returns-in-Ok-clause-gave : goal.returns-in-Ok-clause-gave
returns-in-Ok-clause-gave c = λ n keeps j lt. c.note_read.ensures.gave n keeps j lt ∙ ap (λ (h : History). get_or (seen_after h) (c.args.first + j) []) c.take_told-told.ensures
