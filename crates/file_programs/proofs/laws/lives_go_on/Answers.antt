use Rattle.file_programs.proofs.Lives.{opens_to, leaves_last, leaves_some}
use Rattle.file_programs.proofs.laws.lives_go_on.Goals as goal

pub returns-clause-opens : goal.returns-clause-opens
returns-clause-opens c = opens_to c.one_state_stands.ensures.images

pub returns-clause-ends : goal.returns-clause-ends
returns-clause-ends c = leaves_last

pub returns-clause-stops : goal.returns-clause-stops
returns-clause-stops c = leaves_some c.one_state_stands.ensures.images
