use Rattle.log_frames.proofs.Places.{Complete-after, Complete-before, Complete-end, Lead-one}
use Rattle.log_frames.proofs.laws.frames_lead_from_place_to_place.Goals as goal

pub returns-clause-after : goal.returns-clause-after
returns-clause-after c = Complete-after

pub returns-clause-before : goal.returns-clause-before
returns-clause-before c = Complete-before

pub returns-clause-ends : goal.returns-clause-ends
returns-clause-ends c = Complete-end

pub returns-clause-one : goal.returns-clause-one
returns-clause-one c = Lead-one
