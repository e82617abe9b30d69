use Rattle.store_commits.proofs.Unique.{holds_one, stands_for_one}
use Rattle.store_commits.proofs.laws.one_state_stands.Goals as goal

pub returns-clause-bytes : goal.returns-clause-bytes
returns-clause-bytes c = holds_one c.frame_lists_differ.ensures c.logs_differ.ensures

pub returns-clause-images : goal.returns-clause-images
returns-clause-images c = stands_for_one c.images_carry_one.ensures c.frame_lists_differ.ensures c.logs_differ.ensures
