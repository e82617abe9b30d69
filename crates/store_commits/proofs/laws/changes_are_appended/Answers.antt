use Rattle.store_commits.proofs.Changes.{holds_more}
use Rattle.store_commits.proofs.laws.changes_are_appended.Goals as goal

pub returns : goal.returns
returns c = holds_more c.last_frames_are_those_of_format_2.ensures.one
