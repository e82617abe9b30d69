use Rattle.store_commits.proofs.Raised.{holds_raised}
use Rattle.store_commits.proofs.laws.holdings_of_earlier_profiles_stay.Goals as goal

pub returns : goal.returns
returns c = holds_raised c.earlier_profiles_stay.ensures.changes
