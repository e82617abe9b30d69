use Rattle.store_commits.proofs.Changes.{holds_transaction}
use Rattle.store_commits.proofs.laws.transactions_are_appended.Goals as goal

pub returns : goal.returns
returns c = holds_transaction
