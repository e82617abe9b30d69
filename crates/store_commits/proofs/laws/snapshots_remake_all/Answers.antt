use Rattle.store_commits.proofs.Snapshots.{remakes_all}
use Rattle.store_commits.proofs.laws.snapshots_remake_all.Goals as goal

pub returns : goal.returns
returns c = remakes_all c.storable_documents_are_framed.ensures
