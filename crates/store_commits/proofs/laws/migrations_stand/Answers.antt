use Rattle.store_commits.proofs.Migrating.{migration_stands}
use Rattle.store_commits.proofs.laws.migrations_stand.Goals as goal

pub returns : goal.returns
returns c = migration_stands
