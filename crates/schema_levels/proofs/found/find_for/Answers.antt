use Rattle.schema_levels.proofs.Finding.{knows_name}
use Rattle.schema_levels.proofs.Searching.{still}
use Rattle.schema_levels.proofs.found.find_for.Goals as goal

pub returns-clause-known : goal.returns-clause-known
returns-clause-known c = knows_name _ c.args._nodes.now c.args._asked.now c.args.sought c.args.name.now c.find.result c.requires.searched c.requires.sought c.find.ensures.value

pub returns-clause-searched : goal.returns-clause-searched
returns-clause-searched c = still _ _ c.args._nodes.now c.find.ensures.same c.requires.searched
