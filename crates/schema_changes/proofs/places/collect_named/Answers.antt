use Rattle.schema_levels.proofs.Finding.{knows_name}
use Rattle.schema_changes.proofs.places.collect_named.Goals as goal

pub collect-requires-clause-known : goal.collect-requires-clause-known
collect-requires-clause-known c = knows_name _ c.args.nodes.now c.args.asked.now c.sought.result c.args.key.now c.find-names.result c.requires.searched c.sought.ensures c.find-names.ensures.value
