use Rattle.doc_schema.proofs.Nodes.{judge_join}
use Rattle.doc_schema.proofs.laws.numbered_nodes_judge_alike.Goals as goal

pub returns : goal.returns
returns c = judge_join
