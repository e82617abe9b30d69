use Rattle.path_grammar.proofs.OneQuery.{no_other_query}
use Rattle.path_grammar.proofs.laws.spells_no_other_query.Goals as goal

pub returns : goal.returns
returns c = no_other_query
