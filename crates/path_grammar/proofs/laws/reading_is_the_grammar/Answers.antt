use Rattle.path_grammar.proofs.Complete.{query_complete_whole}
use Rattle.path_grammar.proofs.Sound.{query_sound}
use Rattle.path_grammar.proofs.laws.reading_is_the_grammar.Goals as goal

pub returns-clause-sound : goal.returns-clause-sound
returns-clause-sound c t q left_out e = query_sound t (q, left_out) e

pub returns-clause-complete : goal.returns-clause-complete
returns-clause-complete c t w s = query_complete_whole w t s
