use Rattle.path_grammar.proofs.Singly.{segments, singular}
use Rattle.path_grammar.proofs.laws.singular_segments_are_the_standards.Goals as goal

pub returns : goal.returns
returns c q t r = (singular, segments)
