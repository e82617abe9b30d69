use Rattle.std.proofs.Common.{◌∙◌}
use Rattle.path_words.proofs.NumberLaw.{number_law}
use Rattle.path_words.proofs.numbers.number.Goals as goal

pub returns : goal.returns
returns c = c.capped_number.ensures ∙ number_law c.args.text.now
