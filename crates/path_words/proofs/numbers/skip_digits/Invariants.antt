use Rattle.std.proofs.Common.{◌≡◌, length}
use Rattle.path_grammar.specs.Characters.{is_digit}
use Rattle.path_grammar.specs.Reading.{read_run}
use Rattle.path_words.proofs.numbers.skip_digits.Given as goal

abbrev pub invariant-loop-rest : goal.invariant-loop-rest
invariant-loop-rest l = (read_run is_digit l.rest).1 ≡ (read_run is_digit l.text).1

abbrev pub decreases-loop-rest : goal.decreases-loop-rest
decreases-loop-rest l = length l.rest
