use Rattle.std.proofs.Common.{◌≡◌, ◌<◌, ◌^◌, length}
use Rattle.path_words.specs.CappedNumbers.{read_capped_digits}
use Rattle.path_words.proofs.integers.capped_digits.Given as goal

abbrev pub invariant-loop-rest : goal.invariant-loop-rest
invariant-loop-rest l = (l.number < 2 ^ 68) × (read_capped_digits l.number l.rest ≡ read_capped_digits l.fn.first l.text)

abbrev pub decreases-loop-rest : goal.decreases-loop-rest
decreases-loop-rest l = length l.rest
