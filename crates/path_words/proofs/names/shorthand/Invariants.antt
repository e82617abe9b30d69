use Rattle.std.proofs.Common.{◌≡◌, length, string_bytes}
use Rattle.path_grammar.specs.Characters.{is_name_char}
use Rattle.path_grammar.specs.Reading.{read_run}
use Rattle.path_words.proofs.Loops.{name_after}
use Rattle.path_words.proofs.names.shorthand.Given as goal

abbrev pub invariant-loop-rest : goal.invariant-loop-rest
invariant-loop-rest l =
    name_after (string_bytes l.name) (read_run is_name_char l.rest)
    ≡ name_after (string_bytes l.initial.name) (read_run is_name_char l.initial.rest)

abbrev pub decreases-loop-rest : goal.decreases-loop-rest
decreases-loop-rest l = length l.rest
