use Rattle.std.proofs.Common.{◌≡◌, ◌-◌, string_bytes}
use Rattle.path_grammar.specs.Reading.{read_characters, read_quoted}
use Rattle.path_words.proofs.Loops.{string_after}
use Rattle.path_words.proofs.strings.quoted.Given as goal

abbrev pub invariant-loop : goal.invariant-loop
invariant-loop l = string_after (string_bytes l.found) (read_characters l.quote (l.end - l.counter) l.rest) ≡ read_quoted l.quote l.text
