use Rattle.std.proofs.Common.{◌≡◌, length}
use Rattle.path_grammar.specs.Reading.{after_word}
use Rattle.path_words.proofs.characters.after_word.Given as goal

abbrev pub invariant-loop-wanted : goal.invariant-loop-wanted
invariant-loop-wanted l = after_word l.wanted l.rest ≡ after_word l.word l.text

abbrev pub decreases-loop-wanted : goal.decreases-loop-wanted
decreases-loop-wanted l = length l.wanted
