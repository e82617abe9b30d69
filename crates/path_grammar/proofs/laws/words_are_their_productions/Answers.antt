use Rattle.path_grammar.proofs.Follow.{shorthand_complete, string_complete, int_complete, number_complete}
use Rattle.path_grammar.proofs.Words.{shorthand_sound, string_sound, int_sound, number_sound_alone}
use Rattle.path_grammar.proofs.laws.words_are_their_productions.Goals as goal

pub returns-clause-names : goal.returns-clause-names
returns-clause-names c = shorthand_sound

pub returns-clause-names_back : goal.returns-clause-names_back
returns-clause-names_back c n t r = shorthand_complete

pub returns-clause-strings : goal.returns-clause-strings
returns-clause-strings c = string_sound

pub returns-clause-strings_back : goal.returns-clause-strings_back
returns-clause-strings_back c s t r = string_complete

pub returns-clause-ints : goal.returns-clause-ints
returns-clause-ints c = int_sound

pub returns-clause-ints_back : goal.returns-clause-ints_back
returns-clause-ints_back c z t r = int_complete

pub returns-clause-numbers : goal.returns-clause-numbers
returns-clause-numbers c = number_sound_alone

pub returns-clause-numbers_back : goal.returns-clause-numbers_back
returns-clause-numbers_back c l t r = number_complete
