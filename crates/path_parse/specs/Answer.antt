-- The answer to a text that is read.
use Rattle.std.specs.Prelude.{◌≡◌, ◌⊎◌, ◌≤◌, ◌<◌, ℕ, List, length, chars}
use Rattle.path_grammar.specs.Characters.{Text}
use Rattle.path_grammar.specs.Answers.{SpellsOnly, SpellsLeftOut, SpellsNone}
use Rattle.path_parse.specs.SyntaxView.{query_view}
use Rattle.path_parse.specs.declared.fault.QueryFault.{QueryFault}
use Rattle.refusals.specs.declared.numbers.TheConstants.{PATH, PATH_LEFT_OUT, PATH_LONG, MEMORY}
use Rattle.path_parse.specs.declared.syntax.Query.{Query}

-- the text, not too long, spells the query, which is in profile, and no other query
abbrev pub IsQueryOf : List ℕ → Query → Type 0
IsQueryOf text q = (length text ≤ 1024) × SpellsOnly (query_view q) (chars text)

-- of characters: only queries outside the profile are spelled, or none, or there was no memory
abbrev pub IsFaultOfCharacters : Text → QueryFault → Type 0
IsFaultOfCharacters t fault =
    ((fault.number ≡ PATH_LEFT_OUT) × SpellsLeftOut t) ⊎ (((fault.number ≡ PATH) × SpellsNone t) ⊎ (fault.number ≡ MEMORY))

-- of a text: it is too long; or only queries outside the profile are spelled, or none; or there was no memory
abbrev pub IsFaultOf : List ℕ → QueryFault → Type 0
IsFaultOf text fault =
    ((fault.number ≡ PATH_LONG) × (1024 < length text)) ⊎
    ((length text ≤ 1024) × IsFaultOfCharacters (chars text) fault)
