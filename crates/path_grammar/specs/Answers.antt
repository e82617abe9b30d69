-- The three answers to a text: it spells one query in profile, only queries outside it, or none.
use Rattle.std.specs.Prelude.{◌≡◌, true}
use Rattle.path_grammar.specs.Syntax.{Segments}
use Rattle.path_grammar.specs.Characters.{Text}
use Rattle.path_grammar.specs.Grammar.{Spells}
use Rattle.path_grammar.specs.Profile.{segments_left_out, InProfile}

-- the text spells the query, which is in profile, and no other query
abbrev pub SpellsOnly : Segments → Text → Type 0
SpellsOnly q t = Spells q t × InProfile q × ((w : Segments) → Spells w t → w ≡ q)

-- the text spells a query, and something is left out of each query that it spells
abbrev pub SpellsLeftOut : Text → Type 0
SpellsLeftOut t = ((w : Segments) × Spells w t) × ((w : Segments) → Spells w t → segments_left_out w ≡ true)

-- the text spells no query
abbrev pub SpellsNone : Text → Type 0
SpellsNone t = (w : Segments) → Spells w t → ⊥
