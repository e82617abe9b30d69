use Rattle.std.proofs.Common.{subst}
use Rattle.path_grammar.specs.Grammar.{Spells}
use Rattle.path_parse.specs.QueryOf.{query_of}
use Rattle.path_parse.proofs.Spelled.{steps_from_query}
use Rattle.path_parse.proofs.normal_laws.paths_differ.Goals as goal

pub returns : goal.returns
returns c steps others utf8 exact utf8_too exact_too same =
    let one = c.spells_its_query_only.ensures steps utf8 exact in
    let other = c.spells_its_query_only.ensures others utf8_too exact_too in
    steps_from_query steps others (other.2 (query_of steps) (subst (Spells (query_of steps)) same one.0))
