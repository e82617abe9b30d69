-- The entries that are low on a shelf.
use Rattle.std.specs.Prelude.{◌≡◌, ℕ, List, Some, length, option_map, codes}
use Rattle.std.specs.Result.{result_ok}
use Rattle.doc_machine.specs.Queries.{nodes_at}
use Rattle.doc_changes.specs.State.{State}
use Rattle.path_parse.specs.Answer.{IsQueryOf}
use Rattle.path_parse.specs.SyntaxView.{query_view}
use Rattle.path_parse.specs.declared.syntax.Query.{Query}

-- `n` nodes of the shelf of that name are selected by the one query that `$[?@ < 20]` spells (RFC 9535, section 2.3.5)
abbrev pub AreLow : State → List ℕ → ℕ → Type 0
AreLow s name n = (query : Query) × IsQueryOf (codes "$[?@ < 20]") query × (option_map length (result_ok (nodes_at s name (query_view query))) ≡ Some n)
