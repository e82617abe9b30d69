-- The answers to queries.
use Rattle.std.specs.Prelude.{ℕ, List, if◌then◌else◌, Result, Ok, Err}
use Rattle.doc_tree.specs.Doc.{Doc}
use Rattle.path_grammar.specs.Syntax.{Segments}
use Rattle.path_eval.specs.Evaluating.{nodelist}
use Rattle.path_eval.specs.Nodes.{Located, only_node}
use Rattle.path_eval.specs.TooMany.{too_many}
use Rattle.refusals.specs.declared.numbers.TheConstants.{PATH_NODES}
use Rattle.doc_changes.specs.Refusals.{plain}
use Rattle.doc_changes.specs.declared.refusal.Refusal.{Refusal}
use Rattle.doc_changes.specs.Reading.{document_at, in_document}
use Rattle.doc_changes.specs.State.{State}

-- what the query selects from a value: each node with its location and its value; refused if a list of its evaluation
-- has too many nodes (RFC 9535, section 2.1.2)
abbrev pub nodes_in : Segments → Doc → Result (List Located) Refusal
nodes_in q d = if too_many d q (only_node d) then Err (plain PATH_NODES) else Ok (nodelist d q (only_node d))

-- what the query selects in the document of that name
abbrev pub nodes_at : State → List ℕ → Segments → Result (List Located) Refusal
nodes_at s name q = in_document (λ d. nodes_in q d.doc) (document_at s name)
