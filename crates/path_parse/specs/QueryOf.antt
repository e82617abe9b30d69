-- The query that a normalized path spells, and of which locations it does (RFC 9535, section 2.7).
use Rattle.std.specs.Prelude.{◌≡◌, ◌⊎◌, ◌^◌, ◌<◌, ◌≤◌, false, List, [], ◌∷◌, length, pos, encode_utf8_all, IsUtf8, ⊤}
use Rattle.doc_tree.specs.Doc.{Place, name, index}
use Rattle.refusals.specs.declared.numbers.TheConstants.{MEMORY, PATH_LONG}
use Rattle.path_grammar.specs.Syntax.{Selector, name_selector, index_selector, no_selectors, selector, Segments, no_segments, segment}
use Rattle.path_parse.specs.SyntaxView.{query_view}
use Rattle.path_parse.specs.declared.fault.QueryFault.{QueryFault}
use Rattle.path_parse.specs.declared.syntax.Query.{Query}
use Rattle.path_parse.specs.NormalPath.{normal_path}

-- the selector of a step: its name, or its index
abbrev pub selector_of : Place → Selector
selector_of (name k) = name_selector k
selector_of (index n) = index_selector (pos n)

-- a child segment for each step, with the step's selector alone
abbrev pub query_of : List Place → Segments
query_of [] = no_segments
query_of (p ∷ ps) = segment false (selector (selector_of p) no_selectors) (query_of ps)

-- the name is UTF-8, as each name in memory is
abbrev pub HasUtf8Name : Place → Type 0
HasUtf8Name (name k) = IsUtf8 k
HasUtf8Name (index n) = ⊤

-- the index is an exact integer of I-JSON, as an index of a query has to be (section 2.1)
abbrev pub HasExactIndex : Place → Type 0
HasExactIndex (name k) = ⊤
HasExactIndex (index n) = n < 2 ^ 53

-- the query, of a normalized path that is no longer than a query may be
abbrev pub IsQueryOfPath : List Place → Query → Type 0
IsQueryOfPath ps query = (length (encode_utf8_all (normal_path ps)) ≤ 1024) × (query_view query ≡ query_of ps)

-- the normalized path is longer than a query may be, or there was no memory
abbrev pub IsFaultOfPath : List Place → QueryFault → Type 0
IsFaultOfPath ps fault =
    ((fault.number ≡ PATH_LONG) × (1024 < length (encode_utf8_all (normal_path ps)))) ⊎ (fault.number ≡ MEMORY)
