-- For the clauses within the crate: the schemas that a schema applies to the instance itself, by numbers.
use Rattle.std.specs.Prelude.{◌≡◌, ⊤, ℕ, List, [], ◌∷◌, ◌++◌}
use Rattle.std.specs.Global.{Vec}
use Rattle.std.specs.Option.{option_to_list}
use Rattle.doc_tree.specs.Doc.{Doc, Members, member}
use Rattle.doc_tree.specs.TreeView.{view}
use Rattle.schema_rules.specs.Keywords.{keyword_of}
use Rattle.schema_rules.specs.Parts.{members_in}
use Rattle.schema_rules.specs.declared.keyword.Keyword.{Keyword}
use Rattle.schema_rules.specs.declared.keyword.Keyword.TheVariants.{AllOf, AnyOf, OneOf, Not, If, Then, Else, DependentSchemas, Ref}
use Rattle.schema_nodes.specs.Fits.{target_number}
use Rattle.schema_nodes.specs.declared.entries.Entry.{Entry}
use Rattle.schema_nodes.specs.declared.targets.Targets.{Targets}

-- the schemas that a keyword with this value applies, if these are the numbers of those that the value holds
abbrev pub edges_at : Targets → Doc → Keyword → Doc → List ℕ → List ℕ
edges_at ts root AllOf v row = row
edges_at ts root AnyOf v row = row
edges_at ts root OneOf v row = row
edges_at ts root Not v row = row
edges_at ts root If v row = row
edges_at ts root Then v row = row
edges_at ts root Else v row = row
edges_at ts root DependentSchemas v row = row
edges_at ts root Ref v row = option_to_list (target_number ts root v)
edges_at ts root _ v row = []

abbrev pub edges_in : Targets → Doc → Members → List (Vec ℕ) → List ℕ
edges_in ts root (member k v ms) (row ∷ rows) = edges_at ts root (keyword_of k) v row.items ++ edges_in ts root ms rows
edges_in ts root _ _ = []

-- the rows of a graph, one for each entry
abbrev pub AreEdges : Targets → Doc → List Entry → List (Vec ℕ) → Type 0
AreEdges ts root [] [] = ⊤
AreEdges ts root (e ∷ es) (r ∷ g) = (r.items ≡ edges_in ts root (members_in (view e.schema.now)) e.rows.items) × AreEdges ts root es g
AreEdges ts root _ _ = ⊥
