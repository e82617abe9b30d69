-- Nodes that represent schemas: what a node must say, and which schema a number represents.
use Rattle.std.specs.Prelude.{◌≡◌, ◌⊎◌, ⊤, ℕ, List, [], ◌∷◌, map, Bool, true, Option, Some, None, option_map, slice_get, length, String, codes}
use Rattle.std.specs.Global.{Vec}
use Rattle.std.specs.Option.{option_and_then}
use Rattle.std.specs.declared.alloc.Global.{Global}
use Rattle.doc_tree.specs.Doc.{Doc, boolean, object, Members, no_members, member, get_member}
use Rattle.doc_tree.specs.Lists.{elements_list}
use Rattle.schema_rules.specs.Keywords.{keyword_of, shape_of}
use Rattle.schema_rules.specs.Parts.{elements_in, members_in, beside}
use Rattle.schema_rules.specs.Rules.{asks, joins}
use Rattle.schema_rules.specs.declared.keyword.Keyword.{Keyword}
use Rattle.schema_nodes.specs.Rules.{schemas_asked, AreRulesFor}
use Rattle.schema_rules.specs.Schemas.{held_in, schemas}
use Rattle.schema_graph.specs.Orders.{at}
use Rattle.schema_graph.specs.Walks.{In}
use Rattle.schema_levels.specs.Below.{number_named}
use Rattle.schema_levels.specs.Nodes.{node_get}
use Rattle.schema_levels.specs.Table.{rule_of, joined_by}
use Rattle.schema_levels.specs.declared.node.Node.{Node}
use Rattle.schema_levels.specs.declared.node.Rule.{Rule}
use Rattle.schema_levels.specs.declared.node.Rule.TheVariants.{Says}
use Rattle.schema_nodes.specs.declared.entries.Entry.{Entry}
use Rattle.schema_nodes.specs.Entries.{doc_at}

-- ---- numbers of the entries, and their ranks in an order

abbrev pub or_else : Doc → Option Doc → Doc
or_else x None = x
or_else x (Some d) = d

-- the schema of that rank, one that passes everything past the last
abbrev pub schema_of : List ℕ → List Entry → ℕ → Doc
schema_of places es q = or_else (boolean true) (option_and_then (doc_at es) (slice_get places q))

-- the ranks of these numbers, one by one
abbrev pub Moved : List ℕ → List ℕ → List ℕ → Type 0
Moved ranks [] [] = ⊤
Moved ranks (c ∷ row) (j ∷ js) = (j ≡ at ranks c) × Moved ranks row js
Moved ranks _ _ = ⊥

abbrev pub AreMoved : List ℕ → List (Vec ℕ) → List (Vec ℕ) → Type 0
AreMoved ranks [] [] = ⊤
AreMoved ranks (row ∷ rows) (js ∷ more) = Moved ranks row.items js.items × AreMoved ranks rows more
AreMoved ranks _ _ = ⊥

-- ---- a rule

-- for each member the numbers of the schemas that it holds
abbrev pub HaveRows : (ℕ → Doc) → Members → List (Vec ℕ) → Type 0
HaveRows schema no_members [] = ⊤
HaveRows schema (member k v ms) (row ∷ rows) = (map schema row.items ≡ held_in (shape_of (keyword_of k)) v) × HaveRows schema ms rows
HaveRows schema _ _ = ⊥

-- the numbers at these names are those of these schemas
abbrev pub AreNamed : (ℕ → Doc) → List (String Global × ℕ) → Members → Type 0
AreNamed schema es ss = (k : List ℕ) → option_map schema (number_named k es) ≡ get_member k ss

-- the number is that of the schema that a reference names
abbrev pub Finds : (ℕ → Doc) → Option ℕ → Option Doc → Type 0
Finds schema o found = option_map schema o ≡ found

-- the node has what its rules need to know of the members beside them
pub record Suits (schema : ℕ → Doc) (beside-ms : Members) (x : Node) : Type 0 where
  pub named : AreNamed schema x.named.entries (members_in (beside (codes "properties") beside-ms))
  pub prefix : x.prefix ≡ length (elements_list (elements_in (beside (codes "prefixItems") beside-ms)))

-- the rule asks and joins as the keyword with this value does, in each node that suits
abbrev pub IsRule : (ℕ → Doc) → Doc → Members → Keyword → Doc → Rule → Type 0
IsRule schema root ms k v r = (x : Node) → Suits schema ms x
    → ((t : Doc) → schemas_asked schema ((rule_of x r).asked t) ≡ asks root ms k v t) × ((t : Doc) (bs : List Bool) → joined_by r t bs ≡ joins ms k v t bs)

-- ---- a node

-- the node says what the schema says
abbrev pub IsNodeFor : Doc → (ℕ → Doc) → Node → Doc → Type 0
IsNodeFor root schema x (boolean b) = x.rules.items ≡ Says b ∷ []
IsNodeFor root schema x (object ms) = AreRulesFor root schema ms (map (rule_of x) x.rules.items) ms
IsNodeFor root schema x _ = x.rules.items ≡ []

-- each node says what the schema of its number says, and past the last everything passes
pub record AreNodesFor (root : Doc) (schema : ℕ → Doc) (nodes : List Node) : Type 0 where
  pub says : (q : ℕ) (x : Node) → node_get nodes q ≡ Some x → IsNodeFor root schema x (schema q)
  pub past : (q : ℕ) → node_get nodes q ≡ None → schema q ≡ boolean true

-- each number is that of a schema of the whole one; a number past the last represents a schema that everything passes
abbrev pub AreNumbers : Doc → (ℕ → Doc) → Type 0
AreNumbers root schema = (p : ℕ) → In (schema p) (schemas root) ⊎ (schema p ≡ boolean true)
