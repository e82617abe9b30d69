-- For the clauses within the crate: the schemas that the members of schemas hold, to be found by the names of both.
use Rattle.std.specs.Prelude.{◌≡◌, ⊤, ℕ, List, [], ◌∷◌, ◌++◌, map}
use Rattle.std.specs.Global.{Vec}
use Rattle.doc_tree.specs.Doc.{Doc, Members, no_members, member}
use Rattle.doc_tree.specs.Lists.{values_list}
use Rattle.doc_tree.specs.TreeView.{view}
use Rattle.schema_rules.specs.Keywords.{keyword_of, shape_of}
use Rattle.schema_rules.specs.Parts.{members_in}
use Rattle.schema_rules.specs.declared.keyword.Shape.{Shape}
use Rattle.schema_rules.specs.declared.keyword.Shape.TheVariants.{Plain, Named}
use Rattle.schema_nodes.specs.Nodes.{AreNamed}
use Rattle.schema_nodes.specs.declared.entries.Entry.{Entry}
use Rattle.schema_nodes.specs.declared.held.Held.{Held}

-- the name and the row are these, and the numbers by name are those of the row
pub record IsHeld (k : List ℕ) (v : Doc) (numbers : List ℕ) (h : Held) : Type 0 where
  pub name : h.name.now ≡ k
  pub row : h.row.now ≡ numbers
  pub named : (schema : ℕ → Doc) → shape_of (keyword_of k) ≡ Named → map schema numbers ≡ values_list (members_in v) → AreNamed schema h.named.entries (members_in v)

-- a member of that shape is added, if the shape has schemas
abbrev pub AddsHeld : Shape → List ℕ → Doc → List ℕ → List Held → List Held → Type 0
AddsHeld Plain k v row old new = new ≡ old
AddsHeld _ k v row old new = (h : Held) × IsHeld k v row h × (new ≡ old ++ h ∷ [])

-- the first is that of a member of that shape, if the shape has schemas, and the others are as said
abbrev pub Begins : Shape → List ℕ → Doc → List ℕ → (List Held → Type 0) → List Held → Type 0
Begins Plain k v row Rest hs = Rest hs
Begins _ k v row Rest [] = ⊥
Begins _ k v row Rest (h ∷ hs) = IsHeld k v row h × Rest hs

-- those of the members that may hold schemas, in order
abbrev pub Holds : Members → List (Vec ℕ) → List Held → Type 0
Holds (member k v ms) (row ∷ rows) hs = Begins (shape_of (keyword_of k)) k v row.items (λ more. Holds ms rows more) hs
Holds _ _ hs = hs ≡ []

-- for each entry those of its schema
abbrev pub AreHeld : List Entry → List (Vec Held) → Type 0
AreHeld [] [] = ⊤
AreHeld (e ∷ es) (hs ∷ all) = Holds (members_in (view e.schema.now)) e.rows.items hs.items × AreHeld es all
AreHeld _ _ = ⊥
