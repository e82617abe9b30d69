-- For the clauses within the crate: the schemas in a schema by numbers: each with the numbers of those that its members hold.
use Rattle.std.specs.Prelude.{◌≡◌, ⊤, ℕ, zero, suc, List, [], ◌∷◌, ◌++◌, ◌+◌, length, Option, Some, None, slice_get}
use Rattle.std.specs.Global.{Vec}
use Rattle.doc_tree.specs.Doc.{Doc, Members, no_members, member}
use Rattle.doc_tree.specs.TreeView.{view}
use Rattle.schema_graph.specs.Walks.{In}
use Rattle.schema_rules.specs.Keywords.{keyword_of, shape_of}
use Rattle.schema_rules.specs.Parts.{members_in}
use Rattle.schema_rules.specs.Schemas.{schemas, held_in}
use Rattle.schema_nodes.specs.Wants.{members_want, schemas_want}
use Rattle.schema_nodes.specs.declared.entries.Entry.{Entry}
use Rattle.schema_nodes.specs.declared.entries.Grown.{Grown}
use Rattle.schema_nodes.specs.declared.entries.Rows.{Rows}

-- the schema of that number
abbrev pub doc_at : List Entry → ℕ → Option Doc
doc_at [] n = None
doc_at (e ∷ es) zero = Some (view e.schema.now)
doc_at (e ∷ es) (suc n) = doc_at es n

-- the numbers are those of these schemas, one by one
abbrev pub StandFor : (ℕ → Option Doc) → List ℕ → List Doc → Type 0
StandFor at [] [] = ⊤
StandFor at (n ∷ row) (d ∷ ds) = (at n ≡ Some d) × StandFor at row ds
StandFor at _ _ = ⊥

-- as many rows as members
abbrev pub AsMany : Members → List (Vec ℕ) → Type 0
AsMany no_members [] = ⊤
AsMany (member k v ms) (row ∷ rows) = AsMany ms rows
AsMany _ _ = ⊥

-- for each member the numbers of the schemas that it holds
abbrev pub AreRows : (ℕ → Option Doc) → Members → List (Vec ℕ) → Type 0
AreRows at no_members [] = ⊤
AreRows at (member k v ms) (row ∷ rows) = StandFor at row.items (held_in (shape_of (keyword_of k)) v) × AreRows at ms rows
AreRows at _ _ = ⊥

-- each is a schema of the whole one, and has its rows
abbrev pub EachEntry : Doc → (ℕ → Option Doc) → List Entry → Type 0
EachEntry root at [] = ⊤
EachEntry root at (e ∷ es) = In (view e.schema.now) (schemas root) × AreRows at (members_in (view e.schema.now)) e.rows.items × EachEntry root at es

abbrev pub AreEntries : Doc → List Entry → Type 0
AreEntries root es = EachEntry root (doc_at es) es

-- what has a number keeps it
abbrev pub Grows : List Entry → List Entry → Type 0
Grows old new = (n : ℕ) (d : Doc) → doc_at old n ≡ Some d → doc_at new n ≡ Some d

-- every one of the first is one of the second
abbrev pub Among : List Doc → List Doc → Type 0
Among xs ys = (d : Doc) → In d xs → In d ys

-- how many counters the schemas of these entries need at most
abbrev pub entries_want : List Entry → ℕ
entries_want [] = 0
entries_want (e ∷ es) = members_want (members_in (view e.schema.now)) + entries_want es

-- as many entries are added as there are schemas in the list, and their schemas need as many counters
pub record AddsAll (old new : List Entry) (below : List Doc) : Type 0 where
  pub many : length new ≡ length old + length below
  pub wants : entries_want new ≡ entries_want old + schemas_want below

-- numbers of these schemas are added to the row; `below` has all schemas in them
pub record Adds (root : Doc) (old new : Grown) (below ds : List Doc) : Type 0 where
  pub are : Among below (schemas root) → AreEntries root old.entries.items → AreEntries root new.entries.items
  pub grows : Grows old.entries.items new.entries.items
  pub row : (before : List Doc) → StandFor (doc_at old.entries.items) old.row.items before → StandFor (doc_at new.entries.items) new.row.items (before ++ ds)

-- the rows of these members are made
pub record Makes (root : Doc) (old : List Entry) (below : List Doc) (ms : Members) (new : Rows) : Type 0 where
  pub are : Among below (schemas root) → AreEntries root old → AreEntries root new.entries.items
  pub grows : Grows old new.entries.items
  pub rows : AreRows (doc_at new.entries.items) ms new.rows.items

-- each entry has a row for each member of its schema
abbrev pub HasRows : List Entry → Type 0
HasRows es = (n : ℕ) (e : Entry) → slice_get es n ≡ Some e → AsMany (members_in (view e.schema.now)) e.rows.items
