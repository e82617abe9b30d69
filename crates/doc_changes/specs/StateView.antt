-- The view of documents that are kept, or lent.
use Rattle.std.specs.Prelude.{◌≡◌, ℕ, List, Some, map, string_bytes, String}
use Rattle.std.specs.declared.alloc.Global.{Global}
use Rattle.doc_tree.specs.TreeView.{view}
use Rattle.schema_rules.specs.declared.profile.Profile.{Profile}
use Rattle.doc_changes.specs.Marks.{Mark}
use Rattle.doc_changes.specs.State.{Document, State, find}
use Rattle.doc_changes.specs.declared.stored.Stored.{Stored}
use Rattle.doc_changes.specs.declared.lent.Lent.{Lent}
use Rattle.doc_changes.specs.declared.documents.Documents.TheInside.{Inside as Lends}

-- what is kept, as the document of that name
abbrev pub named : List ℕ → Stored → Document
named n s = record { name = n; schema = view s.schema; doc = s.doc; revision = s.revision }

-- an entry of the map as a document
abbrev pub document_of : String Global × Stored → Document
document_of e = named (string_bytes e.0) e.1

-- that is kept under the name
abbrev pub IsStoredAt : List ℕ → Stored → List Document → Type 0
IsStoredAt n s ds = find n ds ≡ Some (named n s)

-- the state whose documents are the entries of a map, with these marks, after `seq` changes
abbrev pub kept_state : List (String Global × Stored) → List Mark → ℕ → Profile → State
kept_state es marks seq profile = record { documents = map document_of es; marks = marks; seq = seq; profile = profile }

abbrev pub seen_of : Lends → State
seen_of l = kept_state l.documents.now.entries l.marks.now l.seq l.profile

-- one of them, with its name, its schema and its revision
abbrev pub lent_of : Lent → Document
lent_of l = record { name = l.name.now; schema = view l.schema.now; doc = view l.doc.now; revision = l.revision }
