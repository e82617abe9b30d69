-- The answers of the reading calls, but for queries.
use Rattle.std.specs.Prelude.{ℕ, List, map, if◌then◌else◌, Option, None, Some, Result, Ok, Err}
use Rattle.doc_tree.specs.Doc.{Doc}
use Rattle.doc_pointer.specs.Place.{resolve}
use Rattle.refusals.specs.declared.numbers.TheConstants.{NAME, NO_DOCUMENT, NO_VALUE}
use Rattle.doc_changes.specs.Refusals.{plain}
use Rattle.doc_changes.specs.Marks.{Mark, mark_of}
use Rattle.doc_changes.specs.State.{Document, State, find}
use Rattle.doc_changes.specs.Names.{is_name}
use Rattle.doc_changes.specs.declared.refusal.Refusal.{Refusal}

-- what is there, or that refusal
abbrev pub found_or : {A : Type 0} → ℕ → Option A → Result A Refusal
found_or n None = Err (plain n)
found_or n (Some a) = Ok a

-- the document of that name, or why there is none
abbrev pub document_at : State → List ℕ → Result Document Refusal
document_at s name = if is_name name then found_or NO_DOCUMENT (find name s.documents) else Err (plain NAME)

-- what the document's part f answers
abbrev pub in_document : {A : Type 0} → (Document → Result A Refusal) → Result Document Refusal → Result A Refusal
in_document f (Ok d) = f d
in_document f (Err r) = Err r

-- the schema of the document of that name
abbrev pub schema_at : State → List ℕ → Result Doc Refusal
schema_at s name = in_document (λ d. Ok d.schema) (document_at s name)

-- the revision of the document of that name
abbrev pub revision_at : State → List ℕ → Result ℕ Refusal
revision_at s name = in_document (λ d. Ok d.revision) (document_at s name)

-- the value in the document of that name to which the tokens lead (RFC 6901, section 4)
abbrev pub value_at : State → List ℕ → List (List ℕ) → Result Doc Refusal
value_at s name tokens = in_document (λ d. found_or NO_VALUE (resolve tokens d.doc)) (document_at s name)

-- the mark of that key, if it was set and isn't gone
abbrev pub mark_at : State → List ℕ → Result (Option Mark) Refusal
mark_at s key = if is_name key then Ok (mark_of key s.marks) else Err (plain NAME)

-- the names in the order of creation
abbrev pub names_of : State → List (List ℕ)
names_of s = map (λ d. d.name) s.documents
