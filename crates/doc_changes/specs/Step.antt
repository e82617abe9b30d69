-- The step: what a change makes of a state, or why it is refused.
use Rattle.std.specs.Prelude.{◌≡◌, ◌≢◌, ℕ, ◌+◌, ◌⊎◌, not, List, [], ◌∷◌, ◌++◌, length, Option, None, Some, is_some, nat_lt, nat_le, nat_eq, ◌&&◌, if◌then◌else◌, Result, Ok, Err}
use Rattle.std.specs.Result.{result_err}
use Rattle.doc_tree.specs.Doc.{Doc, height}
use Rattle.doc_tree.specs.Text.{text_of}
use Rattle.doc_schema.specs.Faults.{MayHaveLargePatterns}
use Rattle.schema_rules.specs.declared.profile.Profile.{Profile}
use Rattle.record_text.specs.Change.{Change, create, patch, set_schema, delete}
use Rattle.doc_changes.specs.Patched.{patched, made_or, on_made}
use Rattle.doc_changes.specs.Refusals.{plain, other_revision, refused_if, first}
use Rattle.doc_changes.specs.Schema.{schema_refusal, is_valid}
use Rattle.doc_changes.specs.State.{Document, State, find, changed, most_documents, without}
use Rattle.doc_changes.specs.Names.{is_name}
use Rattle.doc_changes.specs.declared.refusal.Refusal.{Refusal}
use Rattle.refusals.specs.declared.numbers.TheConstants.{MEMORY, DEPTH, TOO_LARGE, NAME, EXISTS, NO_DOCUMENT, TOO_MANY, INVALID, FULL, DEVICE, BROKEN, SCHEMA_SIZE, SEQ_END}

-- ---- single reasons

-- the name is none
abbrev pub name_refusal : List ℕ → Option Refusal
name_refusal name = refused_if (not (is_name name)) NAME

-- a document of that name already exists
abbrev pub exists_refusal : List Document → List ℕ → Option Refusal
exists_refusal ds name = refused_if (is_some (find name ds)) EXISTS

-- there is no document of that name
abbrev pub absent_refusal : List Document → List ℕ → Option Refusal
absent_refusal ds name = refused_if (not (is_some (find name ds))) NO_DOCUMENT

-- as many documents as there may be in the profile already exist
abbrev pub room_refusal : Profile → List Document → Option Refusal
room_refusal profile ds = refused_if (nat_le (most_documents profile) (length ds)) TOO_MANY

-- a document nests too deep
abbrev pub depth_refusal : Doc → Option Refusal
depth_refusal doc = refused_if (nat_lt 64 (height doc)) DEPTH

-- its text is too long
abbrev pub size_refusal : Doc → Option Refusal
size_refusal doc = refused_if (nat_lt 1_048_576 (length (text_of doc))) TOO_LARGE

-- it isn't valid under the schema
abbrev pub invalid_refusal : Doc → Doc → Option Refusal
invalid_refusal schema doc = refused_if (not (is_valid schema doc)) INVALID

-- the patch asks for another revision than the document's, or for one over 2^63 - 1, which no body spells
abbrev pub revision_refusal : Option ℕ → ℕ → Option Refusal
revision_refusal None revision = None
revision_refusal (Some asked) revision = if nat_eq asked revision && nat_le asked 0x7fff_ffff_ffff_ffff then None else Some (other_revision revision)

-- the patch can't be read, or an operation of it fails
abbrev pub patch_refusal : Doc → Document → Option Refusal
patch_refusal ops d = result_err (patched ops d.doc)

-- what the whole patch makes isn't valid under the document's schema
abbrev pub outcome_refusal : Doc → Document → Option Refusal
outcome_refusal ops d = on_made (invalid_refusal d.schema) (patched ops d.doc)

-- seq can't rise
abbrev pub seq_refusal : ℕ → Option Refusal
seq_refusal seq = refused_if (nat_eq seq 0xffff_ffff_ffff_ffff) SEQ_END

-- ---- changes

-- why the document of that name refuses, if there is one and it does
abbrev pub refusal_at : (Document → Option Refusal) → Option Document → Option Refusal
refusal_at f None = None
refusal_at f (Some d) = f d

-- why these documents refuse a change, whose schema is read in the profile, in the order of refusals
abbrev pub refusals_in : Profile → List Document → Change → List (Option Refusal)
refusals_in profile ds (create name schema doc) =
    name_refusal name ∷ exists_refusal ds name ∷ room_refusal profile ds ∷ schema_refusal profile schema ∷ depth_refusal doc ∷ size_refusal doc ∷ invalid_refusal schema doc ∷ []
refusals_in profile ds (patch name ops if_rev) =
    name_refusal name ∷ absent_refusal ds name ∷ refusal_at (λ d. revision_refusal if_rev d.revision) (find name ds) ∷ refusal_at (patch_refusal ops) (find name ds) ∷ refusal_at (outcome_refusal ops) (find name ds) ∷ []
refusals_in profile ds (set_schema name schema) =
    name_refusal name ∷ absent_refusal ds name ∷ schema_refusal profile schema ∷ refusal_at (λ d. invalid_refusal schema d.doc) (find name ds) ∷ []
refusals_in profile ds (delete name) = name_refusal name ∷ absent_refusal ds name ∷ []

-- why a state refuses a change, if it does: the first of the reasons
abbrev pub refusal_of : State → Change → Option Refusal
refusal_of s c = first (refusals_in s.profile s.documents c ++ seq_refusal s.seq ∷ [])

-- the documents after a change that isn't refused; what it changes gets that revision
abbrev pub documents_after : List Document → Change → ℕ → List Document
documents_after ds (create name schema doc) rev = ds ++ record { name = name; schema = schema; doc = doc; revision = rev } ∷ []
documents_after ds (patch name ops if_rev) rev = changed (λ d. record { name = d.name; schema = d.schema; doc = made_or d.doc (patched ops d.doc); revision = rev }) name ds
documents_after ds (set_schema name schema) rev = changed (λ d. record { name = d.name; schema = schema; doc = d.doc; revision = rev }) name ds
documents_after ds (delete name) rev = without name ds

-- the state after a change that isn't refused
abbrev pub after : State → Change → State
after s c = record s { documents = documents_after s.documents c (s.seq + 1); seq = s.seq + 1 }

-- the refusal is the one that the state gives the change, or memory was refused
abbrev pub Refuses : State → Change → Refusal → Type 0
Refuses s c r = (r ≡ plain MEMORY) ⊎ (refusal_of s c ≡ Some r)

-- The change brings a schema without a fault that has patterns, and no reason before its schema refuses it. Only the patterns
-- of such a one may be too large.
abbrev pub MayBringLargePatterns : Profile → List Document → Change → Type 0
MayBringLargePatterns profile ds (create name schema doc) =
    (first (name_refusal name ∷ exists_refusal ds name ∷ room_refusal profile ds ∷ []) ≡ None) × MayHaveLargePatterns profile schema
MayBringLargePatterns profile ds (patch name ops if_rev) = ⊥
MayBringLargePatterns profile ds (set_schema name schema) = (first (name_refusal name ∷ absent_refusal ds name ∷ []) ≡ None) × MayHaveLargePatterns profile schema
MayBringLargePatterns profile ds (delete name) = ⊥

-- the refusal says that the patterns of the change's schema are too large
abbrev pub SaysLargePatterns : State → Change → Refusal → Type 0
SaysLargePatterns s c r = (r ≡ plain SCHEMA_SIZE) × MayBringLargePatterns s.profile s.documents c

-- The refusal of a change that a client sends: the same, or its patterns are too large. One that a journal holds is never
-- refused for these.
abbrev pub Denies : State → Change → Refusal → Type 0
Denies s c r = (r ≡ plain MEMORY) ⊎ (refusal_of s c ≡ Some r) ⊎ SaysLargePatterns s c r

-- The refusal is the machine's own: those that a full, failing or broken device gives are others.
abbrev pub IsOwn : Refusal → Type 0
IsOwn r = (r.number ≢ FULL) × (r.number ≢ DEVICE) × (r.number ≢ BROKEN)

-- From old, a change was answered in this way and led to new: the new seq, or the refusal, or that memory ran out, and
-- after these two nothing changed.
abbrev pub Steps : State → Change → Result ℕ Refusal → State → Type 0
Steps old c (Ok seq) new = (refusal_of old c ≡ None) × (new ≡ after old c) × (seq ≡ new.seq)
Steps old c (Err r) new = Refuses old c r × (new ≡ old)
