-- States: documents by name in the order of their creation, each with its revision, the marks, the number of accepted changes, and the profile of schemas.
use Rattle.std.specs.Prelude.{◌≡◌, ℕ, ◌≤◌, true, List, [], ◌∷◌, length, Option, None, Some, if◌then◌else◌, ⊤, bytes_eq}
use Rattle.std.specs.List.{AllByRecursion}
use Rattle.doc_tree.specs.Doc.{Doc, height}
use Rattle.doc_tree.specs.Sound.{IsSound}
use Rattle.doc_tree.specs.Text.{text_of}
use Rattle.doc_schema.specs.Faults.{IsFaultless, IsTooLong}
use Rattle.doc_schema.specs.Judge.{Judges}
use Rattle.schema_rules.specs.declared.profile.Profile.{Profile}
use Rattle.schema_rules.specs.declared.profile.Profile.TheVariants.{Three, Two}
use Rattle.doc_changes.specs.Marks.{AreMarks, AreNumbered, Mark, marks_in, with_mark}
use Rattle.doc_changes.specs.Names.{is_name}

-- a document with its name, in UTF-8, its schema, and its revision: the seq of the last accepted creation, patch or schema of it
pub record Document : Type 0 where
  pub name : List ℕ
  pub schema : Doc
  pub doc : Doc
  pub revision : ℕ

pub record State : Type 0 where
  pub documents : List Document
  -- in the order in which they were set
  pub marks : List Mark
  pub seq : ℕ
  -- the one in which the schemas of changes are read
  pub profile : Profile

-- the same documents and changes in the profile, with the marks that it keeps
abbrev pub in_profile : Profile → State → State
in_profile profile s = record s { profile = profile; marks = marks_in profile s.marks }

-- no documents and no marks, after `seq` changes
abbrev pub empty_in : Profile → ℕ → State
empty_in profile seq = record { documents = []; marks = []; seq = seq; profile = profile }

-- the same in profile 2
abbrev pub empty_at : ℕ → State
empty_at = empty_in Two

-- no documents, and no changes yet, in profile 2
abbrev pub empty : State
empty = empty_at 0

-- the same state with the mark
abbrev pub noted : Mark → State → State
noted m s = record s { marks = with_mark m s.marks }

-- the document of that name
abbrev pub find : List ℕ → List Document → Option Document
find name [] = None
find name (d ∷ ds) = if bytes_eq name d.name then Some d else find name ds

-- what f makes of the document of that name, in its place
abbrev pub changed : (Document → Document) → List ℕ → List Document → List Document
changed f name [] = []
changed f name (d ∷ ds) = if bytes_eq name d.name then f d ∷ ds else d ∷ changed f name ds

-- the others, in their order
abbrev pub without : List ℕ → List Document → List Document
without name [] = []
without name (d ∷ ds) = if bytes_eq name d.name then ds else d ∷ without name ds

-- A document that a store may hold: its name is one, it and its schema are documents of memory, it is within the limits, its schema is so too, and it is valid under it.
pub record IsStorable (d : Document) : Type 0 where
  pub named : is_name d.name ≡ true
  pub doc_sound : IsSound d.doc
  pub doc_height : height d.doc ≤ 64
  pub doc_text : length (text_of d.doc) ≤ 1_048_576
  pub schema_sound : IsSound d.schema
  pub schema_small : IsTooLong d.schema → ⊥
  pub valid : Judges d.schema d.doc true

-- no two documents have one name
abbrev pub AreDistinct : List Document → Type 0
AreDistinct [] = ⊤
AreDistinct (d ∷ ds) = (find d.name ds ≡ None) × AreDistinct ds

-- no schema has a fault in the profile
abbrev pub AreOffered : Profile → List Document → Type 0
AreOffered profile ds = AllByRecursion (λ d. IsFaultless profile d.schema) ds

-- the most documents that a state in the profile has
abbrev pub most_documents : Profile → ℕ
most_documents Two = 1_024
most_documents Three = 65_536

-- no revision is over that seq
abbrev pub AreRevised : ℕ → List Document → Type 0
AreRevised seq ds = AllByRecursion (λ d. d.revision ≤ seq) ds

-- what holds of each state that can be reached
pub record Good (s : State) : Type 0 where
  pub distinct : AreDistinct s.documents
  pub storable : AllByRecursion IsStorable s.documents
  pub offered : AreOffered s.profile s.documents
  pub few : length s.documents ≤ most_documents s.profile
  pub counted : s.seq ≤ 0xffff_ffff_ffff_ffff
  pub revised : AreRevised s.seq s.documents
  pub marked : AreMarks s.profile s.marks
  pub numbered : AreNumbered s.seq s.marks
