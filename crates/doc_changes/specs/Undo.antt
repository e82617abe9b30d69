-- Changes that were made in memory and can be taken back.
use Rattle.std.specs.Prelude.{◌≡◌, ℕ, ◌-◌, ◌<◌, ◌≤◌, true, List, Some, is_some, length, take, insert, string_bytes}
use Rattle.doc_tree.specs.TreeView.{view}
use Rattle.doc_patch.specs.Measured.{CanReverse, reversed}
use Rattle.doc_patch.specs.declared.document.Reversal.{Reversal}
use Rattle.doc_tree.specs.declared.tree.Tree.{Tree}
use Rattle.schema_rules.specs.declared.profile.Profile.{Profile}
use Rattle.doc_changes.specs.State.{Document, changed, find}
use Rattle.record_text.specs.Change.{Change}
use Rattle.doc_changes.specs.Held.{held_in, held_of}
use Rattle.doc_changes.specs.Judged.{IsJudgedIn}
use Rattle.doc_changes.specs.Step.{documents_after}
use Rattle.doc_changes.specs.declared.judged.Judged.{Judged}
use Rattle.doc_changes.specs.StateView.{named}
use Rattle.doc_changes.specs.declared.undo.Undo.{Undo}
use Rattle.doc_changes.specs.declared.undo.Undo.TheVariants.{Added, Patched, Ruled, Removed}

-- the document with that schema, and that revision
abbrev pub with_rules : Tree → ℕ → Document → Document
with_rules schema rev d = record { name = d.name; schema = view schema; doc = d.doc; revision = rev }

-- the document before a patch, and that revision
abbrev pub reversed_doc : Reversal → ℕ → Document → Document
reversed_doc r rev d = record { name = d.name; schema = d.schema; doc = reversed r d.doc; revision = rev }

-- a patch of the document of that name can be taken back
pub record CanReverseAt (name : List ℕ) (r : Reversal) (ds : List Document) : Type 0 where
  pub document : Document
  pub found : find name ds ≡ Some document
  pub can : CanReverse r document.doc

-- the documents before the change
abbrev pub documents_before : Undo → List Document → List Document
documents_before Added ds = take (length ds - 1) ds
documents_before (Patched name r rev) ds = changed (reversed_doc r rev) (string_bytes name) ds
documents_before (Ruled name rules rev) ds = changed (with_rules rules rev) (string_bytes name) ds
documents_before (Removed index name stored) ds = insert ds index (named (string_bytes name) stored)

-- what taking it back asks of the documents
abbrev pub IsThere : Undo → List Document → Type 0
IsThere Added ds = 0 < length ds
IsThere (Patched name r rev) ds = CanReverseAt (string_bytes name) r ds
IsThere (Ruled name rules rev) ds = is_some (find (string_bytes name) ds) ≡ true
IsThere (Removed index name stored) ds = index ≤ length ds

-- taking the change back leads from the new documents to the old ones
pub record TakesBack (u : Undo) (old new : List Document) : Type 0 where
  pub back : documents_before u new ≡ old
  pub there : IsThere u new

-- a change was judged, and made with that revision
pub record IsMadeForGood (profile : Profile) (old : List Document) (c : Change) (rev : ℕ) (new : List Document) : Type 0 where
  pub judged : Judged
  pub is_judged : IsJudgedIn profile old c judged
  pub after : new ≡ documents_after old c rev

-- a change was judged, and made with that revision, and can be taken back
pub record IsMade (profile : Profile) (old : List Document) (c : Change) (rev : ℕ) (u : Undo) (new : List Document) : Type 0 where
  pub judged : Judged
  pub is_judged : IsJudgedIn profile old c judged
  pub after : new ≡ documents_after old c rev
  pub undo : TakesBack u old new
  pub held : held_of u ≡ held_in old c
