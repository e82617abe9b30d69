-- Patches in their text: the one line of a patch by itself, which is also the text of its frame.
use Rattle.std.specs.Prelude.{◌≡◌, ℕ, List, [], Ok, None}
use Rattle.doc_edits.specs.Operation.{Operation}
use Rattle.doc_patch.specs.Reading.{operations_of}
use Rattle.doc_tree.specs.Doc.{Doc, text, object, member, no_members}
use Rattle.doc_tree.specs.Read.{Reading, document, read_of}
use Rattle.doc_tree.specs.Sound.{IsSound}
use Rattle.record_text.specs.Change.{Change, delete, object_of, patch}
use Rattle.record_text.specs.Fault.{IsTextOf}

-- the patch that has a document of these three members, if it asks for no revision; of what is no such patch, a deletion of no name
abbrev pub patch_in : Reading → Change
patch_in (document (object (member cmd word (member n (text name) (member o ops no_members))))) = patch name ops None
patch_in _ = delete []

-- the patch whose object the bytes are the text of
abbrev pub change_in : List ℕ → Change
change_in bytes = patch_in (read_of bytes)

-- the bytes are the compact text of a patch that asks for no revision
pub record SpellsPatch (bytes : List ℕ) : Type 0 where
  pub name : List ℕ
  pub ops : Doc
  pub text : IsTextOf bytes (object_of (patch name ops None))
  pub is : change_in bytes ≡ patch name ops None

-- the same of a document of that name, with these operations
pub record IsSpelledBy (bytes name : List ℕ) (os : List Operation) : Type 0 where
  pub spells : SpellsPatch bytes
  pub named : spells.name ≡ name
  pub read : operations_of spells.ops ≡ Ok os
  pub sound : IsSound spells.ops
