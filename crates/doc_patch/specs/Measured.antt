-- A document within the limits, with the length of its text, and what takes a patch of it back.
use Rattle.std.specs.Prelude.{◌≡◌, ◌≤◌, Some, unwrap_or}
use Rattle.doc_tree.specs.Doc.{Doc, height}
use Rattle.doc_tree.specs.Sound.{IsSound}
use Rattle.doc_tree.specs.TreeView.{view}
use Rattle.doc_edits.specs.Size.{size}
use Rattle.doc_patch.specs.Undo.{taken_back}
use Rattle.doc_patch.specs.declared.document.Document.TheInside.{Inside}
use Rattle.doc_patch.specs.declared.document.Reversal.{Reversal}
use Rattle.doc_patch.specs.declared.limits.TheConstants.{DOCUMENT_BYTES, DOCUMENT_HEIGHT}

-- it nests no deeper, and its text is no longer, than a document may
pub record IsWithin (d : Doc) : Type 0 where
  pub low : height d ≤ DOCUMENT_HEIGHT
  pub short : size d ≤ DOCUMENT_BYTES

abbrev pub document_of : Inside → Doc
document_of i = view i.tree

-- the document is within the limits, and this is the length of its text
pub record IsDocument (i : Inside) : Type 0 where
  pub within : IsWithin (view i.tree)
  pub sound : IsSound (view i.tree)
  pub len : i.len ≡ size (view i.tree)

-- the reversal leads from e back to d
pub record Reverses (r : Reversal) (e d : Doc) : Type 0 where
  pub back : taken_back r.undo e ≡ Some d
  pub within : IsWithin d
  pub sound : IsSound d
  pub len : r.len ≡ size d

-- it leads from e back to some document
pub record CanReverse (r : Reversal) (e : Doc) : Type 0 where
  pub before : Doc
  pub reverses : Reverses r e before

-- the document that it leads back to
abbrev pub reversed : Reversal → Doc → Doc
reversed r e = unwrap_or (taken_back r.undo e) e
