-- The step that takes one operation back.
use Rattle.std.specs.Prelude.{[], ◌∷◌, Option, None, Some, option_and_then, option_map, string_bytes}
use Rattle.doc_tree.specs.Doc.{Doc}
use Rattle.doc_tree.specs.TreeView.{view}
use Rattle.doc_pointer.specs.Place.{resolve}
use Rattle.doc_edits.specs.Change.{tokens_of}
use Rattle.doc_edits.specs.Edit as edit
use Rattle.doc_edits.specs.Edit.{Token, Tokens, at_last, in_holder}
use Rattle.doc_edits.specs.Spare.{member_back, item_back}
use Rattle.doc_edits.specs.declared.back.Back.{Back}
use Rattle.doc_edits.specs.declared.back.Back.TheVariants.{Exchange, MoveBack, PutIn}
use Rattle.doc_edits.specs.declared.spare.Spare.{Spare}

-- takes back one operation: the value at a place goes, or gives way to the one that was there; a value that went comes back between
-- its siblings; or a value that was moved goes back there, and what it replaced comes again
pub data Step : Type 0 where
  exchange : Tokens → Option Doc → Step
  put_in : Tokens → Token → Spare → Doc → Step
  move_back : Tokens → Option Doc → Tokens → Token → Spare → Step

-- the value in the object or array that holds the place: under that name, or before the index that the token names
abbrev pub return_here : Token → Spare → Doc → Token → Doc → Option Doc
return_here name s v t d = in_holder (member_back s v name) (item_back s v t) d

-- the document with the value at the place again; none for the root
abbrev pub return_to : Tokens → Token → Spare → Doc → Doc → Option Doc
return_to [] name s v d = None
return_to (t ∷ ts) name s v d = at_last (return_here name s v) t ts d

-- the document without the value at the place, or with the old one there again
abbrev pub exchanged : Tokens → Option Doc → Doc → Option Doc
exchanged path None d = edit.remove path d
exchanged path (Some old) d = edit.replace path old d

-- the document with the value at `path` back at its old place, and the one there again that it replaced
abbrev pub moved_back : Tokens → Option Doc → Tokens → Token → Spare → Doc → Option Doc
moved_back path old from name s d = option_and_then (λ v. option_and_then (return_to from name s v) (exchanged path old d)) (resolve path d)

-- the document before the operation; none if the place isn't there
abbrev pub step_back : Step → Doc → Option Doc
step_back (exchange path old) d = exchanged path old d
step_back (put_in path name s v) d = return_to path name s v d
step_back (move_back path old from name s) d = moved_back path old from name s d

-- the step that the code's value holds
abbrev pub step_of : Back → Step
step_of (Exchange path old) = exchange (tokens_of path.items) (option_map view old)
step_of (PutIn origin value) = put_in (tokens_of origin.path.items) (string_bytes origin.name) origin.spare (view value)
step_of (MoveBack path old origin) =
    move_back (tokens_of path.items) (option_map view old) (tokens_of origin.path.items) (string_bytes origin.name) origin.spare
