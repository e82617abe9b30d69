-- The parts of a change that decide whether its frame can be read.
use Rattle.std.specs.Prelude.{ℕ, ◌+◌, ◌≤◌, List, [], ◌∷◌, length}
use Rattle.std.specs.List.{AllByRecursion}
use Rattle.std.specs.Str.{IsUtf8}
use Rattle.json.specs.Print.{quoted}
use Rattle.doc_tree.specs.Doc.{Doc}
use Rattle.doc_tree.specs.Sound.{IsSound}
use Rattle.doc_tree.specs.Text.{text_of}
use Rattle.record_text.specs.Change.{Change, create, patch, set_schema, delete, trees_height, IsSpelled}

-- the name of the document that it changes
abbrev pub name_of : Change → List ℕ
name_of (create name schema doc) = name
name_of (patch name ops if_rev) = name
name_of (set_schema name schema) = name
name_of (delete name) = name

-- the trees that it brings
abbrev pub trees_of : Change → List Doc
trees_of (create name schema doc) = schema ∷ doc ∷ []
trees_of (patch name ops if_rev) = ops ∷ []
trees_of (set_schema name schema) = schema ∷ []
trees_of (delete name) = []

-- bytes of the compact texts of these, in all
abbrev pub texts_len : List Doc → ℕ
texts_len [] = 0
texts_len (d ∷ ds) = length (text_of d) + texts_len ds

-- the name is a text, the trees are sound and at most 126 high, a revision that it asks for can be spelled, and with 59 bytes around them the parts are no longer than a body may be
pub record HasSmallParts (c : Change) : Type 0 where
  pub named : IsUtf8 (name_of c)
  pub spelled : IsSpelled c
  pub sound : AllByRecursion IsSound (trees_of c)
  pub low : trees_height c ≤ 126
  pub short : length (quoted (name_of c)) + texts_len (trees_of c) + 59 ≤ 4194304
