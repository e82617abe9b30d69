-- The lines by which documents are loaded into an empty store.
use Rattle.std.specs.Prelude.{ℕ, List, [], ◌∷◌, ◌++◌, codes, length, pos, true}
use Rattle.doc_tree.specs.Doc.{Doc, boolean, int, object, member, no_members}
use Rattle.doc_tree.specs.Text.{text_of}
use Rattle.record_text.specs.Change.{create}
use Rattle.record_text.specs.Frame.{body_of}
use Rattle.doc_changes.specs.State.{Document}

-- the line that makes a document under its schema
abbrev pub line_of_document : Document → List ℕ
line_of_document d = body_of (create d.name d.schema d.doc) ++ 10 ∷ []

-- one for each document, in their order
abbrev pub lines_of_documents : List Document → List ℕ
lines_of_documents [] = []
lines_of_documents (d ∷ ds) = line_of_document d ++ lines_of_documents ds

-- the last line, by which a reader sees that none is missing: how many came before it, and the number of the last change
abbrev pub end_of_lines : ℕ → ℕ → Doc
end_of_lines count seq =
    object (member (codes "end") (boolean true) (member (codes "lines") (int (pos count)) (member (codes "seq") (int (pos seq)) no_members)))
