-- The lines of documents, and the last line.
use Rattle.std.specs.Prelude.{ℕ, List, ◌++◌, codes, length}
use Rattle.doc_tree.specs.Text.{text_of}
use Rattle.doc_changes.specs.State.{Document}
use Rattle.store_salvage.specs.Lines.{end_of_lines, lines_of_documents}

-- how many lines there were, and the number of the last change
abbrev pub last_line : ℕ → ℕ → List ℕ
last_line count seq = text_of (end_of_lines count seq) ++ codes "\n"

-- the lines that make the documents, and the last one, which counts them
abbrev pub dump_of : List Document → ℕ → List ℕ
dump_of documents seq = lines_of_documents documents ++ last_line (length documents) seq
