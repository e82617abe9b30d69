-- The length of a document's text, and the comma beside a child if there are others.
use Rattle.std.specs.Prelude.{ℕ, length}
use Rattle.doc_tree.specs.Doc.{Doc, Elements, no_elements, element, Members, no_members, member}
use Rattle.doc_tree.specs.Text.{text_of}

-- the number of bytes of the compact text
abbrev pub size : Doc → ℕ
size d = length (text_of d)

-- beside these elements a further one has a comma
abbrev pub comma_beside : Elements → ℕ
comma_beside no_elements = 0
comma_beside (element d ds) = 1

-- beside these members a further one has a comma
abbrev pub comma_beside_members : Members → ℕ
comma_beside_members no_members = 0
comma_beside_members (member k d ms) = 1
