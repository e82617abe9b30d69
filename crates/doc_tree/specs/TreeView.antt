-- The document that a `Tree` represents.
use Rattle.std.specs.Prelude.{List, [], ◌∷◌, map, String, string_bytes}
use Rattle.std.specs.declared.alloc.Global.{Global}
use Rattle.doc_tree.specs.Doc.{Doc, null, boolean, int, text, list, object, Elements, no_elements, element, Members, no_members, member}
use Rattle.doc_tree.specs.declared.tree.Tree.{Tree, fold-Tree}
use Rattle.doc_tree.specs.declared.tree.Tree.TheOpen.{Tree-F}

-- a list of documents as elements
abbrev pub elements_of : List Doc → Elements
elements_of [] = no_elements
elements_of (d ∷ ds) = element d (elements_of ds)

-- a map's entries as members
abbrev pub members_of : List (String Global × Doc) → Members
members_of [] = no_members
members_of (m ∷ ms) = member (string_bytes m.0) m.1 (members_of ms)

-- one level, with each tree inside already seen as its document
abbrev pub view_step : Tree-F Doc → Doc
view_step Tree-F.Null = null
view_step (Tree-F.Bool b) = boolean b
view_step (Tree-F.Int z) = int z
view_step (Tree-F.Text s) = text (string_bytes s)
view_step (Tree-F.List v) = list (elements_of v.items)
view_step (Tree-F.Object m) = object (members_of m.entries)

-- the document that the tree represents
abbrev pub view : Tree → Doc
view = fold-Tree Doc view_step

-- of a `Vec`'s items
abbrev pub elements_view : List Tree → Elements
elements_view ts = elements_of (map view ts)

-- of a `NameMap`'s entries
abbrev pub members_view : List (String Global × Tree) → Members
members_view ms = members_of (map (λ m. (m.0, view m.1)) ms)
