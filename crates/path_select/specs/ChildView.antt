-- The children and values that the code's types represent.
use denote.Bor.{Bor}
use Rattle.std.specs.Prelude.{List, map, Option, option_map}
use Rattle.doc_tree.specs.declared.tree.Tree.{Tree}
use Rattle.path_select.specs.declared.compare.Side.{Side}
use Rattle.path_select.specs.declared.compare.Side.TheVariants.{Lent, Made}
use Rattle.doc_tree.specs.Doc.{Doc}
use Rattle.doc_tree.specs.TreeView.{view}
use Rattle.path_grammar.specs.Lent.{lent_place}
use Rattle.path_select.specs.Nodes as nodes
use Rattle.path_select.specs.declared.children.Child.{Child}

abbrev pub child_of : Child → nodes.Child
child_of c = (lent_place c.step, view c.value.now)

abbrev pub children_of : List Child → List nodes.Child
children_of cs = map child_of cs

-- values that are lent
abbrev pub doc_of : Bor Tree → Doc
doc_of t = view t.now

abbrev pub docs_of : List (Bor Tree) → List Doc
docs_of ts = map doc_of ts

-- a value that is lent, or Nothing
abbrev pub doc_if : Option (Bor Tree) → Option Doc
doc_if o = option_map doc_of o

-- a side of a comparison
abbrev pub side_doc : Side → Doc
side_doc (Lent t) = view t.now
side_doc (Made t) = view t

abbrev pub side_if : Option Side → Option Doc
side_if o = option_map side_doc o
