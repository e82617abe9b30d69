-- The nodes that the code's types represent.
use Rattle.std.specs.Prelude.{List, map}
use Rattle.doc_tree.specs.TreeView.{view}
use Rattle.doc_tree.specs.Place.{place_of}
use Rattle.path_grammar.specs.Lent.{lent_places}
use Rattle.path_select.specs.Nodes as nodes
use Rattle.path_select.specs.Paths.{seen}
use Rattle.path_eval.specs.declared.node.LentNode.{LentNode}
use Rattle.path_eval.specs.declared.node.Node.{Node}
use Rattle.path_eval.specs.declared.nodelist.Nodelist.{Nodelist}

-- the nodes that are answered
abbrev pub node_of : Node → nodes.Located
node_of n = (map place_of n.steps.items, view n.value.now)

abbrev pub nodes_of : List Node → List nodes.Located
nodes_of ns = map node_of ns

-- one of a list whose names the document lends
abbrev pub lent_node_of : LentNode → nodes.Located
lent_node_of n = (lent_places n.steps.items, view n.value.now)

-- the nodes of a list that is handed out without its locations
abbrev pub listed_of : Nodelist → List nodes.Located
listed_of l = seen l.walk
