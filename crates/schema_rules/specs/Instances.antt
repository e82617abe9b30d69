-- The document that an instance represents: a name is a text.
use Rattle.doc_tree.specs.Doc.{Doc, text}
use Rattle.doc_tree.specs.TreeView.{view}
use Rattle.schema_rules.specs.declared.instance.Instance.{Instance}
use Rattle.schema_rules.specs.declared.instance.Instance.TheVariants.{Value, Name}

abbrev pub seen : Instance → Doc
seen (Value t) = view t.now
seen (Name s) = text s.now
