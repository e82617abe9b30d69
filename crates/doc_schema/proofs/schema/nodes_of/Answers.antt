use Rattle.doc_tree.specs.TreeView.{view}
use Rattle.doc_schema.proofs.Fitting.{different}
use Rattle.doc_schema.proofs.Thirds.{fits}
use Rattle.doc_schema.proofs.Thirteenths.{room}
use Rattle.doc_schema.proofs.schema.nodes_of.Goals as goal

pub compile-requires-clause-room : goal.compile-requires-clause-room
compile-requires-clause-room c = fits (view c.args.source.now) c.requires.checked

pub compile-requires-clause-few : goal.compile-requires-clause-few
compile-requires-clause-few c = room (view c.args.source.now) c.requires.checked

pub compile-requires-clause-anchors : goal.compile-requires-clause-anchors
compile-requires-clause-anchors c = different (view c.args.source.now) c.requires.checked
