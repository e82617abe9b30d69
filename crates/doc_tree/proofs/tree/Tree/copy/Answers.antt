use Rattle.doc_tree.specs.TreeView.{view}
use Rattle.doc_tree.proofs.Soundness.{sound_copy}
use Rattle.doc_tree.proofs.tree.Tree.copy.Goals as goal

pub returns-clause-sound : goal.returns-clause-sound
returns-clause-sound c = sound_copy c.copy_tree.result (view c.args.self.now) c.copy_tree.ensures.same c.copy_tree.ensures.sound
