use Rattle.std.proofs.Common.{sym, ap, ◌∙◌}
use Rattle.doc_tree.specs.TreeView.{view}
use Rattle.doc_tree.proofs.Views.{view-List}
use Rattle.doc_patch.specs.Reading.{operation_count}
use Rattle.doc_edits.proofs.Indices.{elements_len-view}
use Rattle.doc_patch.proofs.read.count.Goals as goal

pub returns-in-List : goal.returns-in-List
returns-in-List c = c.len.ensures ∙ c.in-List.items.ok.0 ∙ sym (elements_len-view c.in-List.items.items) ∙ sym (ap operation_count (ap view c.in-List.is ∙ view-List c.in-List.items))
