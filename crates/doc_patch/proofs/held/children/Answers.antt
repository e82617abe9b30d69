use Rattle.std.proofs.Common.{◌≡◌, sym, ap, ◌∙◌}
use Rattle.doc_tree.specs.Doc.{list, object}
use Rattle.doc_tree.specs.TreeView.{view, elements_view, members_view}
use Rattle.doc_tree.proofs.Views.{view-List, view-Object}
use Rattle.doc_edits.proofs.Indices.{elements_len-view}
use Rattle.doc_edits.proofs.Rooms.{count-view}
use Rattle.doc_patch.specs.Held.{children}
use Rattle.doc_patch.proofs.held.children.Goals as goal

pub returns-in-Object : goal.returns-in-Object
returns-in-Object c =
    let is : view c.args.tree.now ≡ object (members_view c.in-Object.members.entries) = ap view c.in-Object.is ∙ view-Object c.in-Object.members in
    c.len.ensures.len ∙ sym (count-view c.in-Object.members.entries) ∙ ap children (sym is)

pub returns-in-List : goal.returns-in-List
returns-in-List c =
    let is : view c.args.tree.now ≡ list (elements_view c.in-List.items.items) = ap view c.in-List.is ∙ view-List c.in-List.items in
    c.len-in-List.ensures ∙ c.in-List.items.ok.0 ∙ sym (elements_len-view c.in-List.items.items) ∙ ap children (sym is)
