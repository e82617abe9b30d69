use Rattle.std.proofs.Common.{◌≡◌, ◌≤◌, sym, ap, subst, ◌∙◌, arith}
use Rattle.doc_tree.specs.Doc.{list, object}
use Rattle.doc_tree.specs.TreeView.{view, elements_view, members_view}
use Rattle.doc_tree.proofs.Views.{view-List, view-Object}
use Rattle.doc_edits.specs.Edit.{elements_len}
use Rattle.doc_edits.specs.Spare.{count, IsSpareIn}
use Rattle.doc_edits.specs.declared.spare.Spare.TheVariants.{Members, Elements}
use Rattle.doc_edits.proofs.Indices.{elements_len-view}
use Rattle.doc_edits.proofs.Rooms.{count-view}
use Rattle.doc_edits.proofs.spare.spare_in.Goals as goal

pub returns-in_ok-room-in-Object : goal.returns-in_ok-room-in-Object
returns-in_ok-room-in-Object c =
    let is : view c.args.tree.now ≡ object (members_view c.in-Object.members.entries) = ap view c.in-Object.is ∙ view-Object c.in-Object.members in
    let room : count (members_view c.in-Object.members.entries) ≤ c.in_ok-room-in-Object.field-0 = omega (arith, c.in_ok-room-in-Object.ensures, count-view c.in-Object.members.entries) in
    subst (IsSpareIn (Members c.in_ok-room-in-Object.field-0)) (sym is) room

pub returns-in_ok-with-in-List : goal.returns-in_ok-with-in-List
returns-in_ok-with-in-List c =
    let is : view c.args.tree.now ≡ list (elements_view c.in-List.items.items) = ap view c.in-List.is ∙ view-List c.in-List.items in
    let room : elements_len (elements_view c.in-List.items.items) ≤ c.in_ok-with-in-List.field-0 = omega (arith, c.in_ok-with-in-List.ensures, c.len.ensures, c.in-List.items.ok.0, elements_len-view c.in-List.items.items) in
    subst (IsSpareIn (Elements c.in_ok-with-in-List.field-0)) (sym is) room
