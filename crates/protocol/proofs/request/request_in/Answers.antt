use Rattle.std.proofs.Common.{ap, sym, ◌∙◌, subst}
use Rattle.std.proofs.lemmas.Result.{IfOk-weaker}
use Rattle.std.specs.Result.{IfOk}
use Rattle.doc_tree.specs.Doc.{Doc, object}
use Rattle.doc_tree.specs.TreeView.{members_view, view}
use Rattle.doc_tree.proofs.Views.{view-Object}
use Rattle.protocol.specs.Read.{IsMarked, IsRequest}
use Rattle.protocol.proofs.Marks.{marked_is}
use Rattle.protocol.proofs.request.request_in.Goals as goal

pub returns-in-Some : goal.returns-in-Some
returns-in-Some c =
    let ms = members_view c.in-Object.members.entries in
    let left = members_view c.take_out.new.members.entries in
    let mark = view c.in-Some.mark in
    let is = ap view c.in-Object.is ∙ view-Object c.in-Object.members in
    subst (λ (d : Doc). IfOk c.marked.result (IsRequest d)) (sym is)
    (IfOk-weaker c.marked.result (IsMarked mark left) (IsRequest (object ms)) (marked_is ms left mark c.in-Some.ensures) c.marked.ensures)
