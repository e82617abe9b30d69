use Rattle.std.proofs.Common.{◌≡◌, ◌∙◌, length, ap, arith}
use Rattle.doc_tree.specs.TreeView.{view}
use Rattle.doc_tree.proofs.Views.{view-List}
use Rattle.patched_places.proofs.Shifts.{len_here}
use Rattle.patched_places.proofs.shift.+list_len.Goals as goal

pub returns-in-List-clause-list : goal.returns-in-List-clause-list
returns-in-List-clause-list t c =
    let len : c.len.result ≡ length c.in-List.items.items = omega (arith, c.len.ensures) in
    len_here c.args.tokens.now (view c.args.document.now) c.in-List.items.items c.len.result c.in-None.ensures.cases (ap view c.in-List.is ∙ view-List c.in-List.items) len
