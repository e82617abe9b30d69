use Rattle.std.proofs.Common.{◌≡◌, ◌∙◌, option_map, length, sym, ap, arith}
use Rattle.doc_tree.specs.Doc.{index}
use Rattle.doc_tree.specs.TreeView.{view}
use Rattle.doc_tree.proofs.Views.{view-List}
use Rattle.patched_places.proofs.AtEnd.{list_end}
use Rattle.patched_places.proofs.ends.end_step.Goals as goal

pub returns-in-Some : goal.returns-in-Some
returns-in-Some c =
    let len : c.len.result ≡ length c.in-List.items.items = omega (arith, c.len.ensures) in
    ap (option_map index) (sym c.in-Some.is)
    ∙ list_end c.args.end (view c.args.document.now) c.in-List.items.items c.len.result c.end_index.result (ap view c.in-List.is ∙ view-List c.in-List.items) len c.end_index.ensures

pub returns-in-None : goal.returns-in-None
returns-in-None c =
    let len : c.len.result ≡ length c.in-List.items.items = omega (arith, c.len.ensures) in
    ap (option_map index) (sym c.in-None.is)
    ∙ list_end c.args.end (view c.args.document.now) c.in-List.items.items c.len.result c.end_index.result (ap view c.in-List.is ∙ view-List c.in-List.items) len c.end_index.ensures
