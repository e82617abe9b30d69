use Rattle.std.proofs.Common.{◌≡◌, ◌∙◌, option_map, length, sym, ap, arith}
use Rattle.doc_tree.specs.Doc.{index}
use Rattle.doc_tree.specs.TreeView.{view}
use Rattle.doc_tree.proofs.Views.{view-List}
use Rattle.patched_places.proofs.Agreeing.{list_named}
use Rattle.patched_places.proofs.steps.step_named.Goals as goal

pub returns-in-Some : goal.returns-in-Some
returns-in-Some c =
    let len : c.len.result ≡ length c.in-List.items.items = omega (arith, c.len.ensures) in
    ap (option_map index) (sym c.in-Some.is)
    ∙ list_named c.args.token.now (view c.args.document.now) c.in-List.items.items c.len.result c.index_within.result (ap view c.in-List.is ∙ view-List c.in-List.items) len c.index_within.ensures.named

pub returns-in-None : goal.returns-in-None
returns-in-None c =
    let len : c.len.result ≡ length c.in-List.items.items = omega (arith, c.len.ensures) in
    ap (option_map index) (sym c.in-None.is)
    ∙ list_named c.args.token.now (view c.args.document.now) c.in-List.items.items c.len.result c.index_within.result (ap view c.in-List.is ∙ view-List c.in-List.items) len c.index_within.ensures.named
