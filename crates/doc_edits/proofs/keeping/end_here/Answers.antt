use Rattle.std.proofs.Common.{◌≡◌, [], Some, None, if◌then◌else◌, sym, ap, ◌∙◌}
use Rattle.doc_tree.specs.Doc.{list}
use Rattle.doc_tree.specs.TreeView.{view, elements_view}
use Rattle.doc_tree.proofs.Views.{view-List}
use Rattle.doc_edits.specs.Edit.{elements_len}
use Rattle.doc_edits.specs.Keeping.{end_at}
use Rattle.doc_edits.proofs.Indices.{elements_len-view}
use Rattle.doc_edits.proofs.keeping.end_here.Goals as goal

pub returns-then-eq : goal.returns-then-eq
returns-then-eq c =
    let is : view c.args.tree.now ≡ list (elements_view c.in-List.items.items) = ap view c.in-List.is ∙ view-List c.in-List.items in
    let len : c.len.result ≡ elements_len (elements_view c.in-List.items.items) = c.len.ensures ∙ c.in-List.items.ok.0 ∙ sym (elements_len-view c.in-List.items.items) in
    ap Some len ∙ ap (λ b. if b then Some (elements_len (elements_view c.in-List.items.items)) else None) (sym (sym c.eq.ensures ∙ c.if-eq.true)) ∙ ap (end_at c.args.token.now []) (sym is)
