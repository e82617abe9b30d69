use Rattle.std.proofs.Common.{◌≡◌, [], ◌++◌, ap, ◌∙◌, subst, sym, rules}
use Rattle.std.specs.Str.{IsUtf8}
use Rattle.doc_tree.specs.Text.{text_of}
use Rattle.doc_tree.specs.TreeView.{view}
use Rattle.doc_tree.proofs.RoundTrip.{IsUtf8-text_of}
use Rattle.doc_tree.proofs.tree.Tree.text.Goals as goal

pub returns-clause-utf8 : goal.returns-clause-utf8
returns-clause-utf8 c =
    let none : c.new-text.result.items ≡ [] = search rules in
    let is = c.in_ok-put_text.ensures.text ∙ ap (λ xs. xs ++ text_of (view c.args.self.now)) none in
    subst IsUtf8 (sym is) (IsUtf8-text_of (view c.args.self.now) c.in_ok-put_text.ensures.sound)
