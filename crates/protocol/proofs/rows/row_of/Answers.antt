use Rattle.std.proofs.Common.{◌≡◌, ℕ, List, codes, string_bytes, encode_utf8_all, sym, ap, ◌∙◌}
use Rattle.std.proofs.lemmas.Str.{encodes-chars, IsUtf8-string_bytes}
use Rattle.doc_tree.specs.Doc.{text, object, member, no_members}
use Rattle.doc_tree.specs.TreeView.{view}
use Rattle.path_grammar.specs.Lent.{lent_places}
use Rattle.path_parse.specs.NormalPath.{normal_path}
use Rattle.protocol.proofs.rows.row_of.Goals as goal

pub returns : goal.returns
returns c =
    let path = c.in_ok-lent_normal_text.field-0 in
    let utf8 : string_bytes path ≡ encode_utf8_all (normal_path (lent_places c.args.node.now.steps.items)) =
    sym (encodes-chars (string_bytes path) (IsUtf8-string_bytes path)) ∙ ap encode_utf8_all (c.in_ok-lent_normal_text.ensures ∙ ap (λ ps. normal_path (lent_places ps)) c.as_slice.ensures.value) in
    ap (λ (t : List ℕ). object (member (codes "path") (text t) (member (codes "value") (view c.args.node.now.value.now) no_members))) utf8
