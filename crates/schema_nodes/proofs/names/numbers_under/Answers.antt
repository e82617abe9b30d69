use Rattle.std.proofs.Common.{◌≡◌, sym, ap, subst, ◌∙◌, option_map, map}
use Rattle.doc_tree.specs.Lists.{values_list}
use Rattle.doc_tree.specs.TreeView.{view, members_view}
use Rattle.schema_rules.specs.Parts.{members_in, beside, or_null}
use Rattle.schema_nodes.specs.Nodes.{AreNamed}
use Rattle.schema_nodes.proofs.Growing.{if_ok}
use Rattle.schema_nodes.proofs.Naming.{row_is}
use Rattle.schema_nodes.proofs.names.numbers_under.Goals as goal

pub returns-in-Some : goal.returns-in-Some
returns-in-Some c =
    let ms = members_view c.args.members.now.entries in
    let n = c.args.name.now in
    let v = view c.in-Some.value.now in
    let b : beside n ms ≡ v = ap or_null (sym c.member_named.ensures ∙ ap (option_map (λ t. view t.now)) c.in-Some.is) in
    if_ok c.numbers_in.result (λ m h schema rows s.
    let row : map schema c.row_named.result.now ≡ values_list (members_in v) = ap (map schema) c.row_named.ensures ∙ row_is schema n ms c.args.rows.now s rows ∙ ap (λ d. values_list (members_in d)) b in
    subst (λ d. AreNamed schema m.entries (members_in d)) (sym b) (h schema row)) c.numbers_in.ensures
