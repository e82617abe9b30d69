use Rattle.std.proofs.Common.{◌∙◌, sym, ap, Some, length, arith}
use Rattle.doc_tree.proofs.Views.{view-List, view-Object}
use Rattle.doc_tree.specs.TreeView.{view}
use Rattle.path_select.proofs.Views.{elements_count-elements_view, members_count-members_view}
use Rattle.path_select.specs.Comparing.{number, length_value}
use Rattle.path_select.proofs.compare.size.Goals as goal

pub returns-in-List : goal.returns-in-List
returns-in-List c =
    let v = c.in-List.items in
    c.number-in-List.ensures ∙ ap number (c.len.ensures ∙ v.ok.0 ∙ sym (elements_count-elements_view v.items)) ∙ ap (λ d. length_value (Some d)) (sym (ap view c.in-List.is ∙ view-List v))

pub returns-in-Object : goal.returns-in-Object
returns-in-Object c =
    let m = c.in-Object.members in
    c.number-in-Object.ensures ∙ ap number (c.len-in-Object.ensures.len ∙ sym (members_count-members_view m.entries)) ∙ ap (λ d. length_value (Some d)) (sym (ap view c.in-Object.is ∙ view-Object m))

pub number-requires : goal.number-requires
number-requires c = let b = c.in-Text.text.bytes in omega (arith, b.small, b.ok.0, ap length c.as_str.ensures.value, c.characters.ensures.small)
