use Rattle.std.proofs.Common.{◌∙◌, ap, ap₂, slice_get, sym}
use Rattle.doc_tree.specs.Doc.{index, name, child}
use Rattle.path_grammar.specs.Lent.{lent_place}
use Rattle.path_select.specs.Indexed.{at_number}
use Rattle.path_select.specs.Nodes.{child_at, children}
use Rattle.path_select.proofs.Places.{index_place}
use Rattle.path_select.proofs.numbers.number_of.Goals as goal

pub returns-in-Index : goal.returns-in-Index
returns-in-Index c d is =
    let u = at_number c.args.index.now c.args.number in
    let e = ap lent_place c.in-Index.is in
    c.number_at-in-Index.ensures (index c.in-Index.place, d) (index_place u.1 c.in-Index.place d (ap (λ s. child s u.1) (sym e) ∙ is)) ∙ ap (λ s. child_at u.0 (s, d)) (sym e)

pub returns-in-Name : goal.returns-in-Name
returns-in-Name c d is =
    let u = at_number c.args.index.now c.args.number in
    let k = c.as_str.result.now in
    let e = ap name c.as_str.ensures.value ∙ sym (ap lent_place c.in-Name.is) in
    c.number_at.ensures (name k, d) (ap (λ w. slice_get (children w) c.place_in-place.result) (sym c.value_of.ensures) ∙ c.place_in-place.ensures d (ap₂ child e c.value_of.ensures ∙ is)) ∙ ap (λ s. child_at u.0 (s, d)) e
