use Rattle.std.proofs.Common.{◌≡◌, ◌∙◌, sym, length, arith}
use Rattle.doc_tree.specs.Lists.{elements_list}
use Rattle.doc_tree.specs.TreeView.{view, elements_view}
use Rattle.doc_tree.proofs.Elements.{length-elements_list}
use Rattle.schema_rules.proofs.Sorting.{sorted_places}
use Rattle.schema_rules.proofs.distinct.rise_sorted.Goals as goal

pub returns : goal.returns
returns c =
    let ds = elements_list (elements_view c.args.items.now) in
    let as_many : length ds ≡ length c.args.places.now = length-elements_list c.args.items.now ∙ sym c.requires.as_many in
    c.rise.ensures ∙ sorted_places ds (view c.args.first.now) c.number.new.places c.sort.new.places (c.number.ensures.len ∙ sym as_many) (λ k h. c.number.ensures.each k (omega arith)) c.sort.ensures.permutation c.sort.ensures.sorted
