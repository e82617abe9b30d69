use Rattle.std.proofs.Common.{rules}
use Rattle.std.proofs.lemmas.Fn.{always_returns_same}
use Rattle.std.proofs.lemmas.List.Sorted.{ranks_by}
use Rattle.std.specs.Ordering.{is_lt}
use Rattle.doc_tree.specs.Lists.{elements_list}
use Rattle.doc_tree.specs.TreeView.{view, elements_view}
use Rattle.schema_rules.specs.Order.{doc_cmp, at_place}
use Rattle.schema_rules.proofs.Ordered.{doc_total}
use Rattle.schema_rules.proofs.distinct.sort.Goals as goal

pub returns-clause-sorted : goal.returns-clause-sorted
returns-clause-sorted c =
    let f = at_place (elements_list (elements_view c.args.items.now)) (view c.args.first.now) in
    c.sort_unstable_by.ensures.sorted (λ i j. is_lt (doc_cmp (f i) (f j))) (ranks_by doc_total f)
    (always_returns_same _ _ _ (λ a r f' k. search rules))
