use Rattle.std.proofs.Common.{rules}
use Rattle.std.proofs.lemmas.Fn.{always_returns_same}
use Rattle.std.proofs.lemmas.List.Sorted.{ranks_by}
use Rattle.std.specs.Ordering.{is_lt}
use Rattle.doc_tree.specs.TreeView.{view}
use Rattle.schema_rules.specs.Order.{doc_cmp}
use Rattle.schema_rules.proofs.Ordered.{doc_total}
use Rattle.schema_rules.proofs.choices.sort.Goals as goal

pub returns-clause-sorted : goal.returns-clause-sorted
returns-clause-sorted c =
    c.sort_unstable_by.ensures.sorted (λ a b. is_lt (doc_cmp (view a) (view b))) (ranks_by doc_total view)
    (always_returns_same _ _ _ (λ a r f' k. search rules))
