use Rattle.std.proofs.Common.{◌≡◌, List, ◌∙◌, sym, ap, subst, rules}
use Rattle.std.proofs.lemmas.Fn.{always_returns_same}
use Rattle.std.specs.List.{list_any}
use Rattle.std.specs.List.Sorted.{IsSortedBy}
use Rattle.std.specs.Ordering.{is_lt}
use Rattle.doc_tree.specs.Lists.{elements_list}
use Rattle.doc_tree.specs.Same.{same}
use Rattle.doc_tree.specs.TreeView.{view, elements_view}
use Rattle.doc_tree.specs.declared.tree.Tree.{Tree}
use Rattle.schema_rules.specs.Instances.{seen}
use Rattle.schema_rules.specs.Order.{doc_cmp}
use Rattle.schema_rules.proofs.Choosing.{searched}
use Rattle.schema_rules.proofs.choices.Choices.contain.Goals as goal

pub returns : goal.returns
returns c =
    let t = seen c.args.instance in
    let ts = c.deref.result.now in
    let is : ts ≡ c.args.self.now.sorted.items = c.deref.ensures.value in
    let in_order = subst (λ (l : List Tree). IsSortedBy (λ a b. is_lt (doc_cmp (view a) (view b))) l) (sym is) c.args.self.now.in_order in
    let found = c.binary_search_by.ensures.position (λ y. doc_cmp (view y) t) (always_returns_same _ _ _ (λ a r f' k. search rules)) in
    c.is_ok.ensures.value ∙ (searched ts t c.binary_search_by.result in_order c.binary_search_by.ensures.bound found
    ∙ ap (λ (l : List Tree). list_any (λ d. same d t) (elements_list (elements_view l))) is)
