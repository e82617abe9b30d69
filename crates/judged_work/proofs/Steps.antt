-- What the next rule, element or member adds.
use Rattle.std.proofs.Common.{◌≡◌, ℕ, suc, ◌+◌, ◌<◌, ◌≤◌, List, ◌∷◌, length, drop, drop-cons, get_or, sym, ap, ◌∙◌, arith, String, Global, string_bytes}
use Rattle.doc_tree.specs.Doc.{Doc, text}
use Rattle.doc_tree.specs.TreeView.{view, elements_view, members_view}
use Rattle.doc_tree.specs.declared.tree.Tree.{Tree}
use Rattle.schema_levels.specs.PlaceInValue.{name, index, member_name}
use Rattle.schema_levels.specs.declared.node.Node.{Node}
use Rattle.schema_levels.specs.declared.node.Rule.{Rule}
use Rattle.schema_levels.proofs.Counting.{drop_all, element_next}
use Rattle.judged_work.specs.Sizes.{elements_size, members_size, names_size, own_size, whole_size}
use Rattle.judged_work.specs.Work.{asked_at, closed, elements_work, members_work, rule_weight, rules_weight, weight, work}

pub rules_next : (t : Doc) (rs : List Rule) (i : ℕ) (r : Rule) → i < length rs → r ≡ get_or rs i r → rules_weight (drop i rs) t ≡ rule_weight r t + rules_weight (drop (i + 1) rs) t
rules_next t rs i r lt is =
    let e : suc i ≡ i + 1 = omega arith in
    ap (λ l. rules_weight l t) (drop-cons rs i r lt) ∙ sym (ap (λ y. rule_weight y t + rules_weight (drop (suc i) rs) t) is) ∙ ap (λ n. rule_weight r t + rules_weight (drop n rs) t) e

pub rules_past : (t : Doc) (rs : List Rule) (i : ℕ) → length rs ≤ i → rules_weight (drop i rs) t ≡ 0
rules_past t rs i le = ap (λ l. rules_weight l t) (drop_all rs i le)

pub sizes_next : (items : List Tree) (i : ℕ) (x : Tree) → i < length items → x ≡ get_or items i x → elements_size (elements_view (drop i items)) ≡ whole_size (view x) + elements_size (elements_view (drop (i + 1) items))
sizes_next items i x lt is = ap elements_size (element_next items i x lt is)

pub sizes_past : (items : List Tree) (i : ℕ) → length items ≤ i → elements_size (elements_view (drop i items)) ≡ 0
sizes_past items i le = ap (λ l. elements_size (elements_view l)) (drop_all items i le)

pub names_next : (k : String Global) (s : List ℕ) (v : Tree) (es left : List (String Global × Tree)) → es ≡ (k, v) ∷ left → s ≡ string_bytes k → names_size (members_view es) ≡ own_size (text s) + names_size (members_view left)
names_next k s v es left e f = ap (λ l. names_size (members_view l)) e ∙ ap (λ n. own_size (text n) + names_size (members_view left)) (sym f)

pub members_next : (k : String Global) (s : List ℕ) (v : Tree) (es left : List (String Global × Tree)) → es ≡ (k, v) ∷ left → s ≡ string_bytes k → members_size (members_view es) ≡ own_size (text s) + whole_size (view v) + members_size (members_view left)
members_next k s v es left e f = ap (λ l. members_size (members_view l)) e ∙ ap (λ n. own_size (text n) + whole_size (view v) + members_size (members_view left)) (sym f)

module _ (nodes : List Node) (asked : List ℕ) where
  pub element_adds : (items : List Tree) (i : ℕ) (x : Tree) → i < length items → x ≡ get_or items i x
      → elements_work nodes asked i (elements_view (drop i items)) ≡ work nodes (asked_at nodes asked (index i)) (view x) + elements_work nodes asked (i + 1) (elements_view (drop (i + 1) items))
  element_adds items i x lt is =
      let e : suc i ≡ i + 1 = omega arith in
      ap (elements_work nodes asked i) (element_next items i x lt is) ∙ ap (λ n. work nodes (asked_at nodes asked (index i)) (view x) + elements_work nodes asked n (elements_view (drop (i + 1) items))) e

  pub elements_past : (items : List Tree) (i : ℕ) → length items ≤ i → elements_work nodes asked i (elements_view (drop i items)) ≡ 0
  elements_past items i le = ap (λ l. elements_work nodes asked i (elements_view l)) (drop_all items i le)

  pub member_adds : (k : String Global) (s : List ℕ) (v : Tree) (es left : List (String Global × Tree)) → es ≡ (k, v) ∷ left → s ≡ string_bytes k
      → members_work nodes asked (members_view es) ≡ work nodes (asked_at nodes asked (name s)) (view v) + weight nodes (closed nodes (asked_at nodes asked member_name)) (text s) + members_work nodes asked (members_view left)
  member_adds k s v es left e f =
      ap (λ l. members_work nodes asked (members_view l)) e
      ∙ ap (λ n. work nodes (asked_at nodes asked (name n)) (view v) + weight nodes (closed nodes (asked_at nodes asked member_name)) (text n) + members_work nodes asked (members_view left)) (sym f)
