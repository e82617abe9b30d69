-- Rules that count elements ask and join as `contains` and `maxContains` do.
use Rattle.std.proofs.Common.{◌≡◌, ℕ, suc, ◌+◌, ◌≤◌, List, [], ◌∷◌, Bool, true, false, Some, None, refl, sym, ap, ◌∙◌, arith, codes}
use Rattle.std.specs.Prelude.{pos}
use Rattle.std.proofs.lemmas.Bool.{le-leb}
use Rattle.doc_tree.specs.Doc.{Doc, null, boolean, int, text, list, object, Elements, no_elements, element, Members, get_member}
use Rattle.doc_tree.specs.TreeView.{view}
use Rattle.doc_tree.specs.declared.tree.Tree.{Tree}
use Rattle.schema_rules.specs.Assertions.{at_least, at_most, on_list}
use Rattle.schema_rules.specs.Parts.{elements_in}
use Rattle.schema_rules.specs.Rules.{ask, of_each, of_contained, with_schema, or_one, some, how_many}
use Rattle.schema_rules.specs.declared.keyword.Keyword.TheVariants.{Contains as contains_keyword, MaxContains as max_keyword}
use Rattle.schema_levels.specs.Below.{below}
use Rattle.schema_levels.specs.PlaceInValue.{name, index, member_name}
use Rattle.schema_levels.specs.Table.{children, items_from, ask_children, ask_found}
use Rattle.schema_levels.specs.declared.node.Node.{Node}
use Rattle.schema_levels.specs.declared.node.Rule.{Rule}
use Rattle.schema_levels.specs.declared.node.Rule.TheVariants.{Says, Contains, AtLeast, AtMost}
use Rattle.schema_nodes.specs.Nodes.{IsRule}
use Rattle.schema_nodes.specs.Rules.{schemas_asked}
use Rattle.schema_nodes.proofs.RuleKinds.{in_place, no_named, of_members}

-- each element is asked
module _ (schema : ℕ → Doc) (x : Node) (r : Rule) (j : ℕ) (each : (n : ℕ) → below x r (index n) ≡ Some j) (no_name : (k : List ℕ) → below x r (name k) ≡ None) (no_title : below x r member_name ≡ None) where
  each_from : (n : ℕ) (ts : Elements) → schemas_asked schema (ask_children x r (items_from n ts)) ≡ of_each (schema j) ts
  each_from n no_elements = refl
  each_from n (element t ts) = ap (λ o. schemas_asked schema (ask_found o t (ask_children x r (items_from (suc n) ts)))) (each n) ∙ ap (λ l. ask (schema j) t ∷ l) (each_from (suc n) ts)

  each_asked : (t : Doc) → schemas_asked schema (ask_children x r (children t)) ≡ of_each (schema j) (elements_in t)
  each_asked null = refl
  each_asked (boolean b) = refl
  each_asked (int z) = refl
  each_asked (text s) = refl
  each_asked (list ts) = each_from 0 ts
  each_asked (object ts) = ap (schemas_asked schema) (of_members x r no_title ts ∙ no_named x r no_name ts)

-- at least one is some
some_is_one : (bs : List Bool) → some bs ≡ at_least (int (pos 1)) (how_many bs)
some_is_one [] = refl
some_is_one (true ∷ bs) = let more : 1 ≤ how_many bs + 1 = omega arith in sym (le-leb 1 (how_many bs + 1) more)
some_is_one (false ∷ bs) = some_is_one bs

module _ (schema : ℕ → Doc) (root : Doc) (ms : Members) (v : Doc) where
  pub is_contains : (j : ℕ) → schema j ≡ v → get_member (codes "minContains") ms ≡ None → IsRule schema root ms contains_keyword v (Contains j)
  is_contains j e none x suits = (
    λ t. each_asked schema x (Contains j) j (λ n. refl) (λ k. refl) refl t ∙ ap (λ d. of_each d (elements_in t)) e,
    λ t bs. ap (λ b. on_list (λ _. b) t) (some_is_one bs) ∙ sym (ap (λ o. on_list (λ _. at_least (or_one o) (how_many bs)) t) none),
  )

  pub is_at_least : (j : ℕ) (a : Tree) → schema j ≡ v → get_member (codes "minContains") ms ≡ Some (view a) → IsRule schema root ms contains_keyword v (AtLeast j a)
  is_at_least j a e least x suits = (
    λ t. each_asked schema x (AtLeast j a) j (λ n. refl) (λ k. refl) refl t ∙ ap (λ d. of_each d (elements_in t)) e,
    λ t bs. sym (ap (λ o. on_list (λ _. at_least (or_one o) (how_many bs)) t) least),
  )

  pub is_at_most : (j : ℕ) (a : Tree) → get_member (codes "contains") ms ≡ Some (schema j) → view a ≡ v → IsRule schema root ms max_keyword v (AtMost j a)
  is_at_most j a found e x suits = (
    λ t. each_asked schema x (AtMost j a) j (λ n. refl) (λ k. refl) refl t ∙ sym (ap (λ o. of_contained o (elements_in t)) found),
    λ t bs. ap (λ d. on_list (λ _. at_most d (how_many bs)) t) e ∙ sym (ap (λ o. with_schema o (on_list (λ _. at_most v (how_many bs)) t)) found),
  )

  pub is_no_limit : get_member (codes "contains") ms ≡ None → IsRule schema root ms max_keyword v (Says true)
  is_no_limit none x suits = (
    λ t. in_place schema x (Says true) t _ (λ n. refl) (λ k. refl) refl (sym (ap (λ o. of_contained o (elements_in t)) none)),
    λ t bs. sym (ap (λ o. with_schema o (on_list (λ _. at_most v (how_many bs)) t)) none),
  )
