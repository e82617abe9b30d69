-- Where nothing is asked, there is no work.
use Rattle.std.proofs.Common.{◌≡◌, ℕ, zero, suc, ◌+◌, List, [], ◌∷◌, length, replicate, refl, sym, ap, ap₂, ◌∙◌, if◌then◌else◌}
use Rattle.std.proofs.lemmas.List.{length-replicate}
use Rattle.doc_tree.specs.Doc.{Doc, null, boolean, int, text, list, object, Elements, no_elements, element, Members, no_members, member}
use Rattle.schema_levels.specs.Below.{collect, collect_rules}
use Rattle.schema_levels.specs.Closure.{close, mark_rules, rules_at}
use Rattle.schema_levels.specs.PlaceInValue.{PlaceInValue, name, index, member_name}
use Rattle.schema_levels.specs.declared.node.Node.{Node}
use Rattle.schema_levels.proofs.Folding.{none_clear}
use Rattle.judged_work.specs.Work.{asked_at, closed, elements_work, members_work, node_weight, weight, weight_from, work}

close_none : (nodes : List Node) (i n : ℕ) → close nodes i (replicate n 0) ≡ replicate n 0
close_none nodes zero n = refl
close_none nodes (suc i) n = ap (λ b. close nodes i (if b then mark_rules (rules_at nodes i) (replicate n 0) else replicate n 0)) (none_clear n i) ∙ close_none nodes i n

collect_none : (p : PlaceInValue) (n i : ℕ) (nodes : List Node) (bs : List ℕ) → collect (replicate n 0) p i nodes bs ≡ bs
collect_none p n i [] bs = refl
collect_none p n i (x ∷ xs) bs = ap (λ b. collect (replicate n 0) p (suc i) xs (if b then collect_rules x p x.rules.items bs else bs)) (none_clear n i) ∙ collect_none p n (suc i) xs bs

weight_none : (n i : ℕ) (nodes : List Node) (t : Doc) → weight_from (replicate n 0) i nodes t ≡ 0
weight_none n i [] t = refl
weight_none n i (x ∷ xs) t = ap₂ (λ a b. a + b) (ap (λ b. if b then node_weight (length {A = ℕ} (replicate n 0)) x t else 0) (none_clear n i)) (weight_none n (suc i) xs t)

module _ (nodes : List Node) (n : ℕ) where
  closed_none : closed nodes (replicate n 0) ≡ replicate n 0
  closed_none = close_none nodes (length nodes) n

  asked_none : (p : PlaceInValue) → asked_at nodes (replicate n 0) p ≡ replicate n 0
  asked_none p = collect_none p n 0 nodes (replicate (length {A = ℕ} (replicate n 0)) 0) ∙ ap (λ (m : ℕ). replicate {A = ℕ} m 0) (length-replicate {A = ℕ} n 0)

  here : (t : Doc) → weight nodes (closed nodes (replicate n 0)) t ≡ 0
  here t = ap (λ set. weight nodes set t) closed_none ∙ weight_none n 0 nodes t

  mutual
    pub work_none : (t : Doc) → work nodes (replicate n 0) t ≡ 0
    work_none null = here null
    work_none (boolean b) = here (boolean b)
    work_none (int z) = here (int z)
    work_none (text s) = here (text s)
    work_none (list ds) = ap₂ (λ a b. a + b) (here (list ds)) (ap (λ set. elements_work nodes set 0 ds) closed_none ∙ elements_none 0 ds)
    work_none (object ms) = ap₂ (λ a b. a + b) (here (object ms)) (ap (λ set. members_work nodes set ms) closed_none ∙ members_none ms)

    elements_none : (i : ℕ) (ds : Elements) → elements_work nodes (replicate n 0) i ds ≡ 0
    elements_none i no_elements = refl
    elements_none i (element d ds) = ap₂ (λ a b. a + b) (ap (λ set. work nodes set d) (asked_none (index i)) ∙ work_none d) (elements_none (suc i) ds)

    members_none : (ms : Members) → members_work nodes (replicate n 0) ms ≡ 0
    members_none no_members = refl
    members_none (member k d ms) =
        ap₂ (λ a b. a + b) (ap₂ (λ a b. a + b) (ap (λ set. work nodes set d) (asked_none (name k)) ∙ work_none d) (ap (λ set. weight nodes (closed nodes set) (text k)) (asked_none member_name) ∙ here (text k))) (members_none ms)

-- what is asked of a child, if the set was empty
pub begun : (nodes : List Node) (asked : List ℕ) (p : PlaceInValue) (below below' : List ℕ) → below ≡ replicate (length asked) 0 → below' ≡ collect asked p 0 nodes below → below' ≡ asked_at nodes asked p
begun nodes asked p below below' empty is = is ∙ ap (collect asked p 0 nodes) empty

-- nothing is asked of it, so there is no work
pub idle : (nodes : List Node) (asked : List ℕ) (p : PlaceInValue) (t : Doc) (below below' : List ℕ) → below ≡ replicate (length asked) 0 → below' ≡ collect asked p 0 nodes below → below' ≡ below → work nodes (asked_at nodes asked p) t ≡ 0
idle nodes asked p t below below' empty is same = ap (λ set. work nodes set t) (sym (begun nodes asked p below below' empty is) ∙ same ∙ empty) ∙ work_none nodes (length asked) t
