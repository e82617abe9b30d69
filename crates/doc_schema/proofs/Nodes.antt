-- Judging by numbered nodes answers what judging by schemas answers, whatever the keywords are.
use Rattle.std.proofs.Common.{◌≡◌, ℕ, zero, suc, Bool, List, [], ◌∷◌, Option, Some, None, option_map, refl, sym, ap, ap₂, ◌∙◌}
use Rattle.doc_tree.specs.Doc.{Doc, Members, no_members, member}
use Rattle.schema_rules.specs.Keywords.{keyword_of}
use Rattle.schema_rules.specs.Rules.{asks, joins}
use Rattle.doc_schema.specs.Judge.{both, answers, says, all_say, step, judge}
use Rattle.doc_schema.specs.Nodes.{Rule, Node, fixed, ruled, node_answers, rules_say, node_step, judge_node, schemas_asked, AreRulesOf, IsNodeOf, AreNodesOf}

module _ (schema : ℕ → Doc) (f : ℕ → Doc → Option Bool) (g : Doc → Doc → Option Bool) (same : (p : ℕ) (t : Doc) → f p t ≡ g (schema p) t) where
  answers_join : (xs : List (ℕ × Doc)) → node_answers f xs ≡ answers g (schemas_asked schema xs)
  answers_join [] = refl
  answers_join (a ∷ xs) = rw (same a.0 a.1, answers_join xs) refl

  joined_same : (j k : List Bool → Bool) (o : Option (List Bool)) → ((bs : List Bool) → j bs ≡ k bs) → option_map j o ≡ option_map k o
  joined_same j k None h = refl
  joined_same j k (Some bs) h = ap (λ b. Some b) (h bs)

  rules_join : (root : Doc) (beside : Members) (rules : List Rule) (ms : Members) (t : Doc) → AreRulesOf root schema beside rules ms → rules_say f rules t ≡ all_say g root beside ms t
  rules_join root beside [] no_members t h = refl
  rules_join root beside (r ∷ rules) (member k v ms) t h =
      let one : option_map (r.joined t) (node_answers f (r.asked t)) ≡ says g root beside (keyword_of k) v t =
      ap (option_map (r.joined t)) (answers_join (r.asked t) ∙ ap (answers g) (h.0 t)) ∙ joined_same (r.joined t) (joins beside (keyword_of k) v t) (answers g (asks root beside (keyword_of k) v t)) (h.1 t) in
      ap₂ both one (rules_join root beside rules ms t h.2)
  rules_join root beside [] (member k v ms) t h = absurd h
  rules_join root beside (r ∷ rules) no_members t h = absurd h

  node_join : (root : Doc) (x : Node) (s t : Doc) → IsNodeOf root schema x s → node_step f x t ≡ step g root s t
  node_join root (fixed b) s t h = ap (λ d. step g root d t) (sym h)
  node_join root (ruled rules) s t h = rules_join root h.0 rules h.0 t h.2 ∙ ap (λ d. step g root d t) (sym h.1)

pub judge_join : (root : Doc) (schema : ℕ → Doc) (node : ℕ → Node) → AreNodesOf root schema node → (n p : ℕ) (t : Doc) → judge_node node n p t ≡ judge root n (schema p) t
judge_join root schema node h zero p t = refl
judge_join root schema node h (suc n) p t = node_join schema (judge_node node n) (judge root n) (judge_join root schema node h n) root (node p) (schema p) t (h p)
