-- The searches that nodes need stay while others are made.
use Rattle.std.proofs.Common.{◌≡◌, ℕ, zero, suc, ◌<◌, List, [], ◌∷◌, length, get_or, sym, subst, arith}
use Rattle.schema_levels.specs.Searched.{IsSearched, AreRulesSearched, AreSearched}
use Rattle.schema_levels.specs.declared.node.Node.{Node}
use Rattle.schema_levels.specs.declared.node.Rule.{Rule}

pub still : (old new : List (List ℕ)) (nodes : List Node) → new ≡ old → AreSearched old nodes → AreSearched new nodes
still old new nodes e h = subst (λ ss. AreSearched ss nodes) (sym e) h

pub rules_still : (old new : List (List ℕ)) (rs : List Rule) → new ≡ old → AreRulesSearched old rs → AreRulesSearched new rs
rules_still old new rs e h = subst (λ ss. AreRulesSearched ss rs) (sym e) h

node_at : (ss : List (List ℕ)) (nodes : List Node) (i : ℕ) (d : Node) → i < length nodes → AreSearched ss nodes → AreRulesSearched ss (get_or nodes i d).rules.items
node_at ss [] i d lt h = absurd (omega arith)
node_at ss (x ∷ xs) zero d lt h = h.0
node_at ss (x ∷ xs) (suc i) d lt h = node_at ss xs i d (omega arith) h.1

pub of_node : (ss : List (List ℕ)) (nodes : List Node) (i : ℕ) (x : Node) → i < length nodes → x ≡ get_or nodes i x → AreSearched ss nodes → AreRulesSearched ss x.rules.items
of_node ss nodes i x lt is h = subst (λ (y : Node). AreRulesSearched ss y.rules.items) (sym is) (node_at ss nodes i x lt h)

rule_at : (ss : List (List ℕ)) (rs : List Rule) (i : ℕ) (d : Rule) → i < length rs → AreRulesSearched ss rs → IsSearched ss (get_or rs i d)
rule_at ss [] i d lt h = absurd (omega arith)
rule_at ss (r ∷ rs) zero d lt h = h.0
rule_at ss (r ∷ rs) (suc i) d lt h = rule_at ss rs i d (omega arith) h.2

pub of_rule : (ss : List (List ℕ)) (rs : List Rule) (i : ℕ) (r : Rule) → i < length rs → r ≡ get_or rs i r → AreRulesSearched ss rs → IsSearched ss r
of_rule ss rs i r lt is h = subst (IsSearched ss) (sym is) (rule_at ss rs i r lt h)
