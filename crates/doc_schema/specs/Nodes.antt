-- Schemas as numbered nodes: the rule of a member asks other nodes by their numbers, and nothing is looked up by name.
use Rattle.std.specs.Prelude.{◌≡◌, ℕ, zero, suc, List, [], ◌∷◌, Bool, true, Option, Some, None, option_map, option_and_then}
use Rattle.doc_tree.specs.Doc.{Doc, boolean, object, Members}
pub use Rattle.schema_levels.specs.Rules.{Rule}
pub use Rattle.schema_nodes.specs.Rules.{schemas_asked, AreRulesOf}
use Rattle.doc_schema.specs.Judge.{both}

-- a schema that is a truth value, or the rules of a schema object's members
pub data Node : Type 0 where
  fixed : Bool → Node
  ruled : List Rule → Node

-- the answers to what is asked; undecided if one is
abbrev pub node_answers : (ℕ → Doc → Option Bool) → List (ℕ × Doc) → Option (List Bool)
node_answers judged [] = Some []
node_answers judged (a ∷ rest) = option_and_then (λ b. option_map (λ bs. b ∷ bs) (node_answers judged rest)) (judged a.0 a.1)

-- all rules of a node apply together
abbrev pub rules_say : (ℕ → Doc → Option Bool) → List Rule → Doc → Option Bool
rules_say judged [] t = Some true
rules_say judged (r ∷ rules) t = both (option_map (r.joined t) (node_answers judged (r.asked t))) (rules_say judged rules t)

-- the answer of a node, if parts are judged in this way
abbrev pub node_step : (ℕ → Doc → Option Bool) → Node → Doc → Option Bool
node_step judged (fixed b) t = Some b
node_step judged (ruled rules) t = rules_say judged rules t

-- the judgement of the node with that number: undecided without steps, parts judged with one step fewer
abbrev pub judge_node : (ℕ → Node) → ℕ → ℕ → Doc → Option Bool
judge_node node zero p t = None
judge_node node (suc n) p t = node_step (judge_node node n) (node p) t

-- the node says what that schema says
abbrev pub IsNodeOf : Doc → (ℕ → Doc) → Node → Doc → Type 0
IsNodeOf root schema (fixed b) s = s ≡ boolean b
IsNodeOf root schema (ruled rules) s = (ms : Members) × (s ≡ object ms) × AreRulesOf root schema ms rules ms

-- each node says what the schema of its number says
abbrev pub AreNodesOf : Doc → (ℕ → Doc) → (ℕ → Node) → Type 0
AreNodesOf root schema node = (p : ℕ) → IsNodeOf root schema (node p) (schema p)
