-- Rules of a node that say the same as the members of a schema object.
use Rattle.std.specs.Prelude.{◌≡◌, ⊤, ℕ, List, [], ◌∷◌, ◌++◌, map, Bool}
use Rattle.doc_tree.specs.Doc.{Doc, Members, no_members, member}
use Rattle.schema_rules.specs.Keywords.{keyword_of}
use Rattle.schema_rules.specs.declared.keyword.Keyword.{Keyword}
use Rattle.schema_rules.specs.Rules.{Ask, ask, asks, joins}
use Rattle.schema_levels.specs.Rules.{Rule}
use Rattle.schema_levels.specs.Table.{rules_pass, told_by}

-- the schemas that the asked nodes represent, with their values
abbrev pub schemas_asked : (ℕ → Doc) → List (ℕ × Doc) → List Ask
schemas_asked schema xs = map (λ a. ask (schema a.0) a.1) xs

-- the rules are those of the members, one each, with all members of their object beside them
abbrev pub AreRulesOf : Doc → (ℕ → Doc) → Members → List Rule → Members → Type 0
AreRulesOf root schema beside [] no_members = ⊤
AreRulesOf root schema beside (r ∷ rules) (member k v ms) =
    ((t : Doc) → schemas_asked schema (r.asked t) ≡ asks root beside (keyword_of k) v t)
    × ((t : Doc) (bs : List Bool) → r.joined t bs ≡ joins beside (keyword_of k) v t bs)
    × AreRulesOf root schema beside rules ms
AreRulesOf root schema beside _ _ = ⊥

-- all that rules ask, one after another
abbrev pub all_asked : List Rule → Doc → List (ℕ × Doc)
all_asked [] t = []
all_asked (r ∷ rules) t = r.asked t ++ all_asked rules t

-- together these rules ask and join as the keyword with this value does
pub record SayAs (root : Doc) (schema : ℕ → Doc) (beside : Members) (k : Keyword) (v : Doc) (rules : List Rule) : Type 0 where
  pub asked : (t : Doc) → schemas_asked schema (all_asked rules t) ≡ asks root beside k v t
  pub joined : (known : ℕ → Doc → Bool) (t : Doc) → rules_pass known rules t ≡ joins beside k v t (told_by known (all_asked rules t))

-- the rules are those of the members, some for each
abbrev pub AreRulesFor : Doc → (ℕ → Doc) → Members → List Rule → Members → Type 0
AreRulesFor root schema beside rules no_members = rules ≡ []
AreRulesFor root schema beside rules (member k v ms) = (mine : List Rule) × (others : List Rule) × (rules ≡ mine ++ others) × SayAs root schema beside (keyword_of k) v mine × AreRulesFor root schema beside others ms
