-- The rule of a member of a schema object: which schemas it asks of which values, and how it joins their answers (JSON
-- Schema Core, section 10).
use Rattle.std.specs.Prelude.{ℕ, pos, ◌+◌, ◌==◌, List, [], ◌∷◌, ◌++◌, length, Bool, true, false, not, ◌&&◌, ◌||◌, if◌then◌else◌, Option, Some, None, is_some, codes}
use Rattle.doc_tree.specs.Doc.{Doc, int, text, object, Elements, no_elements, element, Members, no_members, member, get_member}
use Rattle.doc_tree.specs.Lists.{elements_list, names_list}
use Rattle.schema_rules.specs.Parts.{elements_in, members_in, after, beside}
use Rattle.schema_rules.specs.Assertions.{asserts, at_least, at_most, on_list}
use Rattle.schema_pattern.specs.Patterns.{is_found, pattern_in}
use Rattle.schema_pattern.specs.Tables.{some_found}
use Rattle.schema_rules.specs.Patterns.{fits}
use Rattle.schema_rules.specs.References.{target}
use Rattle.schema_rules.specs.declared.keyword.Keyword.{Keyword}
use Rattle.schema_rules.specs.declared.keyword.Keyword.TheVariants.{Pattern, Properties, PatternProperties, AdditionalProperties, PropertyNames, PrefixItems, Items, Contains, MaxContains, AllOf, AnyOf, OneOf, Not, Then, Else, DependentSchemas, Ref}

-- ---- which schemas are asked of which values

-- whether the instance passes the schema
pub record Ask : Type 0 where
  pub schema : Doc
  pub instance : Doc

abbrev pub ask : Doc → Doc → Ask
ask s t = record { schema = s; instance = t }

-- each of the schemas, of one instance (Core, section 10.2.1)
abbrev pub at_each : Elements → Doc → List Ask
at_each no_elements t = []
at_each (element s ss) t = ask s t ∷ at_each ss t

-- each of the schemas by name, of one instance
abbrev pub by_each : Members → Doc → List Ask
by_each no_members t = []
by_each (member k s ss) t = ask s t ∷ by_each ss t

-- one schema, of each element (Core, section 10.3.1.2)
abbrev pub of_each : Doc → Elements → List Ask
of_each s no_elements = []
of_each s (element t ts) = ask s t ∷ of_each s ts

-- each schema of the element at its place, as far as both go (Core, section 10.3.1.1)
abbrev pub by_place : Elements → Elements → List Ask
by_place no_elements ts = []
by_place (element s ss) no_elements = []
by_place (element s ss) (element t ts) = ask s t ∷ by_place ss ts

-- the schema, if there is one, before the others
abbrev pub if_named : Option Doc → Doc → List Ask → List Ask
if_named None t others = others
if_named (Some s) t others = ask s t ∷ others

-- the schema of its name, of each member that is named (Core, section 10.3.2.1)
abbrev pub by_name : Members → Members → List Ask
by_name ss no_members = []
by_name ss (member k t ts) = if_named (get_member k ss) t (by_name ss ts)

-- the same of a keyword's value
abbrev pub each_named : Doc → Members → List Ask
each_named (object ss) ts = by_name ss ts
each_named _ ts = []

-- one schema, of each member in whose name the pattern is found
abbrev pub of_matching : List ℕ → Doc → Members → List Ask
of_matching p s no_members = []
of_matching p s (member k t ts) = if is_found (pattern_in p) k then (ask s t ∷ of_matching p s ts) else of_matching p s ts

-- the same of each schema, whose name is the pattern (Core, section 10.3.2.2)
abbrev pub by_pattern : Members → Members → List Ask
by_pattern no_members ts = []
by_pattern (member p s ss) ts = of_matching p s ts ++ by_pattern ss ts

-- one schema, of each member that isn't named, and in whose name none of the patterns is found (Core, section 10.3.2.3)
abbrev pub of_others : Members → List (List ℕ) → Doc → Members → List Ask
of_others named patterns s no_members = []
of_others named patterns s (member k t ts) = if is_some (get_member k named) || some_found patterns k then of_others named patterns s ts else (ask s t ∷ of_others named patterns s ts)

-- one schema, of each member's name as a text (Core, section 10.3.2.4)
abbrev pub of_names : Doc → Members → List Ask
of_names s no_members = []
of_names s (member k t ts) = ask s (text k) ∷ of_names s ts

-- the schema that a reference names, if it names one (Core, section 8.2.3.1)
abbrev pub at_target : Option Doc → Doc → List Ask
at_target o t = if_named o t []

-- the schema of `contains`, if that is a member beside this one, of each element (Validation, section 6.4.4)
abbrev pub of_contained : Option Doc → Elements → List Ask
of_contained None ts = []
of_contained (Some s) ts = of_each s ts

-- the schema of `if`, if that is a member beside this one, and then the keyword's own one (Core, section 10.2.2)
abbrev pub after_if : Option Doc → Doc → Doc → List Ask
after_if None s t = []
after_if (Some condition) s t = ask condition t ∷ ask s t ∷ []

-- what the keyword asks, with this value and these members of its object (itself among them); a keyword that isn't listed asks nothing
abbrev pub asks : Doc → Members → Keyword → Doc → Doc → List Ask
asks root ms Properties v t = each_named v (members_in t)
asks root ms PatternProperties v t = by_pattern (members_in v) (members_in t)
asks root ms AdditionalProperties v t = of_others (members_in (beside (codes "properties") ms)) (names_list (members_in (beside (codes "patternProperties") ms))) v (members_in t)
asks root ms PropertyNames v t = of_names v (members_in t)
asks root ms PrefixItems v t = by_place (elements_in v) (elements_in t)
asks root ms Items v t = of_each v (after (length (elements_list (elements_in (beside (codes "prefixItems") ms)))) (elements_in t))
asks root ms Contains v t = of_each v (elements_in t)
asks root ms MaxContains v t = of_contained (get_member (codes "contains") ms) (elements_in t)
asks root ms AllOf v t = at_each (elements_in v) t
asks root ms AnyOf v t = at_each (elements_in v) t
asks root ms OneOf v t = at_each (elements_in v) t
asks root ms Not v t = ask v t ∷ []
asks root ms Then v t = after_if (get_member (codes "if") ms) v t
asks root ms Else v t = after_if (get_member (codes "if") ms) v t
asks root ms DependentSchemas v t = by_each (members_in v) t
asks root ms Ref v t = at_target (target root v) t
asks root ms _ v t = []

-- ---- how the answers are joined

-- all are true
abbrev pub every : List Bool → Bool
every [] = true
every (b ∷ bs) = b && every bs

-- at least one is true
abbrev pub some : List Bool → Bool
some [] = false
some (b ∷ bs) = b || some bs

-- how many are true
abbrev pub how_many : List Bool → ℕ
how_many [] = 0
how_many (b ∷ bs) = if b then how_many bs + 1 else how_many bs

-- the number of `minContains` beside, or 1 (Validation, section 6.4.5)
abbrev pub or_one : Option Doc → Doc
or_one None = int (pos 1)
or_one (Some d) = d

-- nothing is said without that schema beside
abbrev pub with_schema : Option Doc → Bool → Bool
with_schema None b = true
with_schema (Some s) b = b

-- nothing is said without `if` (Core, section 10.2.2)
abbrev pub with_if : Option Doc → Bool → Bool
with_if None b = true
with_if (Some condition) b = b

-- the second is true if the first is (Core, section 10.2.2.2)
abbrev pub where_true : List Bool → Bool
where_true (condition ∷ b ∷ bs) = not condition || b
where_true _ = true

-- the second is true if the first isn't (Core, section 10.2.2.3)
abbrev pub where_false : List Bool → Bool
where_false (condition ∷ b ∷ bs) = condition || b
where_false _ = true

-- each is true whose name is that of a member (Core, section 10.2.2.4)
abbrev pub where_present : List (List ℕ) → Doc → List Bool → Bool
where_present (k ∷ ks) t (b ∷ bs) = (not (is_some (get_member k (members_in t))) || b) && where_present ks t bs
where_present _ _ _ = true

-- whether the instance passes, by the answers to what was asked; a keyword that asks nothing says what it asserts
abbrev pub joins : Members → Keyword → Doc → Doc → List Bool → Bool
joins ms Properties v t answers = every answers
joins ms PatternProperties v t answers = every answers
joins ms AdditionalProperties v t answers = every answers
joins ms PropertyNames v t answers = every answers
joins ms PrefixItems v t answers = every answers
joins ms Items v t answers = every answers
joins ms Contains v t answers = on_list (λ _. at_least (or_one (get_member (codes "minContains") ms)) (how_many answers)) t
joins ms MaxContains v t answers = with_schema (get_member (codes "contains") ms) (on_list (λ _. at_most v (how_many answers)) t)
joins ms AllOf v t answers = every answers
joins ms AnyOf v t answers = some answers
joins ms OneOf v t answers = how_many answers == 1
joins ms Not v t answers = not (every answers)
joins ms Then v t answers = with_if (get_member (codes "if") ms) (where_true answers)
joins ms Else v t answers = with_if (get_member (codes "if") ms) (where_false answers)
joins ms DependentSchemas v t answers = where_present (names_list (members_in v)) t answers
joins ms Ref v t answers = every answers
joins ms Pattern v t answers = fits v t
joins ms k v t answers = asserts k v t
