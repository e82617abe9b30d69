-- The rules of members, and what they say together.
use Rattle.std.proofs.Common.{◌≡◌, ℕ, List, [], ◌∷◌, ◌++◌, map, length, Bool, true, false, Less, ◌⊎◌, inl, inr, Option, Some, None, option_map, String, Vec, Global, string_bytes, string_cmp, refl, sym, ap, subst, ◌∙◌, append-nil, append_assoc, arith, codes, if◌then◌else◌}
use Rattle.std.specs.List.{AllByRecursion}
use Rattle.std.specs.List.Sorted.{IsStrictlySortedBy}
use Rattle.std.specs.Map.{keys_of}
use Rattle.std.specs.Option.{option_and_then}
use Rattle.std.specs.Str.{bytes_eq}
use Rattle.doc_tree.specs.Doc.{Doc, null, boolean, int, text, list, object, Members, no_members, member, get_member}
use Rattle.doc_tree.specs.Sound.{IsBefore}
use Rattle.doc_tree.specs.TreeView.{members_view}
use Rattle.doc_tree.specs.declared.tree.Tree.{Tree}
use Rattle.schema_rules.specs.Keywords.{keyword_of, shape_of}
use Rattle.schema_rules.specs.Parts.{members_in, beside, or_null}
use Rattle.doc_tree.proofs.Members.{get_member-first}
use Rattle.schema_nodes.proofs.KeywordNames.{properties_name, get_later}
use Rattle.schema_rules.specs.EarlierReferences.{earlier_target, definition, is_name, without_front}
use Rattle.schema_rules.specs.References.{reached as leads, spelled_by, target, tokens_to}
use Rattle.schema_references.proofs.Kept.{stays}
use Rattle.schema_nodes.specs.Entries.{doc_at}
use Rattle.schema_nodes.proofs.Reaching.{by_schema, reached}
use Rattle.schema_rules.specs.declared.keyword.Keyword.{Keyword}
use Rattle.schema_rules.specs.declared.keyword.Keyword.TheVariants as keywords
use Rattle.schema_rules.specs.Assertions.{asserts}
use Rattle.schema_rules.specs.Holds.{holds}
use Rattle.schema_rules.specs.declared.assertion.Assertion.{Assertion}
use Rattle.schema_rules.proofs.Others.{AsksNone}
use Rattle.doc_tree.specs.Lists.{names_list, values_list}
use Rattle.schema_nodes.specs.Rules.{AreRulesFor, SayAs}
use Rattle.schema_nodes.proofs.Matching.{say_one, say_patterns}
use Rattle.schema_graph.specs.Orders.{at}
use Rattle.schema_graph.specs.Walks.{In, first}
use Rattle.schema_graph.proofs.Among.{In-left, In-right}
use Rattle.schema_rules.specs.declared.profile.Profile.TheVariants.{Three}
use Rattle.schema_rules.specs.Patterns.{fits}
use Rattle.schema_rules.specs.PatternTexts.{texts_of, texts_by}
use Rattle.schema_rules.specs.Schemas.{held_in}
use Rattle.schema_levels.specs.Below.{number_named}
use Rattle.schema_levels.specs.Table.{rule_of}
use Rattle.schema_levels.specs.declared.node.Node.{Node}
use Rattle.schema_levels.specs.declared.node.Rule.{Rule}
use Rattle.schema_levels.specs.declared.node.Rule.TheVariants.{Asserts, Then, Else}
use Rattle.schema_nodes.specs.declared.targets.Targets.{Targets}
use Rattle.schema_nodes.specs.Nodes.{Suits, IsRule, IsNodeFor, Finds, HaveRows}
use Rattle.schema_nodes.specs.Fits.{AreTargets, IsBuilt, IsMatch, number_in, pattern_number, patterns_of, number_by, number_at_end, unless_found, target_number, first_of, IsReference, IsChoice, IsCount, IsLimit, AsksNoSchema, Around, Fits, FitAll, around, AreFitting, AsMany, AreSorted}
use Rattle.schema_nodes.proofs.Searches.{HaveNumbers}
use Rattle.schema_nodes.proofs.Conditions.{contains_held, if_held, single_is}
use Rattle.schema_nodes.proofs.RuleKinds.{is_all, is_any, is_one, is_dependent, is_not, is_then, is_no_then, is_else, is_no_else, is_reference, is_no_reference, is_match, is_no_match, is_assertion, is_nothing, is_properties, is_others, is_names, is_by_place, is_rest}
use Rattle.schema_nodes.proofs.Counting.{is_contains, is_at_least, is_at_most, is_no_limit}

-- ---- the loop over the members

pub record Fitting (ts : Targets) (ranks : List ℕ) (root : Doc) (near : Around) (left : Members) (left_rows : List (Vec ℕ Global)) (all : Members) (rows : List (Vec ℕ Global)) (rules : List Rule) : Type 0 where
  pub many : AsMany left left_rows
  pub rest : (more : List Rule) → AreFitting ts ranks root near left left_rows more → AreFitting ts ranks root near all rows (rules ++ more)

pub begins : (ts : Targets) (ranks : List ℕ) (root : Doc) (near : Around) (all : Members) (rows : List (Vec ℕ Global)) → AsMany all rows → Fitting ts ranks root near all rows all rows []
begins ts ranks root near all rows h = record { many = h; rest = λ more f. f }

pub goes_on : (ts : Targets) (ranks : List ℕ) (root : Doc) (near : Around) (left left' all : Members) (left_rows left_rows' rows : List (Vec ℕ Global)) (rules : List Rule) (k : List ℕ) (v : Doc) (row : Vec ℕ Global) (mine : List Rule)
    → Fitting ts ranks root near left left_rows all rows rules → left ≡ member k v left' → left_rows ≡ row ∷ left_rows' → FitAll ts ranks root near (keyword_of k) v row.items mine → Fitting ts ranks root near left' left_rows' all rows (rules ++ mine)
goes_on ts ranks root near left left' all left_rows left_rows' rows rules k v row mine h e f fits = record {
  many = subst (λ l. AsMany (member k v left') l) f (subst (λ l. AsMany l left_rows) e h.many);
  rest = λ more m. subst (λ l. AreFitting ts ranks root near all rows l) (sym (append_assoc rules mine more))
      (h.rest (mine ++ more) (subst (λ l. AreFitting ts ranks root near l left_rows (mine ++ more)) (sym e) (subst (λ l. AreFitting ts ranks root near (member k v left') l (mine ++ more)) (sym f) (mine, more, refl, fits, m))));
}

pub ends : (ts : Targets) (ranks : List ℕ) (root : Doc) (near : Around) (left all : Members) (left_rows rows : List (Vec ℕ Global)) (rules : List Rule) → Fitting ts ranks root near left left_rows all rows rules → (left ≡ no_members) ⊎ (length left_rows ≡ 0) → AreFitting ts ranks root near all rows rules
ends ts ranks root near no_members all [] rows rules h e = subst (λ l. AreFitting ts ranks root near all rows l) (append-nil rules) (h.rest [] refl)
ends ts ranks root near no_members all (row ∷ left_rows) rows rules h e = absurd h.many
ends ts ranks root near (member k v left) all [] rows rules h e = absurd h.many
ends ts ranks root near (member k v left) all (row ∷ left_rows) rows rules h (inl e) = absurd cc
ends ts ranks root near (member k v left) all (row ∷ left_rows) rows rules h (inr e) = absurd (omega (arith, e))

before : (k : String Global) (es : List (String Global × Tree)) → AllByRecursion (λ y. string_cmp k y ≡ Less) (keys_of es) → IsBefore (string_bytes k) (members_view es)
before k [] h = tt
before k (e ∷ es) h = (h.0, before k es h.1)

pub sorted : (es : List (String Global × Tree)) → IsStrictlySortedBy string_cmp (keys_of es) → AreSorted (members_view es)
unfolding IsStrictlySortedBy
sorted [] h = tt
sorted (e ∷ es) h = (before e.0 es h.0, sorted es h.1)

-- ---- references

module _ (schema : ℕ → Doc) (root : Doc) (ts : Targets) (targets : AreTargets schema root ts) where
  by_name : (o : Option (List ℕ)) (d : Doc) → definition root o ≡ Some d → option_map schema (option_and_then (λ n. number_named n ts.named.entries) o) ≡ Some d
  by_name None d e = absurd cc
  by_name (Some n) d e = by_test (is_name n) e
    where
      by_test : (b : Bool) → (if b then get_member n (members_in (beside (codes "$defs") (members_in root))) else None) ≡ Some d → option_map schema (number_named n ts.named.entries) ≡ Some d
      by_test true e = targets.named n ∙ e
      by_test false e = absurd cc

  by_text : (b : Bool) (o : Option (List ℕ)) (d : Doc) → (if b then Some root else definition root o) ≡ Some d → option_map schema (if b then Some ts.whole else option_and_then (λ n. number_named n ts.named.entries) o) ≡ Some d
  by_text true o d e = ap (λ x. Some x) targets.whole ∙ e
  by_text false o d e = by_name o d e

  by_value : (v d : Doc) → earlier_target root v ≡ Some d → option_map schema (number_by ts v) ≡ Some d
  by_value (text s) d e = by_text (bytes_eq s (codes "#")) (without_front (codes "#/$defs/") s) d e
  by_value null d e = absurd cc
  by_value (boolean b) d e = absurd cc
  by_value (int z) d e = absurd cc
  by_value (list ds) d e = absurd cc
  by_value (object ms) d e = absurd cc

  by_end : (o : Option (List (List ℕ))) (name : Option (List ℕ)) → option_map schema (number_at_end ts root o name) ≡ leads root o name
  by_end (Some ks) name = by_schema schema (doc_at targets.entries) _ _ targets.agree (reached root targets.entries targets.are ts.held.now targets.held ts.named.entries (Some ks) ts.whole targets.stands)
  by_end None None = refl
  by_end None (Some s) = targets.anchors s

  pub finds : (v : Doc) → option_map schema (target_number ts root v) ≡ target root v
  finds v = by_target (earlier_target root v) refl
    where
      by_target : (o : Option Doc) → earlier_target root v ≡ o → option_map schema (unless_found o (number_by ts v) (number_at_end ts root (tokens_to root v) (spelled_by root v))) ≡ target root v
      by_target None e = by_end (tokens_to root v) (spelled_by root v)
      by_target (Some d) e = by_value v d e ∙ sym (stays root v d e)

fuse : (schema : ℕ → Doc) (ranks : List ℕ) (o : Option ℕ) → option_map schema (option_map (at ranks) o) ≡ option_map (λ c. schema (at ranks c)) o
fuse schema ranks None = refl
fuse schema ranks (Some c) = refl

is_reference_rule : (schema : ℕ → Doc) (root : Doc) (ms : Members) (v : Doc) (o : Option ℕ) (r : Rule) → option_map schema o ≡ target root v → IsReference o r → IsRule schema root ms keywords.Ref v r
is_reference_rule schema root ms v None r e h = subst (IsRule schema root ms keywords.Ref v) (sym h.1) (is_no_reference schema root ms v h.0 h.2 (sym e))
is_reference_rule schema root ms v (Some j) r e h = subst (IsRule schema root ms keywords.Ref v) (sym h) (is_reference schema root ms v j (sym e))

then_rule : (schema : ℕ → Doc) (root : Doc) (ms : Members) (v : Doc) (row : List ℕ) (o : Option ℕ) (r : Rule) → Finds schema o (get_member (codes "if") ms) → schema (first_of row) ≡ v → IsChoice Then o row r → IsRule schema root ms keywords.Then v r
then_rule schema root ms v row None r found e h = subst (IsRule schema root ms keywords.Then v) (sym h) (is_no_then schema root ms v (sym found))
then_rule schema root ms v row (Some c) r found e h = subst (IsRule schema root ms keywords.Then v) (sym h) (is_then schema root ms v c (first_of row) (sym found) e)

else_rule : (schema : ℕ → Doc) (root : Doc) (ms : Members) (v : Doc) (row : List ℕ) (o : Option ℕ) (r : Rule) → Finds schema o (get_member (codes "if") ms) → schema (first_of row) ≡ v → IsChoice Else o row r → IsRule schema root ms keywords.Else v r
else_rule schema root ms v row None r found e h = subst (IsRule schema root ms keywords.Else v) (sym h) (is_no_else schema root ms v (sym found))
else_rule schema root ms v row (Some c) r found e h = subst (IsRule schema root ms keywords.Else v) (sym h) (is_else schema root ms v c (first_of row) (sym found) e)

count_rule : (schema : ℕ → Doc) (root : Doc) (ms : Members) (v : Doc) (row : List ℕ) (o : Option Doc) (r : Rule) → get_member (codes "minContains") ms ≡ o → schema (first_of row) ≡ v → IsCount o row r → IsRule schema root ms keywords.Contains v r
count_rule schema root ms v row None r found e h = subst (IsRule schema root ms keywords.Contains v) (sym h) (is_contains schema root ms v (first_of row) e found)
count_rule schema root ms v row (Some d) r found e h = subst (IsRule schema root ms keywords.Contains v) (sym h.1) (is_at_least schema root ms v (first_of row) h.0 e (found ∙ ap (λ x. Some x) (sym h.2)))

limit_rule : (schema : ℕ → Doc) (root : Doc) (ms : Members) (v : Doc) (o : Option ℕ) (r : Rule) → Finds schema o (get_member (codes "contains") ms) → IsLimit o v r → IsRule schema root ms keywords.MaxContains v r
limit_rule schema root ms v None r found h = subst (IsRule schema root ms keywords.MaxContains v) (sym h) (is_no_limit schema root ms v (sym found))
limit_rule schema root ms v (Some j) r found h = subst (IsRule schema root ms keywords.MaxContains v) (sym h.1) (is_at_most schema root ms v j h.0 (sym found) h.2)

first_is : (schema : ℕ → Doc) (row : List ℕ) (d : Doc) → map schema row ≡ d ∷ [] → schema (first_of row) ≡ d
first_is schema [] d e = absurd cc
first_is schema (j ∷ row) d e = cc

-- ---- patterns

-- without a number the value is no text
unnumbered : (ps : List (List ℕ)) (v : Doc) → HaveNumbers ps (texts_of keywords.Pattern v) → pattern_number ps v ≡ None → (t : Doc) → fits v t ≡ true
unnumbered ps (text s) known e t = absurd (known s first e)
unnumbered ps null known e t = refl
unnumbered ps (boolean b) known e t = refl
unnumbered ps (int z) known e t = refl
unnumbered ps (list ds) known e t = refl
unnumbered ps (object ms) known e t = refl

match_rule : (schema : ℕ → Doc) (root : Doc) (ms : Members) (v : Doc) (o : Option ℕ) (r : Rule) → (o ≡ None → (t : Doc) → fits v t ≡ true) → IsMatch o v r → IsRule schema root ms keywords.Pattern v r
match_rule schema root ms v None r none h = subst (IsRule schema root ms keywords.Pattern v) (sym h) (is_no_match schema root ms v (none refl))
match_rule schema root ms v (Some n) r none h = subst (IsRule schema root ms keywords.Pattern v) (sym h.1) (is_match schema root ms v n h.0 h.2)

-- ---- a keyword that asks no schema

pub fits_alone : (ts : Targets) (ranks : List ℕ) (root : Doc) (near : Around) (k : Keyword) (v : Doc) (row : List ℕ) (r : Rule) → AsksNone k → AsksNoSchema k v r → Fits ts ranks root near k v row r
fits_alone ts ranks root near keywords.Pattern v row r none h = absurd (none.not_pattern refl)
fits_alone ts ranks root near keywords.Properties v row r none h = absurd (none.not_properties refl)
fits_alone ts ranks root near keywords.PatternProperties v row r none h = absurd (none.not_pattern_properties refl)
fits_alone ts ranks root near keywords.AdditionalProperties v row r none h = absurd (none.not_additional_properties refl)
fits_alone ts ranks root near keywords.PropertyNames v row r none h = absurd (none.not_property_names refl)
fits_alone ts ranks root near keywords.PrefixItems v row r none h = absurd (none.not_prefix_items refl)
fits_alone ts ranks root near keywords.Items v row r none h = absurd (none.not_items refl)
fits_alone ts ranks root near keywords.Contains v row r none h = absurd (none.not_contains refl)
fits_alone ts ranks root near keywords.MaxContains v row r none h = absurd (none.not_max_contains refl)
fits_alone ts ranks root near keywords.AllOf v row r none h = absurd (none.not_all_of refl)
fits_alone ts ranks root near keywords.AnyOf v row r none h = absurd (none.not_any_of refl)
fits_alone ts ranks root near keywords.OneOf v row r none h = absurd (none.not_one_of refl)
fits_alone ts ranks root near keywords.Not v row r none h = absurd (none.not_not refl)
fits_alone ts ranks root near keywords.Then v row r none h = absurd (none.not_then refl)
fits_alone ts ranks root near keywords.Else v row r none h = absurd (none.not_else refl)
fits_alone ts ranks root near keywords.DependentSchemas v row r none h = absurd (none.not_dependent_schemas refl)
fits_alone ts ranks root near keywords.Ref v row r none h = absurd (none.not_ref refl)
fits_alone ts ranks root near _ v row r none h = h

-- the keyword is none of those that assert nothing
pub record Asserting (k : Keyword) : Type 0 where
  pub not_min_contains : k ≡ keywords.MinContains → ⊥
  pub not_if : k ≡ keywords.If → ⊥
  pub not_defs : k ≡ keywords.Defs → ⊥
  pub not_anchor : k ≡ keywords.Anchor → ⊥
  pub not_id : k ≡ keywords.Id → ⊥
  pub not_dialect : k ≡ keywords.Dialect → ⊥
  pub not_left_out : k ≡ keywords.LeftOut → ⊥
  pub not_unknown : k ≡ keywords.Unknown → ⊥

pub asserts_alone : (k : Keyword) (v : Doc) (r : Rule) → Asserting k → (a : Assertion) → r ≡ Asserts a → ((t : Doc) → holds a t ≡ asserts k v t) → AsksNoSchema k v r
asserts_alone keywords.MinContains v r is a e h = absurd (is.not_min_contains refl)
asserts_alone keywords.If v r is a e h = absurd (is.not_if refl)
asserts_alone keywords.Defs v r is a e h = absurd (is.not_defs refl)
asserts_alone keywords.Anchor v r is a e h = absurd (is.not_anchor refl)
asserts_alone keywords.Id v r is a e h = absurd (is.not_id refl)
asserts_alone keywords.Dialect v r is a e h = absurd (is.not_dialect refl)
asserts_alone keywords.LeftOut v r is a e h = absurd (is.not_left_out refl)
asserts_alone keywords.Unknown v r is a e h = absurd (is.not_unknown refl)
asserts_alone _ v r is a e h = (a, e, h)

-- ---- a member's rule

abbrev is_plain : Keyword → Bool
is_plain keywords.Pattern = false
is_plain keywords.Properties = false
is_plain keywords.PatternProperties = false
is_plain keywords.AdditionalProperties = false
is_plain keywords.PropertyNames = false
is_plain keywords.PrefixItems = false
is_plain keywords.Items = false
is_plain keywords.Contains = false
is_plain keywords.MaxContains = false
is_plain keywords.AllOf = false
is_plain keywords.AnyOf = false
is_plain keywords.OneOf = false
is_plain keywords.Not = false
is_plain keywords.Then = false
is_plain keywords.Else = false
is_plain keywords.DependentSchemas = false
is_plain keywords.Ref = false
is_plain _ = true

plain : (k : Keyword) → is_plain k ≡ true → AsksNone k
plain k h = record {
  not_pattern = λ e. (let b : false ≡ true = sym (ap is_plain e) ∙ h in absurd cc);
  not_properties = λ e. (let b : false ≡ true = sym (ap is_plain e) ∙ h in absurd cc);
  not_pattern_properties = λ e. (let b : false ≡ true = sym (ap is_plain e) ∙ h in absurd cc);
  not_additional_properties = λ e. (let b : false ≡ true = sym (ap is_plain e) ∙ h in absurd cc);
  not_property_names = λ e. (let b : false ≡ true = sym (ap is_plain e) ∙ h in absurd cc);
  not_prefix_items = λ e. (let b : false ≡ true = sym (ap is_plain e) ∙ h in absurd cc);
  not_items = λ e. (let b : false ≡ true = sym (ap is_plain e) ∙ h in absurd cc);
  not_contains = λ e. (let b : false ≡ true = sym (ap is_plain e) ∙ h in absurd cc);
  not_max_contains = λ e. (let b : false ≡ true = sym (ap is_plain e) ∙ h in absurd cc);
  not_all_of = λ e. (let b : false ≡ true = sym (ap is_plain e) ∙ h in absurd cc);
  not_any_of = λ e. (let b : false ≡ true = sym (ap is_plain e) ∙ h in absurd cc);
  not_one_of = λ e. (let b : false ≡ true = sym (ap is_plain e) ∙ h in absurd cc);
  not_not = λ e. (let b : false ≡ true = sym (ap is_plain e) ∙ h in absurd cc);
  not_then = λ e. (let b : false ≡ true = sym (ap is_plain e) ∙ h in absurd cc);
  not_else = λ e. (let b : false ≡ true = sym (ap is_plain e) ∙ h in absurd cc);
  not_dependent_schemas = λ e. (let b : false ≡ true = sym (ap is_plain e) ∙ h in absurd cc);
  not_ref = λ e. (let b : false ≡ true = sym (ap is_plain e) ∙ h in absurd cc);
}

map_append : {A B : Type 0} (f : A → B) (xs ys : List A) → map f (xs ++ ys) ≡ map f xs ++ map f ys
map_append f [] ys = refl
map_append f (x ∷ xs) ys = ap (λ l. f x ∷ l) (map_append f xs ys)

module _ (schema : ℕ → Doc) (ranks : List ℕ) (root : Doc) (ts : Targets) (targets : AreTargets (λ c. schema (at ranks c)) root ts) (ms : Members) (near : Around) (chosen : Finds schema near.condition (get_member (codes "if") ms))
    (contained : Finds schema near.contained (get_member (codes "contains") ms)) (least : get_member (codes "minContains") ms ≡ near.least) (patterned : get_member (codes "patternProperties") ms ≡ near.patterned) where
  pub fits_is : (k : Keyword) (v : Doc) (row : List ℕ) (r : Rule) → map schema row ≡ held_in (shape_of k) v → (k ≡ keywords.Properties → beside (codes "properties") ms ≡ v) × (k ≡ keywords.PatternProperties → ⊥) → HaveNumbers (patterns_of ts) (texts_of k v) → Fits ts ranks root near k v row r → IsRule schema root ms k v r
  fits_is keywords.Properties v row r e p known h = subst (IsRule schema root ms keywords.Properties v) (sym h) (is_properties schema root ms v (p.0 refl))
  fits_is keywords.PatternProperties v row r e p known h = absurd (p.1 refl)
  fits_is keywords.AdditionalProperties v row r e p known h = subst (IsRule schema root ms keywords.AdditionalProperties v) (sym h.1)
      (is_others schema root ms v h.0 (first_of row) (h.2.are_texts ∙ sym (ap (λ o. names_list (members_in (or_null o))) patterned)) (first_is schema row v e))
  fits_is keywords.PropertyNames v row r e p known h = subst (IsRule schema root ms keywords.PropertyNames v) (sym h) (is_names schema root ms v (first_of row) (first_is schema row v e))
  fits_is keywords.Items v row r e p known h = subst (IsRule schema root ms keywords.Items v) (sym h) (is_rest schema root ms v (first_of row) (first_is schema row v e))
  fits_is keywords.Not v row r e p known h = subst (IsRule schema root ms keywords.Not v) (sym h) (is_not schema root ms v (first_of row) (first_is schema row v e))
  fits_is keywords.PrefixItems v row r e p known h = subst (IsRule schema root ms keywords.PrefixItems v) (sym h.1) (is_by_place schema root ms v h.0 (ap (map schema) h.2 ∙ e))
  fits_is keywords.AllOf v row r e p known h = subst (IsRule schema root ms keywords.AllOf v) (sym h.1) (is_all schema root ms v h.0 (ap (map schema) h.2 ∙ e))
  fits_is keywords.AnyOf v row r e p known h = subst (IsRule schema root ms keywords.AnyOf v) (sym h.1) (is_any schema root ms v h.0 (ap (map schema) h.2 ∙ e))
  fits_is keywords.OneOf v row r e p known h = subst (IsRule schema root ms keywords.OneOf v) (sym h.1) (is_one schema root ms v h.0 (ap (map schema) h.2 ∙ e))
  fits_is keywords.Then v row r e p known h = then_rule schema root ms v row near.condition r chosen (first_is schema row v e) h
  fits_is keywords.Else v row r e p known h = else_rule schema root ms v row near.condition r chosen (first_is schema row v e) h
  fits_is keywords.DependentSchemas v row r e p known h = subst (IsRule schema root ms keywords.DependentSchemas v) (sym h.2) (is_dependent schema root ms v h.0 h.1 h.3 (ap (map schema) h.4 ∙ e))
  fits_is keywords.Ref v row r e p known h = is_reference_rule schema root ms v (option_map (at ranks) (target_number ts root v)) r (fuse schema ranks (target_number ts root v) ∙ finds (λ c. schema (at ranks c)) root ts targets v) h
  fits_is keywords.OfType v row r e p known h = subst (IsRule schema root ms keywords.OfType v) (sym h.1) (is_assertion schema root ms v keywords.OfType h.0 (plain keywords.OfType refl) h.2)
  fits_is keywords.Enumeration v row r e p known h = subst (IsRule schema root ms keywords.Enumeration v) (sym h.1) (is_assertion schema root ms v keywords.Enumeration h.0 (plain keywords.Enumeration refl) h.2)
  fits_is keywords.Constant v row r e p known h = subst (IsRule schema root ms keywords.Constant v) (sym h.1) (is_assertion schema root ms v keywords.Constant h.0 (plain keywords.Constant refl) h.2)
  fits_is keywords.MultipleOf v row r e p known h = subst (IsRule schema root ms keywords.MultipleOf v) (sym h.1) (is_assertion schema root ms v keywords.MultipleOf h.0 (plain keywords.MultipleOf refl) h.2)
  fits_is keywords.Minimum v row r e p known h = subst (IsRule schema root ms keywords.Minimum v) (sym h.1) (is_assertion schema root ms v keywords.Minimum h.0 (plain keywords.Minimum refl) h.2)
  fits_is keywords.Maximum v row r e p known h = subst (IsRule schema root ms keywords.Maximum v) (sym h.1) (is_assertion schema root ms v keywords.Maximum h.0 (plain keywords.Maximum refl) h.2)
  fits_is keywords.ExclusiveMinimum v row r e p known h = subst (IsRule schema root ms keywords.ExclusiveMinimum v) (sym h.1) (is_assertion schema root ms v keywords.ExclusiveMinimum h.0 (plain keywords.ExclusiveMinimum refl) h.2)
  fits_is keywords.ExclusiveMaximum v row r e p known h = subst (IsRule schema root ms keywords.ExclusiveMaximum v) (sym h.1) (is_assertion schema root ms v keywords.ExclusiveMaximum h.0 (plain keywords.ExclusiveMaximum refl) h.2)
  fits_is keywords.MinLength v row r e p known h = subst (IsRule schema root ms keywords.MinLength v) (sym h.1) (is_assertion schema root ms v keywords.MinLength h.0 (plain keywords.MinLength refl) h.2)
  fits_is keywords.MaxLength v row r e p known h = subst (IsRule schema root ms keywords.MaxLength v) (sym h.1) (is_assertion schema root ms v keywords.MaxLength h.0 (plain keywords.MaxLength refl) h.2)
  fits_is keywords.MinItems v row r e p known h = subst (IsRule schema root ms keywords.MinItems v) (sym h.1) (is_assertion schema root ms v keywords.MinItems h.0 (plain keywords.MinItems refl) h.2)
  fits_is keywords.MaxItems v row r e p known h = subst (IsRule schema root ms keywords.MaxItems v) (sym h.1) (is_assertion schema root ms v keywords.MaxItems h.0 (plain keywords.MaxItems refl) h.2)
  fits_is keywords.UniqueItems v row r e p known h = subst (IsRule schema root ms keywords.UniqueItems v) (sym h.1) (is_assertion schema root ms v keywords.UniqueItems h.0 (plain keywords.UniqueItems refl) h.2)
  fits_is keywords.MinProperties v row r e p known h = subst (IsRule schema root ms keywords.MinProperties v) (sym h.1) (is_assertion schema root ms v keywords.MinProperties h.0 (plain keywords.MinProperties refl) h.2)
  fits_is keywords.MaxProperties v row r e p known h = subst (IsRule schema root ms keywords.MaxProperties v) (sym h.1) (is_assertion schema root ms v keywords.MaxProperties h.0 (plain keywords.MaxProperties refl) h.2)
  fits_is keywords.Required v row r e p known h = subst (IsRule schema root ms keywords.Required v) (sym h.1) (is_assertion schema root ms v keywords.Required h.0 (plain keywords.Required refl) h.2)
  fits_is keywords.DependentRequired v row r e p known h = subst (IsRule schema root ms keywords.DependentRequired v) (sym h.1) (is_assertion schema root ms v keywords.DependentRequired h.0 (plain keywords.DependentRequired refl) h.2)
  fits_is keywords.Pattern v row r e p known h = match_rule schema root ms v (pattern_number (patterns_of ts) v) r (unnumbered (patterns_of ts) v known) h
  fits_is keywords.Contains v row r e p known h = count_rule schema root ms v row near.least r least (first_is schema row v e) h
  fits_is keywords.MaxContains v row r e p known h = limit_rule schema root ms v near.contained r contained h
  fits_is keywords.MinContains v row r e p known h = subst (IsRule schema root ms keywords.MinContains v) (sym h) (is_nothing schema root ms v keywords.MinContains (plain keywords.MinContains refl) (λ t. refl))
  fits_is keywords.If v row r e p known h = subst (IsRule schema root ms keywords.If v) (sym h) (is_nothing schema root ms v keywords.If (plain keywords.If refl) (λ t. refl))
  fits_is keywords.Defs v row r e p known h = subst (IsRule schema root ms keywords.Defs v) (sym h) (is_nothing schema root ms v keywords.Defs (plain keywords.Defs refl) (λ t. refl))
  fits_is keywords.Anchor v row r e p known h = subst (IsRule schema root ms keywords.Anchor v) (sym h) (is_nothing schema root ms v keywords.Anchor (plain keywords.Anchor refl) (λ t. refl))
  fits_is keywords.Id v row r e p known h = subst (IsRule schema root ms keywords.Id v) (sym h) (is_nothing schema root ms v keywords.Id (plain keywords.Id refl) (λ t. refl))
  fits_is keywords.Dialect v row r e p known h = subst (IsRule schema root ms keywords.Dialect v) (sym h) (is_nothing schema root ms v keywords.Dialect (plain keywords.Dialect refl) (λ t. refl))
  fits_is keywords.LeftOut v row r e p known h = subst (IsRule schema root ms keywords.LeftOut v) (sym h) (is_nothing schema root ms v keywords.LeftOut (plain keywords.LeftOut refl) (λ t. refl))
  fits_is keywords.Unknown v row r e p known h = subst (IsRule schema root ms keywords.Unknown v) (sym h) (is_nothing schema root ms v keywords.Unknown (plain keywords.Unknown refl) (λ t. refl))

  -- of one member, in a node that suits
  fit_all : (x : Node) → Suits schema ms x → (k : Keyword) (v : Doc) (row : List ℕ) (mine : List Rule) → map schema row ≡ held_in (shape_of k) v → (k ≡ keywords.Properties → beside (codes "properties") ms ≡ v) → HaveNumbers (patterns_of ts) (texts_of k v) → FitAll ts ranks root near k v row mine
      → SayAs root schema ms k v (map (rule_of x) mine)
  fit_all x suits k v row mine e p known (inl h) =
      let held : map schema row ≡ values_list (members_in v) = e ∙ ap (λ w. held_in (shape_of w) v) h.0 in
      subst (λ w. SayAs root schema ms w v (map (rule_of x) mine)) (sym h.0) (say_patterns schema x root ms (patterns_of ts) v row mine h.1 held)
  fit_all x suits k v row mine e p known (inr h) =
      let one = fits_is k v row h.1 e (p, h.0) known h.3 x suits in
      subst (λ l. SayAs root schema ms k v (map (rule_of x) l)) (sym h.2) (say_one root schema ms k v (rule_of x h.1) one.0 one.1)

  -- of all members
  pub rules_are : (x : Node) → Suits schema ms x → (left : Members) (rows : List (Vec ℕ Global)) (rules : List Rule) → HaveRows schema left rows → ((k : List ℕ) (v : Doc) → get_member k left ≡ Some v → get_member k ms ≡ Some v) → AreSorted left
      → HaveNumbers (patterns_of ts) (texts_by Three left) → AreFitting ts ranks root near left rows rules → AreRulesFor root schema ms (map (rule_of x) rules) left
  rules_are x suits no_members [] rules h found order known fits = ap (map (rule_of x)) fits
  rules_are x suits (member k v left) (row ∷ rows) rules h found order known fits = (
    map (rule_of x) fits.0,
    map (rule_of x) fits.1,
    ap (map (rule_of x)) fits.2 ∙ map_append (rule_of x) fits.0 fits.1,
    fit_all x suits (keyword_of k) v row.items fits.0 h.0 (λ e. beside_is (found k v (get_member-first k v left)) (properties_name k e)) (λ s i. known s (In-left s _ _ i)) fits.3,
    rules_are x suits left rows fits.1 h.1 (λ l w g. found l w (get_later l k w v left order.0 g)) order.1 (λ s i. known s (In-right s (texts_of (keyword_of k) v) _ i)) fits.4,
  )
    where
      beside_is : get_member k ms ≡ Some v → k ≡ codes "properties" → beside (codes "properties") ms ≡ v
      beside_is e same = ap (λ n. beside n ms) (sym same) ∙ ap or_null e
  rules_are x suits no_members (row ∷ rows) rules h found order known fits = absurd h
  rules_are x suits (member k v left) [] rules h found order known fits = absurd h

-- ---- a node that is built

module _ (schema : ℕ → Doc) (ranks : List ℕ) (root : Doc) (ts : Targets) (targets : AreTargets (λ c. schema (at ranks c)) root ts) where
  pub built_node : (d : Doc) (rows : List (Vec ℕ Global)) (x : Node) → HaveRows schema (members_in d) rows → HaveNumbers (patterns_of ts) (texts_by Three (members_in d)) → IsBuilt ts ranks root rows x d → IsNodeFor root schema x d
  built_node (object ms) rows x have known b =
      let suits : Suits schema ms x = record { named = b.named schema have; prefix = b.prefix } in
      rules_are schema ranks root ts targets ms (around ms rows) (single_is schema (codes "if") ms rows if_held have) (single_is schema (codes "contains") ms rows contains_held have) refl refl x suits ms rows x.rules.items have (λ k v g. g) b.sorted known b.fits
  built_node (boolean b) rows x have known h = h
  built_node null rows x have known h = h
  built_node (int z) rows x have known h = h
  built_node (text s) rows x have known h = h
  built_node (list ds) rows x have known h = h
