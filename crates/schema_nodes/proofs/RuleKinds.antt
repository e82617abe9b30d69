-- Each kind of rule asks and joins as its keyword does.
use Rattle.std.proofs.Common.{◌≡◌, ℕ, zero, suc, ◌+◌, ◌-◌, ◌<◌, ◌≤◌, List, [], ◌∷◌, ◌++◌, map, length, Bool, true, false, ◌||◌, is_some, Option, Some, None, option_map, refl, sym, ap, ap₂, subst, ◌∙◌, arith, if◌then◌else◌, codes, append-nil, slice_get, String, Vec, Global, string_bytes}
use Rattle.std.specs.Prelude.{nat_lt}
use Rattle.doc_tree.specs.Doc.{Doc, null, boolean, int, text, list, object, Elements, no_elements, element, Members, no_members, member, get_member}
use Rattle.schema_levels.specs.PlaceInValue.{name, index, member_name}
use Rattle.doc_tree.specs.Lists.{elements_list, names_list, values_list}
use Rattle.doc_tree.specs.TreeView.{view}
use Rattle.doc_tree.specs.declared.tree.Tree.{Tree}
use Rattle.schema_rules.specs.Holds.{holds}
use Rattle.schema_rules.specs.Assertions.{asserts}
use Rattle.schema_rules.specs.Patterns.{fits}
use Rattle.schema_rules.specs.Parts.{elements_in, members_in, beside, after}
use Rattle.schema_rules.specs.References.{target}
use Rattle.schema_rules.specs.Rules.{Ask, ask, at_each, by_each, of_each, by_place, by_name, each_named, of_names, of_others, if_named, at_target, after_if, with_if, where_true, where_false, where_present}
use Rattle.schema_rules.specs.declared.assertion.Assertion.{Assertion}
use Rattle.schema_rules.specs.declared.keyword.Keyword.{Keyword}
use Rattle.schema_rules.specs.declared.keyword.Keyword.TheVariants.{Pattern, Properties as properties, AdditionalProperties, PropertyNames, PrefixItems, Items, AllOf, AnyOf, OneOf, Not as negates, Then as then_keyword, Else as else_keyword, DependentSchemas, Ref}
use Rattle.schema_rules.proofs.Others.{AsksNone, asks-none, joins-none}
use Rattle.schema_nodes.specs.Rules.{schemas_asked}
use Rattle.schema_levels.specs.Below.{below, number_named, unless}
use Rattle.schema_levels.specs.NamePatterns.{texts_of}
use Rattle.schema_levels.specs.declared.node.NamePattern.{NamePattern}
use Rattle.schema_pattern.specs.Tables.{some_found}
use Rattle.schema_levels.specs.Closure.{here}
use Rattle.schema_levels.specs.Table.{Child, children, items_from, members_each, titles, ask_children, ask_found, ask_here, rule_of}
use Rattle.schema_levels.specs.declared.node.Node.{Node}
use Rattle.schema_levels.specs.declared.node.Rule.{Rule}
use Rattle.schema_levels.specs.declared.node.Rule.TheVariants.{Says, Asserts, Matches, All, Any, One, Not, Then, Else, Dependent, Refers, Properties, Others, Names, ByPlace, Rest}
use Rattle.schema_rules.specs.Keywords.{keyword_of, shape_of}
use Rattle.schema_graph.specs.Orders.{at}
use Rattle.schema_graph.specs.Walks.{In}
use Rattle.schema_rules.specs.Schemas.{held_in, schemas}
use Rattle.std.specs.Option.{option_and_then}
use Rattle.schema_nodes.specs.declared.entries.Entry.{Entry}
use Rattle.schema_nodes.specs.Entries.{doc_at, StandFor, AreRows, EachEntry, AreEntries, AsMany, HasRows}
use Rattle.schema_nodes.specs.Nodes.{IsRule, AreNamed, HaveRows, Moved, AreMoved, or_else}

-- ---- at the value itself

pub asked_append : (schema : ℕ → Doc) (xs ys : List (ℕ × Doc)) → schemas_asked schema (xs ++ ys) ≡ schemas_asked schema xs ++ schemas_asked schema ys
asked_append schema [] ys = refl
asked_append schema (x ∷ xs) ys = ap (λ l. ask (schema x.0) x.1 ∷ l) (asked_append schema xs ys)

pub at_each_join : (schema : ℕ → Doc) (row : List ℕ) (ss : Elements) (t : Doc) → map schema row ≡ elements_list ss → schemas_asked schema (ask_here row t) ≡ at_each ss t
at_each_join schema [] no_elements t e = refl
at_each_join schema (j ∷ row) (element s ss) t e =
    let h : schema j ≡ s = cc in
    let r : map schema row ≡ elements_list ss = cc in
    ap₂ (λ d l. ask d t ∷ l) h (at_each_join schema row ss t r)
at_each_join schema [] (element s ss) t e = absurd cc
at_each_join schema (j ∷ row) no_elements t e = absurd cc

by_each_join : (schema : ℕ → Doc) (row : List ℕ) (ss : Members) (t : Doc) → map schema row ≡ values_list ss → schemas_asked schema (ask_here row t) ≡ by_each ss t
by_each_join schema [] no_members t e = refl
by_each_join schema (j ∷ row) (member k s ss) t e =
    let h : schema j ≡ s = cc in
    let r : map schema row ≡ values_list ss = cc in
    ap₂ (λ d l. ask d t ∷ l) h (by_each_join schema row ss t r)
by_each_join schema [] (member k s ss) t e = absurd cc
by_each_join schema (j ∷ row) no_members t e = absurd cc

-- ---- at children: nothing is asked of elements, or of members

pub no_items : (x : Node) (r : Rule) → ((n : ℕ) → below x r (index n) ≡ None) → (n : ℕ) (ts : Elements) → ask_children x r (items_from n ts) ≡ []
no_items x r h n no_elements = refl
no_items x r h n (element t ts) = rw (h n) (no_items x r h (suc n) ts)

pub no_named : (x : Node) (r : Rule) → ((k : List ℕ) → below x r (name k) ≡ None) → (ts : Members) → ask_children x r (members_each ts) ≡ []
no_named x r h no_members = refl
no_named x r h (member k t ts) = rw (h k) (no_named x r h ts)

found_append : (o : Option ℕ) (d : Doc) (xs ys : List (ℕ × Doc)) → ask_found o d (xs ++ ys) ≡ ask_found o d xs ++ ys
found_append None d xs ys = refl
found_append (Some j) d xs ys = refl

children_append : (x : Node) (r : Rule) (cs ds : List Child) → ask_children x r (cs ++ ds) ≡ ask_children x r cs ++ ask_children x r ds
children_append x r [] ds = refl
children_append x r (c ∷ cs) ds = ap (ask_found (below x r c.place) c.value) (children_append x r cs ds) ∙ found_append (below x r c.place) c.value (ask_children x r cs) (ask_children x r ds)

no_titles : (x : Node) (r : Rule) → below x r member_name ≡ None → (ts : Members) → ask_children x r (titles ts) ≡ []
no_titles x r h no_members = refl
no_titles x r h (member k t ts) = rw h (no_titles x r h ts)

-- of members alone, not of their names
pub of_members : (x : Node) (r : Rule) → below x r member_name ≡ None → (ts : Members) → ask_children x r (members_each ts ++ titles ts) ≡ ask_children x r (members_each ts)
of_members x r h ts = children_append x r (members_each ts) (titles ts) ∙ ap (λ l. ask_children x r (members_each ts) ++ l) (no_titles x r h ts) ∙ append-nil (ask_children x r (members_each ts))

-- of their names alone
of_titles : (x : Node) (r : Rule) → ((k : List ℕ) → below x r (name k) ≡ None) → (ts : Members) → ask_children x r (members_each ts ++ titles ts) ≡ ask_children x r (titles ts)
of_titles x r h ts = children_append x r (members_each ts) (titles ts) ∙ ap (λ l. l ++ ask_children x r (titles ts)) (no_named x r h ts)

no_children : (x : Node) (r : Rule) → ((n : ℕ) → below x r (index n) ≡ None) → ((k : List ℕ) → below x r (name k) ≡ None) → below x r member_name ≡ None → (t : Doc) → ask_children x r (children t) ≡ []
no_children x r f g h null = refl
no_children x r f g h (boolean b) = refl
no_children x r f g h (int z) = refl
no_children x r f g h (text s) = refl
no_children x r f g h (list ts) = no_items x r f 0 ts
no_children x r f g h (object ts) = of_members x r h ts ∙ no_named x r g ts

-- what a rule that asks no child asks
pub in_place : (schema : ℕ → Doc) (x : Node) (r : Rule) (t : Doc) (asked : List Ask) → ((n : ℕ) → below x r (index n) ≡ None) → ((k : List ℕ) → below x r (name k) ≡ None) → below x r member_name ≡ None → schemas_asked schema (ask_here (here r) t) ≡ asked
    → schemas_asked schema ((rule_of x r).asked t) ≡ asked
in_place schema x r t asked f g n h = ap (λ l. schemas_asked schema (ask_here (here r) t ++ l)) (no_children x r f g n t) ∙ ap (schemas_asked schema) (append-nil (ask_here (here r) t)) ∙ h

module _ (schema : ℕ → Doc) (root : Doc) (ms : Members) (v : Doc) where
  pub is_all : (row : Vec ℕ Global) → map schema row.items ≡ elements_list (elements_in v) → IsRule schema root ms AllOf v (All row)
  is_all row e x suits = (λ t. in_place schema x (All row) t _ (λ n. refl) (λ k. refl) refl (at_each_join schema row.items (elements_in v) t e), λ t bs. refl)

  pub is_any : (row : Vec ℕ Global) → map schema row.items ≡ elements_list (elements_in v) → IsRule schema root ms AnyOf v (Any row)
  is_any row e x suits = (λ t. in_place schema x (Any row) t _ (λ n. refl) (λ k. refl) refl (at_each_join schema row.items (elements_in v) t e), λ t bs. refl)

  pub is_one : (row : Vec ℕ Global) → map schema row.items ≡ elements_list (elements_in v) → IsRule schema root ms OneOf v (One row)
  is_one row e x suits = (λ t. in_place schema x (One row) t _ (λ n. refl) (λ k. refl) refl (at_each_join schema row.items (elements_in v) t e), λ t bs. refl)

  pub is_dependent : (names : Vec (String Global) Global) (row : Vec ℕ Global) → map string_bytes names.items ≡ names_list (members_in v) → map schema row.items ≡ values_list (members_in v) → IsRule schema root ms DependentSchemas v (Dependent names row)
  is_dependent names row n e x suits = (
    λ t. in_place schema x (Dependent names row) t _ (λ n. refl) (λ k. refl) refl (by_each_join schema row.items (members_in v) t e),
    λ t bs. ap (λ l. where_present l t bs) n,
  )

  pub is_not : (j : ℕ) → schema j ≡ v → IsRule schema root ms negates v (Not j)
  is_not j e x suits = (λ t. in_place schema x (Not j) t _ (λ n. refl) (λ k. refl) refl (ap (λ d. ask d t ∷ []) e), λ t bs. refl)

  -- with `if` beside, and without
  pub is_then : (c j : ℕ) → get_member (codes "if") ms ≡ Some (schema c) → schema j ≡ v → IsRule schema root ms then_keyword v (Then c j)
  is_then c j f e x suits = (
    λ t. in_place schema x (Then c j) t _ (λ n. refl) (λ k. refl) refl (ap (λ d. ask (schema c) t ∷ ask d t ∷ []) e ∙ sym (ap (λ o. after_if o v t) f)),
    λ t bs. sym (ap (λ o. with_if o (where_true bs)) f),
  )

  pub is_no_then : get_member (codes "if") ms ≡ None → IsRule schema root ms then_keyword v (Says true)
  is_no_then f x suits = (λ t. in_place schema x (Says true) t _ (λ n. refl) (λ k. refl) refl (sym (ap (λ o. after_if o v t) f)), λ t bs. sym (ap (λ o. with_if o (where_true bs)) f))

  pub is_else : (c j : ℕ) → get_member (codes "if") ms ≡ Some (schema c) → schema j ≡ v → IsRule schema root ms else_keyword v (Else c j)
  is_else c j f e x suits = (
    λ t. in_place schema x (Else c j) t _ (λ n. refl) (λ k. refl) refl (ap (λ d. ask (schema c) t ∷ ask d t ∷ []) e ∙ sym (ap (λ o. after_if o v t) f)),
    λ t bs. sym (ap (λ o. with_if o (where_false bs)) f),
  )

  pub is_no_else : get_member (codes "if") ms ≡ None → IsRule schema root ms else_keyword v (Says true)
  is_no_else f x suits = (λ t. in_place schema x (Says true) t _ (λ n. refl) (λ k. refl) refl (sym (ap (λ o. after_if o v t) f)), λ t bs. sym (ap (λ o. with_if o (where_false bs)) f))

  pub is_reference : (j : ℕ) → target root v ≡ Some (schema j) → IsRule schema root ms Ref v (Refers j)
  is_reference j e x suits = (λ t. in_place schema x (Refers j) t _ (λ n. refl) (λ k. refl) refl (sym (ap (λ o. at_target o t) e)), λ t bs. refl)

  pub is_no_reference : (row : Vec ℕ Global) → row.items ≡ [] → target root v ≡ None → IsRule schema root ms Ref v (All row)
  is_no_reference row none e x suits = (λ t. in_place schema x (All row) t _ (λ n. refl) (λ k. refl) refl (ap (λ l. schemas_asked schema (ask_here l t)) none ∙ sym (ap (λ o. at_target o t) e)), λ t bs. refl)

  pub is_match : (n : ℕ) (a : Tree) → view a ≡ v → IsRule schema root ms Pattern v (Matches n a)
  is_match n a e x suits = (λ t. in_place schema x (Matches n a) t _ (λ n. refl) (λ k. refl) refl refl, λ t bs. ap (λ d. fits d t) e)

  -- of a value in which nothing is searched for
  pub is_no_match : ((t : Doc) → fits v t ≡ true) → IsRule schema root ms Pattern v (Says true)
  is_no_match passes x suits = (λ t. in_place schema x (Says true) t _ (λ n. refl) (λ k. refl) refl refl, λ t bs. sym (passes t))

  pub is_assertion : (k : Keyword) (a : Assertion) → AsksNone k → ((t : Doc) → holds a t ≡ asserts k v t) → IsRule schema root ms k v (Asserts a)
  is_assertion k a none is x suits = (λ t. in_place schema x (Asserts a) t _ (λ n. refl) (λ k. refl) refl (sym (asks-none k none root ms v t)), λ t bs. is t ∙ sym (joins-none k none ms v t bs))

  -- a keyword that asserts nothing
  pub is_nothing : (k : Keyword) → AsksNone k → ((t : Doc) → asserts k v t ≡ true) → IsRule schema root ms k v (Says true)
  is_nothing k none says x suits = (λ t. in_place schema x (Says true) t _ (λ n. refl) (λ k. refl) refl (sym (asks-none k none root ms v t)), λ t bs. sym (joins-none k none ms v t bs ∙ says t))

-- ---- `properties` and `additionalProperties`

module _ (schema : ℕ → Doc) (x : Node) (ss : Members) (same : AreNamed schema x.named.entries ss) where
  found_join : (o : Option ℕ) (s : Option Doc) (t : Doc) (rest : List (ℕ × Doc)) (asked : List Ask) → option_map schema o ≡ s → schemas_asked schema rest ≡ asked → schemas_asked schema (ask_found o t rest) ≡ if_named s t asked
  found_join None s t rest asked e h = h ∙ ap (λ f. if_named f t asked) e
  found_join (Some j) s t rest asked e h = ap (λ l. ask (schema j) t ∷ l) h ∙ ap (λ f. if_named f t asked) e

  properties_join : (ts : Members) → schemas_asked schema (ask_children x Properties (members_each ts)) ≡ by_name ss ts
  properties_join no_members = refl
  properties_join (member k t ts) = found_join (number_named k x.named.entries) (get_member k ss) t (ask_children x Properties (members_each ts)) (by_name ss ts) (same k) (properties_join ts)

  is_some_map : (o : Option ℕ) → is_some (option_map schema o) ≡ is_some o
  is_some_map None = refl
  is_some_map (Some j) = refl

  other_join : (b : Bool) (j : ℕ) (t : Doc) (rest : List (ℕ × Doc)) (asked : List Ask) → schemas_asked schema rest ≡ asked → schemas_asked schema (ask_found (unless b j) t rest) ≡ (if b then asked else (ask (schema j) t ∷ asked))
  other_join true j t rest asked h = h
  other_join false j t rest asked h = ap (λ l. ask (schema j) t ∷ l) h

  others_join : (ps : Vec NamePattern Global) (j : ℕ) (ts : Members) → schemas_asked schema (ask_children x (Others ps j) (members_each ts)) ≡ of_others ss (texts_of ps.items) (schema j) ts
  others_join ps j no_members = refl
  others_join ps j (member k t ts) =
      let b : is_some (number_named k x.named.entries) ≡ is_some (get_member k ss) = sym (is_some_map (number_named k x.named.entries)) ∙ ap is_some (same k) in
      let found = some_found (texts_of ps.items) k in
      let rest = of_others ss (texts_of ps.items) (schema j) ts in
      other_join (is_some (number_named k x.named.entries) || found) j t (ask_children x (Others ps j) (members_each ts)) rest (others_join ps j ts)
      ∙ ap (λ f. if f || found then rest else (ask (schema j) t ∷ rest)) b

by_name_none : (d : Doc) → each_named d no_members ≡ []
by_name_none null = refl
by_name_none (boolean b) = refl
by_name_none (int z) = refl
by_name_none (text s) = refl
by_name_none (list ds) = refl
by_name_none (object ss) = refl

by_none : (ts : Members) → by_name no_members ts ≡ []
by_none no_members = refl
by_none (member k t ts) = by_none ts

each_is : (d : Doc) (ts : Members) → by_name (members_in d) ts ≡ each_named d ts
each_is null ts = by_none ts
each_is (boolean b) ts = by_none ts
each_is (int z) ts = by_none ts
each_is (text s) ts = by_none ts
each_is (list ds) ts = by_none ts
each_is (object ss) ts = refl

module _ (schema : ℕ → Doc) (root : Doc) (ms : Members) (v : Doc) where
  -- where the value stands at its name
  pub is_properties : beside (codes "properties") ms ≡ v → IsRule schema root ms properties v Properties
  is_properties e x suits = (asked, λ t bs. refl)
    where
      same : AreNamed schema x.named.entries (members_in v)
      same k = suits.named k ∙ ap (λ d. get_member k (members_in d)) e

      asked : (t : Doc) → schemas_asked schema (ask_children x Properties (children t)) ≡ each_named v (members_in t)
      asked null = sym (by_name_none v)
      asked (boolean b) = sym (by_name_none v)
      asked (int z) = sym (by_name_none v)
      asked (text s) = sym (by_name_none v)
      asked (list ts) = ap (schemas_asked schema) (no_items x Properties (λ n. refl) 0 ts) ∙ sym (by_name_none v)
      asked (object ts) = ap (schemas_asked schema) (of_members x Properties refl ts) ∙ properties_join schema x (members_in v) same ts ∙ each_is v ts

  pub is_others : (ps : Vec NamePattern Global) (j : ℕ) → texts_of ps.items ≡ names_list (members_in (beside (codes "patternProperties") ms)) → schema j ≡ v → IsRule schema root ms AdditionalProperties v (Others ps j)
  is_others ps j names e x suits = (λ t. asked t ∙ ap₂ (λ ns d. of_others (members_in (beside (codes "properties") ms)) ns d (members_in t)) names e, λ t bs. refl)
    where
      asked : (t : Doc) → schemas_asked schema (ask_children x (Others ps j) (children t)) ≡ of_others (members_in (beside (codes "properties") ms)) (texts_of ps.items) (schema j) (members_in t)
      asked null = refl
      asked (boolean b) = refl
      asked (int z) = refl
      asked (text s) = refl
      asked (list ts) = ap (schemas_asked schema) (no_items x (Others ps j) (λ n. refl) 0 ts)
      asked (object ts) = ap (schemas_asked schema) (of_members x (Others ps j) refl ts) ∙ others_join schema x (members_in (beside (codes "properties") ms)) suits.named ps j ts

  pub is_names : (j : ℕ) → schema j ≡ v → IsRule schema root ms PropertyNames v (Names j)
  is_names j e x suits = (λ t. asked t ∙ ap (λ d. of_names d (members_in t)) e, λ t bs. refl)
    where
      names_join : (ts : Members) → schemas_asked schema (ask_children x (Names j) (titles ts)) ≡ of_names (schema j) ts
      names_join no_members = refl
      names_join (member k t ts) = ap (λ l. ask (schema j) (text k) ∷ l) (names_join ts)

      asked : (t : Doc) → schemas_asked schema (ask_children x (Names j) (children t)) ≡ of_names (schema j) (members_in t)
      asked null = refl
      asked (boolean b) = refl
      asked (int z) = refl
      asked (text s) = refl
      asked (list ts) = ap (schemas_asked schema) (no_items x (Names j) (λ n. refl) 0 ts)
      asked (object ts) = ap (schemas_asked schema) (of_titles x (Names j) (λ k. refl) ts) ∙ names_join ts

-- ---- `prefixItems`, whose numbers are those of its elements, and `items` after them

module _ (schema : ℕ → Doc) (x : Node) where
  place_none : (v : Vec ℕ Global) (n : ℕ) (ts : Elements) → ((m : ℕ) → slice_get v.items (n + m) ≡ None) → ask_children x (ByPlace v) (items_from n ts) ≡ []
  place_none v n no_elements h = refl
  place_none v n (element t ts) h =
      let z : n + 0 ≡ n = omega arith in
      let found : slice_get v.items n ≡ None = sym (ap (slice_get v.items) z) ∙ h 0 in
      ap (λ o. ask_found o t (ask_children x (ByPlace v) (items_from (suc n) ts))) found
      ∙ place_none v (suc n) ts (λ m. let e : suc n + m ≡ n + suc m = omega arith in ap (slice_get v.items) e ∙ h (suc m))

  place_from : (v : Vec ℕ Global) (js : List ℕ) (n : ℕ) (ss ts : Elements) → ((m : ℕ) → slice_get v.items (n + m) ≡ slice_get js m) → map schema js ≡ elements_list ss
      → schemas_asked schema (ask_children x (ByPlace v) (items_from n ts)) ≡ by_place ss ts
  place_from v [] n no_elements ts h e = ap (schemas_asked schema) (place_none v n ts h)
  place_from v [] n (element s ss) ts h e = absurd cc
  place_from v (j ∷ js) n no_elements ts h e = absurd cc
  place_from v (j ∷ js) n (element s ss) no_elements h e = refl
  place_from v (j ∷ js) n (element s ss) (element t ts) h e =
      let z : n + 0 ≡ n = omega arith in
      let found : slice_get v.items n ≡ Some j = sym (ap (slice_get v.items) z) ∙ h 0 in
      let same : schema j ≡ s = cc in
      let rest : map schema js ≡ elements_list ss = cc in
      ap (λ o. schemas_asked schema (ask_found o t (ask_children x (ByPlace v) (items_from (suc n) ts)))) found
      ∙ ap (λ d. ask d t ∷ schemas_asked schema (ask_children x (ByPlace v) (items_from (suc n) ts))) same
      ∙ ap (λ l. ask s t ∷ l) (place_from v js (suc n) ss ts (λ m. let y : suc n + m ≡ n + suc m = omega arith in ap (slice_get v.items) y ∙ h (suc m)) rest)

  pub places_join : (v : Vec ℕ Global) (ss ts : Elements) → map schema v.items ≡ elements_list ss → schemas_asked schema (ask_children x (ByPlace v) (items_from 0 ts)) ≡ by_place ss ts
  places_join v ss ts e = place_from v v.items 0 ss ts (λ m. let z : 0 + m ≡ m = omega arith in ap (slice_get v.items) z) e

  after_none : (ts : Elements) → after 0 ts ≡ ts
  after_none no_elements = refl
  after_none (element t ts) = refl

  rest_by : (b : Bool) (j n : ℕ) (t : Doc) (ts : Elements) → nat_lt n x.prefix ≡ b → schemas_asked schema (ask_children x (Rest j) (items_from (suc n) ts)) ≡ of_each (schema j) (after (x.prefix - suc n) ts)
      → schemas_asked schema (ask_found (unless b j) t (ask_children x (Rest j) (items_from (suc n) ts))) ≡ of_each (schema j) (after (x.prefix - n) (element t ts))
  rest_by true j n t ts e h =
      let lt : n < x.prefix = grind (arith, e) in
      let z : x.prefix - n ≡ suc (x.prefix - suc n) = omega arith in
      rw z h
  rest_by false j n t ts e h =
      let le : x.prefix ≤ n = grind (arith, e) in
      let z : x.prefix - n ≡ 0 = omega arith in
      let y : x.prefix - suc n ≡ 0 = omega arith in
      rw z (ap (λ l. ask (schema j) t ∷ l) (h ∙ ap (λ k. of_each (schema j) (after k ts)) y ∙ ap (of_each (schema j)) (after_none ts)))

  rest_from : (j n : ℕ) (ts : Elements) → schemas_asked schema (ask_children x (Rest j) (items_from n ts)) ≡ of_each (schema j) (after (x.prefix - n) ts)
  rest_from j n no_elements = refl
  rest_from j n (element t ts) = rest_by (nat_lt n x.prefix) j n t ts refl (rest_from j (suc n) ts)

  pub rest_join : (j : ℕ) (ts : Elements) → schemas_asked schema (ask_children x (Rest j) (items_from 0 ts)) ≡ of_each (schema j) (after x.prefix ts)
  rest_join j ts = let z : x.prefix - 0 ≡ x.prefix = omega arith in rest_from j 0 ts ∙ ap (λ k. of_each (schema j) (after k ts)) z

module _ (schema : ℕ → Doc) (root : Doc) (ms : Members) (v : Doc) where
  by_place_none : (ss : Elements) → by_place ss no_elements ≡ []
  by_place_none no_elements = refl
  by_place_none (element s ss) = refl

  pub is_by_place : (row : Vec ℕ Global) → map schema row.items ≡ elements_list (elements_in v) → IsRule schema root ms PrefixItems v (ByPlace row)
  is_by_place row e x suits = (asked, λ t bs. refl)
    where
      asked : (t : Doc) → schemas_asked schema (ask_children x (ByPlace row) (children t)) ≡ by_place (elements_in v) (elements_in t)
      asked null = sym (by_place_none (elements_in v))
      asked (boolean b) = sym (by_place_none (elements_in v))
      asked (int z) = sym (by_place_none (elements_in v))
      asked (text s) = sym (by_place_none (elements_in v))
      asked (list ts) = places_join schema x row (elements_in v) ts e
      asked (object ts) = ap (schemas_asked schema) (of_members x (ByPlace row) refl ts ∙ no_named x (ByPlace row) (λ k. refl) ts) ∙ sym (by_place_none (elements_in v))

  pub is_rest : (j : ℕ) → schema j ≡ v → IsRule schema root ms Items v (Rest j)
  is_rest j e x suits = (λ t. asked t ∙ ap (λ n. of_each (schema j) (after n (elements_in t))) suits.prefix ∙ ap (λ d. of_each d (after (length (elements_list (elements_in (beside (codes "prefixItems") ms)))) (elements_in t))) e, λ t bs. refl)
    where
      asked : (t : Doc) → schemas_asked schema (ask_children x (Rest j) (children t)) ≡ of_each (schema j) (after x.prefix (elements_in t))
      asked null = refl
      asked (boolean b) = refl
      asked (int z) = refl
      asked (text s) = refl
      asked (list ts) = rest_join schema x j ts
      asked (object ts) = ap (schemas_asked schema) (of_members x (Rest j) refl ts ∙ no_named x (Rest j) (λ k. refl) ts)

-- ---- numbers that were moved

-- the schema of that rank, another one past the last
abbrev pub schema_or : Doc → List ℕ → List Entry → ℕ → Doc
schema_or x places es q = or_else x (option_and_then (doc_at es) (slice_get places q))

-- an entry stands in the order where its rank says
abbrev pub Back : List ℕ → List ℕ → List Entry → Type 0
Back places ranks es = (c : ℕ) (d : Doc) → doc_at es c ≡ Some d → slice_get places (at ranks c) ≡ Some c

module _ (x : Doc) (places ranks : List ℕ) (es : List Entry) (back : Back places ranks es) where
  pub schema_back : (c : ℕ) (d : Doc) → doc_at es c ≡ Some d → schema_or x places es (at ranks c) ≡ d
  schema_back c d h = ap (λ o. or_else x (option_and_then (doc_at es) o)) (back c d h) ∙ ap (or_else x) h

  pub moved_join : (row js : List ℕ) (ds : List Doc) → StandFor (doc_at es) row ds → Moved ranks row js → map (schema_or x places es) js ≡ ds
  moved_join [] [] [] h m = refl
  moved_join (c ∷ row) (j ∷ js) (d ∷ ds) h m = ap₂ (λ y l. y ∷ l) (ap (schema_or x places es) m.0 ∙ schema_back c d h.0) (moved_join row js ds h.1 m.1)
  moved_join [] (j ∷ js) ds h m = absurd m
  moved_join (c ∷ row) [] ds h m = absurd m
  moved_join [] [] (d ∷ ds) h m = absurd h
  moved_join (c ∷ row) (j ∷ js) [] h m = absurd h

  pub moved_rows : (ms : Members) (rows more : List (Vec ℕ Global)) → AreRows (doc_at es) ms rows → AreMoved ranks rows more → HaveRows (schema_or x places es) ms more
  moved_rows no_members [] [] h m = tt
  moved_rows (member k v ms) (row ∷ rows) (js ∷ more) h m = (moved_join row.items js.items (held_in (shape_of (keyword_of k)) v) h.0 m.0, moved_rows ms rows more h.1 m.1)
  moved_rows no_members (row ∷ rows) more h m = absurd h
  moved_rows (member k v ms) [] more h m = absurd h
  moved_rows no_members [] (js ∷ more) h m = absurd m
  moved_rows (member k v ms) (row ∷ rows) [] h m = absurd m

-- numbers that aren't moved
module _ (schema : ℕ → Doc) (es : List Entry) (same : (c : ℕ) (d : Doc) → doc_at es c ≡ Some d → schema c ≡ d) where
  stand_join : (row : List ℕ) (ds : List Doc) → StandFor (doc_at es) row ds → map schema row ≡ ds
  stand_join [] [] h = refl
  stand_join (c ∷ row) (d ∷ ds) h = ap₂ (λ y l. y ∷ l) (same c d h.0) (stand_join row ds h.1)
  stand_join [] (d ∷ ds) h = absurd h
  stand_join (c ∷ row) [] h = absurd h

  pub have_rows : (ms : Members) (rows : List (Vec ℕ Global)) → AreRows (doc_at es) ms rows → HaveRows schema ms rows
  have_rows no_members [] h = tt
  have_rows (member k v ms) (row ∷ rows) h = (stand_join row.items (held_in (shape_of (keyword_of k)) v) h.0, have_rows ms rows h.1)
  have_rows no_members (row ∷ rows) h = absurd h
  have_rows (member k v ms) [] h = absurd h

pub many_rows : (at' : ℕ → Option Doc) (ms : Members) (rows : List (Vec ℕ Global)) → AreRows at' ms rows → AsMany ms rows
many_rows at' no_members [] h = tt
many_rows at' (member k v ms) (row ∷ rows) h = many_rows at' ms rows h.1
many_rows at' no_members (row ∷ rows) h = absurd h
many_rows at' (member k v ms) [] h = absurd h

pub moved_many : (ranks : List ℕ) (ms : Members) (rows more : List (Vec ℕ Global)) → AsMany ms rows → AreMoved ranks rows more → AsMany ms more
moved_many ranks no_members [] [] h m = tt
moved_many ranks (member k v ms) (row ∷ rows) (js ∷ more) h m = moved_many ranks ms rows more h m.1
moved_many ranks no_members (row ∷ rows) more h m = absurd h
moved_many ranks (member k v ms) [] more h m = absurd h
moved_many ranks no_members [] (js ∷ more) h m = absurd m
moved_many ranks (member k v ms) (row ∷ rows) [] h m = absurd m

pub rows_at : (root : Doc) (at' : ℕ → Option Doc) (es : List Entry) (n : ℕ) (e : Entry) → EachEntry root at' es → slice_get es n ≡ Some e → AreRows at' (members_in (view e.schema.now)) e.rows.items
rows_at root at' [] n e h i = absurd cc
rows_at root at' (x ∷ es) zero e h i = let same : x ≡ e = cc in subst (λ y. AreRows at' (members_in (view y.schema.now)) y.rows.items) same h.1
rows_at root at' (x ∷ es) (suc n) e h i = rows_at root at' es n e h.2 i

pub placed_at : (root : Doc) (at' : ℕ → Option Doc) (es : List Entry) (n : ℕ) (e : Entry) → EachEntry root at' es → slice_get es n ≡ Some e → In (view e.schema.now) (schemas root)
placed_at root at' [] n e h i = absurd cc
placed_at root at' (x ∷ es) zero e h i = let same : x ≡ e = cc in subst (λ y. In (view y.schema.now) (schemas root)) same h.0
placed_at root at' (x ∷ es) (suc n) e h i = placed_at root at' es n e h.2 i

pub has_rows : (root : Doc) (es : List Entry) → AreEntries root es → HasRows es
has_rows root es h n e i = many_rows (doc_at es) (members_in (view e.schema.now)) e.rows.items (rows_at root (doc_at es) es n e h i)

pub doc_is : (es : List Entry) (n : ℕ) (e : Entry) → slice_get es n ≡ Some e → doc_at es n ≡ Some (view e.schema.now)
doc_is [] n e i = absurd cc
doc_is (x ∷ es) zero e i = let same : x ≡ e = cc in ap (λ y. Some (view y.schema.now)) same
doc_is (x ∷ es) (suc n) e i = doc_is es n e i

pub entry_at : (es : List Entry) (n : ℕ) (d : Doc) → doc_at es n ≡ Some d → (e : Entry) × (slice_get es n ≡ Some e) × (view e.schema.now ≡ d)
entry_at [] n d h = absurd cc
entry_at (x ∷ es) zero d h = let same : view x.schema.now ≡ d = cc in (x, refl, same)
entry_at (x ∷ es) (suc n) d h = entry_at es n d h

pub within_entries : (es : List Entry) (n : ℕ) (d : Doc) → doc_at es n ≡ Some d → n < length es
within_entries [] n d h = absurd cc
within_entries (x ∷ es) zero d h = omega arith
within_entries (x ∷ es) (suc n) d h = omega (arith, within_entries es n d h)
