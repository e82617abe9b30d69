-- What the rules of nodes ask: at the value itself what the edges tell, and of children ranks below the bound.
use Rattle.std.proofs.Common.{◌≡◌, ℕ, zero, suc, ◌<◌, ◌⊎◌, inl, inr, ⊎_elim, List, [], ◌∷◌, ◌++◌, append_assoc, string_bytes, ◌||◌, length, Bool, true, false, Option, Some, None, option_map, Vec, Global, refl, sym, ap, subst, ◌∙◌, arith, slice_get, is_some}
use Rattle.std.specs.Option.{option_and_then, option_to_list}
use Rattle.std.specs.Prelude.{nat_lt, codes}
use Rattle.doc_tree.specs.Doc.{Doc, null, boolean, int, text, list, object, Members, no_members, member, get_member}
use Rattle.schema_levels.specs.PlaceInValue.{PlaceInValue, name, index, member_name}
use Rattle.doc_tree.specs.TreeView.{view}
use Rattle.schema_graph.specs.Numbered.{row_at}
use Rattle.schema_graph.specs.Orders.{at, IsOrder}
use Rattle.schema_graph.specs.Walks.{In, first, later}
use Rattle.schema_graph.proofs.Among.{In-left, In-right, In-parts, none_in}
use Rattle.schema_rules.specs.Keywords.{keyword_of, shape_of}
use Rattle.schema_rules.specs.Parts.{members_in, beside}
use Rattle.schema_rules.specs.Schemas.{held_in}
use Rattle.schema_rules.specs.declared.keyword.Keyword.{Keyword}
use Rattle.schema_rules.specs.declared.keyword.Keyword.TheVariants as keywords
use Rattle.schema_levels.specs.Below.{below, number_named, unless, where_found}
use Rattle.schema_levels.specs.NamePatterns.{texts_of}
use Rattle.schema_pattern.specs.Patterns.{is_found, pattern_in}
use Rattle.schema_pattern.specs.Tables.{some_found}
use Rattle.schema_levels.specs.Closure.{here}
use Rattle.schema_levels.specs.Nodes.{AreOrdered, asked_here, asked_below}
use Rattle.schema_levels.specs.declared.node.Node.{Node}
use Rattle.schema_levels.specs.declared.node.Rule.{Rule}
use Rattle.schema_levels.specs.declared.node.Rule.TheVariants.{Says, Asserts, Matches, All, Any, One, Then, Else, Dependent, Properties, Matching, Others, Names, ByPlace, Rest, Contains, AtLeast, AtMost}
use Rattle.schema_nodes.specs.declared.entries.Entry.{Entry}
use Rattle.schema_nodes.specs.declared.targets.Targets.{Targets}
use Rattle.schema_nodes.specs.Edges.{edges_at, edges_in, AreEdges}
use Rattle.schema_nodes.specs.Entries.{doc_at, StandFor, AreRows, AreEntries}
use Rattle.schema_nodes.specs.Fits.{pattern_number, patterns_of, target_number, first_of, IsMatch, IsReference, IsChoice, IsCount, IsLimit, Around, Fits, FitAll, AreMatching, around, single_number, AreFitting, IsBuilt, IsBuiltOf, AreMade}
use Rattle.schema_nodes.specs.Nodes.{Moved, AreMoved, or_else}
use Rattle.schema_nodes.proofs.Conditions.{condition_edge, single_rank}
use Rattle.schema_nodes.proofs.Edging.{both, edges_is}
use Rattle.schema_nodes.proofs.Making.{made_at, made_many}
use Rattle.schema_nodes.proofs.RuleKinds.{Back, schema_or, moved_rows, rows_at}

-- ---- the numbers that a rule asks of children

abbrev pub AllBelow : List ℕ → ℕ → Type 0
AllBelow js n = (j : ℕ) → In j js → j < n

abbrev pub children_of : Rule → List ℕ
children_of (Matching p j) = j ∷ []
children_of (Others ps j) = j ∷ []
children_of (Names j) = j ∷ []
children_of (ByPlace v) = v.items
children_of (Rest j) = j ∷ []
children_of (Contains j) = j ∷ []
children_of (AtLeast j v) = j ∷ []
children_of (AtMost j v) = j ∷ []
children_of _ = []

abbrev pub NamedBelow : Node → ℕ → Type 0
NamedBelow x n = (k : List ℕ) (j : ℕ) → number_named k x.named.entries ≡ Some j → j < n

got : (js : List ℕ) (i j : ℕ) → slice_get js i ≡ Some j → In j js
got [] i j e = absurd cc
got (k ∷ js) zero j e = let same : k ≡ j = cc in subst (λ x. In j (x ∷ js)) (sym same) first
got (k ∷ js) (suc i) j e = later (got js i j e)

from_unless : (b : Bool) (j k n : ℕ) → unless b j ≡ Some k → j < n → k < n
from_unless true j k n e lt = absurd cc
from_unless false j k n e lt = let same : j ≡ k = cc in omega (arith, same, lt)

from_found : (b : Bool) (j k n : ℕ) → where_found b j ≡ Some k → j < n → k < n
from_found true j k n e lt = let same : j ≡ k = cc in omega (arith, same, lt)
from_found false j k n e lt = absurd cc

below_is : (x : Node) (r : Rule) (p : PlaceInValue) (j n : ℕ) → below x r p ≡ Some j → AllBelow (children_of r) n → NamedBelow x n → j < n
below_is x Properties (name k) j n e h named = named k j e
below_is x (Matching q i) (name k) j n e h named = from_found (is_found (pattern_in (string_bytes q.text)) k) i j n e (h i first)
below_is x (Others qs i) (name k) j n e h named = from_unless (is_some (number_named k x.named.entries) || some_found (texts_of qs.items) k) i j n e (h i first)
below_is x (Names i) member_name j n e h named = let same : i ≡ j = cc in h j (subst (λ y. In j (y ∷ [])) (sym same) first)
below_is x (ByPlace v) (index m) j n e h named = h j (got v.items m j e)
below_is x (Rest i) (index m) j n e h named = from_unless (nat_lt m x.prefix) i j n e (h i first)
below_is x (Contains i) (index m) j n e h named = let same : i ≡ j = cc in h j (subst (λ y. In j (y ∷ [])) (sym same) first)
below_is x (AtLeast i v) (index m) j n e h named = let same : i ≡ j = cc in h j (subst (λ y. In j (y ∷ [])) (sym same) first)
below_is x (AtMost i v) (index m) j n e h named = let same : i ≡ j = cc in h j (subst (λ y. In j (y ∷ [])) (sym same) first)
below_is x _ _ j n e h named = absurd cc

only : (o : Option ℕ) (j : ℕ) → In j (option_to_list o) → o ≡ Some j
only None j i = none_in j i
only (Some k) _ first = refl
only (Some k) j (later i) = none_in j i

-- ---- one rule

-- it is the rank of one of these numbers
abbrev pub RankIn : List ℕ → List ℕ → ℕ → Type 0
RankIn ranks edges j = (c : ℕ) × In c edges × (at ranks c ≡ j)

-- what it asks of the value itself are ranks of these numbers, or what `if` beside it asks, and all that it asks is below the bound
pub record OfRule (ranks : List ℕ) (condition : Option ℕ) (n : ℕ) (edges : List ℕ) (r : Rule) : Type 0 where
  pub at_itself : (j : ℕ) → In j (here r) → RankIn ranks edges j ⊎ (condition ≡ Some j)
  pub at_children : AllBelow (children_of r) n

-- the same of several
pub record OfRules (ranks : List ℕ) (condition : Option ℕ) (n : ℕ) (edges : List ℕ) (rs : List Rule) : Type 0 where
  pub at_itself : (j : ℕ) → In j (asked_here rs) → RankIn ranks edges j ⊎ (condition ≡ Some j)
  pub at_children : (r : Rule) → In r rs → AllBelow (children_of r) n

one_of : {ranks : List ℕ} {condition : Option ℕ} {n : ℕ} (edges : List ℕ) (r : Rule) → OfRule ranks condition n edges r → OfRules ranks condition n edges (r ∷ [])
one_of {n = n} edges r h = record {
  at_itself = λ j i. ⊎_elim (λ a. h.at_itself j a) (λ b. none_in j b) (In-parts j (here r) [] i);
  at_children = λ q i. only_one q i;
}
  where
    only_one : (q : Rule) → In q (r ∷ []) → AllBelow (children_of q) n
    only_one _ first = h.at_children
    only_one q (later l) = none_in q l

none_of : {ranks : List ℕ} {condition : Option ℕ} {n : ℕ} {edges : List ℕ} → OfRules ranks condition n edges []
none_of = record { at_itself = λ j i. none_in j i; at_children = λ q i. none_in q i }

here_append : (xs ys : List Rule) → asked_here (xs ++ ys) ≡ asked_here xs ++ asked_here ys
here_append [] ys = refl
here_append (r ∷ xs) ys = ap (λ l. here r ++ l) (here_append xs ys) ∙ sym (append_assoc (here r) (asked_here xs) (asked_here ys))

below_append : (x : Node) (p : PlaceInValue) (xs ys : List Rule) → asked_below x p (xs ++ ys) ≡ asked_below x p xs ++ asked_below x p ys
below_append x p [] ys = refl
below_append x p (r ∷ xs) ys = ap (λ l. option_to_list (below x r p) ++ l) (below_append x p xs ys) ∙ sym (append_assoc (option_to_list (below x r p)) (asked_below x p xs) (asked_below x p ys))

rules_below : {n : ℕ} (x : Node) → NamedBelow x n → (p : PlaceInValue) (rs : List Rule) → ((r : Rule) → In r rs → AllBelow (children_of r) n) → (j : ℕ) → In j (asked_below x p rs) → j < n
rules_below x named p [] h j i = none_in j i
rules_below {n = n} x named p (r ∷ rs) h j i =
    ⊎_elim (λ a. below_is x r p j n (only (below x r p) j a) (h r first) named) (λ b. rules_below x named p rs (λ q at. h q (later at)) j b) (In-parts j (option_to_list (below x r p)) (asked_below x p rs) i)

module _ (ts : Targets) (ranks : List ℕ) (root : Doc) (near : Around) (at' : ℕ → Option Doc) (n : ℕ) (bound : (c : ℕ) (d : Doc) → at' c ≡ Some d → at ranks c < n)
    (contained : (j : ℕ) → near.contained ≡ Some j → j < n) where
  from_moved : (row js : List ℕ) (ds : List Doc) → StandFor at' row ds → Moved ranks row js → (j : ℕ) → In j js → (c : ℕ) × In c row × (at ranks c ≡ j) × (j < n)
  from_moved [] [] ds h m j i = none_in j i
  from_moved (c ∷ row) (k ∷ js) (d ∷ ds) h m _ first = (c, first, sym m.0, omega (arith, m.0, bound c d h.0))
  from_moved (c ∷ row) (k ∷ js) (d ∷ ds) h m j (later i) = let r = from_moved row js ds h.1 m.1 j i in (r.0, later r.1, r.2, r.3)
  from_moved [] (k ∷ js) ds h m j i = absurd m
  from_moved (c ∷ row) [] ds h m j i = none_in j i
  from_moved (c ∷ row) (k ∷ js) [] h m j i = absurd h

  first_in : (row js : List ℕ) (d : Doc) → StandFor at' row (d ∷ []) → Moved ranks row js → In (first_of js) js
  first_in [] js d h m = absurd h
  first_in (c ∷ row) [] d h m = absurd m
  first_in (c ∷ row) (j ∷ js) d h m = first

  asks_nothing_of : (edges : List ℕ) (r : Rule) → here r ≡ [] → children_of r ≡ [] → OfRule ranks near.condition n edges r
  asks_nothing_of edges r e f = record {
    at_itself = λ j i. none_in j (subst (λ (l : List ℕ). In j l) e i);
    at_children = λ j i. none_in j (subst (λ (l : List ℕ). In j l) f i);
  }

  asks_nothing : (r : Rule) → here r ≡ [] → children_of r ≡ [] → OfRule ranks near.condition n [] r
  asks_nothing = asks_nothing_of []

  at_all : (row js : List ℕ) (ds : List Doc) (r : Rule) → StandFor at' row ds → Moved ranks row js → here r ≡ js → children_of r ≡ [] → OfRule ranks near.condition n row r
  at_all row js ds r stand moved e f = record {
    at_itself = λ j i. (let r = from_moved row js ds stand moved j (subst (λ (l : List ℕ). In j l) e i) in inl (r.0, r.1, r.2));
    at_children = λ j i. none_in j (subst (λ (l : List ℕ). In j l) f i);
  }

  below_all : (row js : List ℕ) (ds : List Doc) (r : Rule) → StandFor at' row ds → Moved ranks row js → here r ≡ [] → ((j : ℕ) → In j (children_of r) → In j js) → OfRule ranks near.condition n [] r
  below_all row js ds r stand moved e f = record {
    at_itself = λ j i. none_in j (subst (λ (l : List ℕ). In j l) e i);
    at_children = λ j i. (from_moved row js ds stand moved j (f j i)).3;
  }

  one_in : (js : List ℕ) (k : ℕ) → In k js → (j : ℕ) → In j (k ∷ []) → In j js
  one_in js k i _ first = i
  one_in js k i j (later l) = none_in j l

  at_reference : (o : Option ℕ) (r : Rule) → IsReference (option_map (at ranks) o) r → OfRule ranks near.condition n (option_to_list o) r
  at_reference None r h = subst (OfRule ranks near.condition n []) (sym h.1) (asks_nothing (All h.0) h.2 refl)
  at_reference (Some c) r h = subst (OfRule ranks near.condition n (c ∷ [])) (sym h) (record {
    at_itself = λ j i. inl (c, first, sym (same j (at ranks c) i));
    at_children = λ j i. none_in j i;
  })
    where
      same : (j k : ℕ) → In j (k ∷ []) → j ≡ k
      same _ k first = refl
      same j k (later i) = none_in j i

  -- `then` and `else`
  at_choice : (choice : ℕ → ℕ → Rule) → ((c j : ℕ) → here (choice c j) ≡ c ∷ j ∷ []) → ((c j : ℕ) → children_of (choice c j) ≡ []) → (o : Option ℕ) → near.condition ≡ o → (v : Doc) (row js : List ℕ) (r : Rule)
      → StandFor at' row (v ∷ []) → Moved ranks row js → IsChoice choice o js r → OfRule ranks near.condition n row r
  at_choice choice e f None is v row js r stand moved h = subst (OfRule ranks near.condition n row) (sym h) (asks_nothing_of row (Says true) refl refl)
  at_choice choice e f (Some c) is v row js r stand moved h = subst (OfRule ranks near.condition n row) (sym h) (record {
    at_itself = λ j i. either j (subst (λ (l : List ℕ). In j l) (e c (first_of js)) i);
    at_children = λ j i. none_in j (subst (λ (l : List ℕ). In j l) (f c (first_of js)) i);
  })
    where
      either : (j : ℕ) → In j (c ∷ first_of js ∷ []) → RankIn ranks row j ⊎ (near.condition ≡ Some j)
      either _ first = inr is
      either j (later i) = let t = from_moved row js (v ∷ []) stand moved j (one_in js (first_of js) (first_in row js v stand moved) j i) in inl (t.0, t.1, t.2)

  -- `contains`
  at_count : (o : Option Doc) (v : Doc) (row js : List ℕ) (r : Rule) → StandFor at' row (v ∷ []) → Moved ranks row js → IsCount o js r → OfRule ranks near.condition n [] r
  at_count None v row js r stand moved h = subst (OfRule ranks near.condition n []) (sym h) (below_all row js _ (Contains (first_of js)) stand moved refl (one_in js (first_of js) (first_in row js v stand moved)))
  at_count (Some d) v row js r stand moved h = subst (OfRule ranks near.condition n []) (sym h.1) (below_all row js _ (AtLeast (first_of js) h.0) stand moved refl (one_in js (first_of js) (first_in row js v stand moved)))

  -- `maxContains`
  at_limit : (o : Option ℕ) → near.contained ≡ o → (v : Doc) (r : Rule) → IsLimit o v r → OfRule ranks near.condition n [] r
  at_limit None is v r h = subst (OfRule ranks near.condition n []) (sym h) (asks_nothing (Says true) refl refl)
  at_limit (Some c) is v r h = subst (OfRule ranks near.condition n []) (sym h.1) (record {
    at_itself = λ j i. none_in j i;
    at_children = λ j i. only_one j i;
  })
    where
      only_one : (j : ℕ) → In j (c ∷ []) → j < n
      only_one _ first = contained c is
      only_one j (later i) = none_in j i

  -- `pattern`
  at_match : (o : Option ℕ) (v : Doc) (r : Rule) → IsMatch o v r → OfRule ranks near.condition n [] r
  at_match None v r h = subst (OfRule ranks near.condition n []) (sym h) (asks_nothing (Says true) refl refl)
  at_match (Some m) v r h = subst (OfRule ranks near.condition n []) (sym h.1) (asks_nothing (Matches m h.0) refl refl)

  pub fits_of : (k : Keyword) (v : Doc) (row js : List ℕ) (r : Rule) → StandFor at' row (held_in (shape_of k) v) → Moved ranks row js → Fits ts ranks root near k v js r → OfRule ranks near.condition n (edges_at ts root k v row) r
  fits_of keywords.Properties v row js r stand moved h = subst (OfRule ranks near.condition n []) (sym h) (asks_nothing Properties refl refl)
  fits_of keywords.PatternProperties v row js r stand moved h = subst (OfRule ranks near.condition n []) (sym h.1) (asks_nothing (Asserts h.0) refl refl)
  fits_of keywords.AdditionalProperties v row js r stand moved h = subst (OfRule ranks near.condition n []) (sym h.1) (below_all row js _ (Others h.0 (first_of js)) stand moved refl (one_in js (first_of js) (first_in row js v stand moved)))
  fits_of keywords.PropertyNames v row js r stand moved h = subst (OfRule ranks near.condition n []) (sym h) (below_all row js _ (Names (first_of js)) stand moved refl (one_in js (first_of js) (first_in row js v stand moved)))
  fits_of keywords.Items v row js r stand moved h = subst (OfRule ranks near.condition n []) (sym h) (below_all row js _ (Rest (first_of js)) stand moved refl (one_in js (first_of js) (first_in row js v stand moved)))
  fits_of keywords.PrefixItems v row js r stand moved h = subst (OfRule ranks near.condition n []) (sym h.1) (below_all row js _ (ByPlace h.0) stand moved refl (λ j i. subst (λ (l : List ℕ). In j l) h.2 i))
  fits_of keywords.AllOf v row js r stand moved h = subst (OfRule ranks near.condition n row) (sym h.1) (at_all row js _ (All h.0) stand moved h.2 refl)
  fits_of keywords.AnyOf v row js r stand moved h = subst (OfRule ranks near.condition n row) (sym h.1) (at_all row js _ (Any h.0) stand moved h.2 refl)
  fits_of keywords.OneOf v row js r stand moved h = subst (OfRule ranks near.condition n row) (sym h.1) (at_all row js _ (One h.0) stand moved h.2 refl)
  fits_of keywords.Not v row js r stand moved h = subst (OfRule ranks near.condition n row) (sym h) (record {
    at_itself = λ j i. (let r = from_moved row js _ stand moved j (one_in js (first_of js) (first_in row js v stand moved) j i) in inl (r.0, r.1, r.2));
    at_children = λ j i. none_in j i;
  })
  fits_of keywords.Then v row js r stand moved h = at_choice Then (λ c j. refl) (λ c j. refl) near.condition refl v row js r stand moved h
  fits_of keywords.Else v row js r stand moved h = at_choice Else (λ c j. refl) (λ c j. refl) near.condition refl v row js r stand moved h
  fits_of keywords.DependentSchemas v row js r stand moved h = subst (OfRule ranks near.condition n row) (sym h.2) (at_all row js _ (Dependent h.0 h.1) stand moved h.4 refl)
  fits_of keywords.Ref v row js r stand moved h = at_reference (target_number ts root v) r h
  fits_of keywords.OfType v row js r stand moved h = subst (OfRule ranks near.condition n []) (sym h.1) (asks_nothing (Asserts h.0) refl refl)
  fits_of keywords.Enumeration v row js r stand moved h = subst (OfRule ranks near.condition n []) (sym h.1) (asks_nothing (Asserts h.0) refl refl)
  fits_of keywords.Constant v row js r stand moved h = subst (OfRule ranks near.condition n []) (sym h.1) (asks_nothing (Asserts h.0) refl refl)
  fits_of keywords.MultipleOf v row js r stand moved h = subst (OfRule ranks near.condition n []) (sym h.1) (asks_nothing (Asserts h.0) refl refl)
  fits_of keywords.Minimum v row js r stand moved h = subst (OfRule ranks near.condition n []) (sym h.1) (asks_nothing (Asserts h.0) refl refl)
  fits_of keywords.Maximum v row js r stand moved h = subst (OfRule ranks near.condition n []) (sym h.1) (asks_nothing (Asserts h.0) refl refl)
  fits_of keywords.ExclusiveMinimum v row js r stand moved h = subst (OfRule ranks near.condition n []) (sym h.1) (asks_nothing (Asserts h.0) refl refl)
  fits_of keywords.ExclusiveMaximum v row js r stand moved h = subst (OfRule ranks near.condition n []) (sym h.1) (asks_nothing (Asserts h.0) refl refl)
  fits_of keywords.MinLength v row js r stand moved h = subst (OfRule ranks near.condition n []) (sym h.1) (asks_nothing (Asserts h.0) refl refl)
  fits_of keywords.MaxLength v row js r stand moved h = subst (OfRule ranks near.condition n []) (sym h.1) (asks_nothing (Asserts h.0) refl refl)
  fits_of keywords.MinItems v row js r stand moved h = subst (OfRule ranks near.condition n []) (sym h.1) (asks_nothing (Asserts h.0) refl refl)
  fits_of keywords.MaxItems v row js r stand moved h = subst (OfRule ranks near.condition n []) (sym h.1) (asks_nothing (Asserts h.0) refl refl)
  fits_of keywords.UniqueItems v row js r stand moved h = subst (OfRule ranks near.condition n []) (sym h.1) (asks_nothing (Asserts h.0) refl refl)
  fits_of keywords.MinProperties v row js r stand moved h = subst (OfRule ranks near.condition n []) (sym h.1) (asks_nothing (Asserts h.0) refl refl)
  fits_of keywords.MaxProperties v row js r stand moved h = subst (OfRule ranks near.condition n []) (sym h.1) (asks_nothing (Asserts h.0) refl refl)
  fits_of keywords.Required v row js r stand moved h = subst (OfRule ranks near.condition n []) (sym h.1) (asks_nothing (Asserts h.0) refl refl)
  fits_of keywords.DependentRequired v row js r stand moved h = subst (OfRule ranks near.condition n []) (sym h.1) (asks_nothing (Asserts h.0) refl refl)
  fits_of keywords.Contains v row js r stand moved h = at_count near.least v row js r stand moved h
  fits_of keywords.MaxContains v row js r stand moved h = at_limit near.contained refl v r h
  fits_of keywords.Pattern v row js r stand moved h = at_match (pattern_number (patterns_of ts) v) v r h
  fits_of keywords.MinContains v row js r stand moved h = subst (OfRule ranks near.condition n []) (sym h) (asks_nothing (Says true) refl refl)
  fits_of keywords.If v row js r stand moved h = subst (OfRule ranks near.condition n row) (sym h) (asks_nothing_of row (Says true) refl refl)
  fits_of keywords.Defs v row js r stand moved h = subst (OfRule ranks near.condition n []) (sym h) (asks_nothing (Says true) refl refl)
  fits_of keywords.Anchor v row js r stand moved h = subst (OfRule ranks near.condition n []) (sym h) (asks_nothing (Says true) refl refl)
  fits_of keywords.Id v row js r stand moved h = subst (OfRule ranks near.condition n []) (sym h) (asks_nothing (Says true) refl refl)
  fits_of keywords.Dialect v row js r stand moved h = subst (OfRule ranks near.condition n []) (sym h) (asks_nothing (Says true) refl refl)
  fits_of keywords.LeftOut v row js r stand moved h = subst (OfRule ranks near.condition n []) (sym h) (asks_nothing (Says true) refl refl)
  fits_of keywords.Unknown v row js r stand moved h = subst (OfRule ranks near.condition n []) (sym h) (asks_nothing (Says true) refl refl)

  -- the rules of one member
  matching_of : (ss : Members) (row js : List ℕ) (ds : List Doc) (mine : List Rule) → StandFor at' row ds → Moved ranks row js → AreMatching (patterns_of ts) ss js mine → OfRules ranks near.condition n [] mine
  matching_of no_members row js ds [] stand moved h = none_of
  matching_of no_members row js ds (r ∷ mine) stand moved h = absurd h
  matching_of (member s d ss) row [] ds [] stand moved h = none_of
  matching_of (member s d ss) row [] ds (r ∷ mine) stand moved h = absurd h
  matching_of (member s d ss) row (j ∷ js) ds [] stand moved h = absurd h
  matching_of (member s d ss) [] (j ∷ js) ds (r ∷ mine) stand moved h = absurd moved
  matching_of (member s d ss) (c ∷ row) (j ∷ js) [] (r ∷ mine) stand moved h = absurd stand
  matching_of (member s d ss) (c ∷ row) (j ∷ js) (e ∷ ds) (r ∷ mine) stand moved h =
      let rest = matching_of ss row js ds mine stand.1 moved.1 h.3 in
      let lt : j < n = omega (arith, moved.0, bound c e stand.0) in
      record {
        at_itself = λ i a. ⊎_elim (λ b. none_in i (subst (λ q. In i (here q)) h.1 b)) (λ b. rest.at_itself i b) (In-parts i (here r) (asked_here mine) a);
        at_children = λ q a. of_first q lt a rest.at_children;
      }
    where
      one_below : (i k : ℕ) → i < n → In k (i ∷ []) → k < n
      one_below i _ lt first = lt
      one_below i k lt (later l) = none_in k l

      of_first : (q : Rule) → j < n → In q (r ∷ mine) → ((q : Rule) → In q mine → AllBelow (children_of q) n) → AllBelow (children_of q) n
      of_first _ lt first rest k i = one_below j k lt (subst (λ u. In k (children_of u)) h.1 i)
      of_first q lt (later a) rest k i = rest q a k i

  all_of : (k : Keyword) (v : Doc) (row js : List ℕ) (mine : List Rule) → StandFor at' row (held_in (shape_of k) v) → Moved ranks row js → FitAll ts ranks root near k v js mine → OfRules ranks near.condition n (edges_at ts root k v row) mine
  all_of k v row js mine stand moved (inl h) = subst (λ w. OfRules ranks near.condition n (edges_at ts root w v row) mine) (sym h.0) (matching_of (members_in v) row js (held_in (shape_of k) v) mine stand moved h.1)
  all_of k v row js mine stand moved (inr h) = subst (OfRules ranks near.condition n (edges_at ts root k v row)) (sym h.2) (one_of (edges_at ts root k v row) h.1 (fits_of k v row js h.1 stand moved h.3))

  -- all rules of a schema object
  pub here_of : (ms : Members) (rows moved : List (Vec ℕ Global)) (rs : List Rule) → AreRows at' ms rows → AreMoved ranks rows moved → AreFitting ts ranks root near ms moved rs
      → (j : ℕ) → In j (asked_here rs) → RankIn ranks (edges_in ts root ms rows) j ⊎ (near.condition ≡ Some j)
  here_of no_members [] [] rs h m f j i = none_in j (subst (λ l. In j (asked_here l)) f i)
  here_of (member k v ms) (row ∷ rows) (js ∷ moved) rs h m f j i =
      let mine = all_of (keyword_of k) v row.items js.items f.0 h.0 m.0 f.3 in
      ⊎_elim (λ a. ⊎_elim (λ t. inl (t.0, In-left t.0 _ _ t.1, t.2)) (λ is. inr is) (mine.at_itself j a))
      (λ b. ⊎_elim (λ t. inl (t.0, In-right t.0 (edges_at ts root (keyword_of k) v row.items) _ t.1, t.2)) (λ is. inr is) (here_of ms rows moved f.1 h.1 m.1 f.4 j b))
      (In-parts j (asked_here f.0) (asked_here f.1) (subst (λ l. In j l) (ap asked_here f.2 ∙ here_append f.0 f.1) i))
  here_of no_members (row ∷ rows) moved rs h m f j i = absurd h
  here_of (member k v ms) [] moved rs h m f j i = absurd h
  here_of no_members [] (js ∷ moved) rs h m f j i = absurd m
  here_of (member k v ms) (row ∷ rows) [] rs h m f j i = absurd m

  pub below_of : (x : Node) → NamedBelow x n → (p : PlaceInValue) (ms : Members) (rows moved : List (Vec ℕ Global)) (rs : List Rule) → AreRows at' ms rows → AreMoved ranks rows moved → AreFitting ts ranks root near ms moved rs
      → (j : ℕ) → In j (asked_below x p rs) → j < n
  below_of x named p no_members [] [] rs h m f j i = none_in j (subst (λ l. In j (asked_below x p l)) f i)
  below_of x named p (member k v ms) (row ∷ rows) (js ∷ moved) rs h m f j i =
      let mine = all_of (keyword_of k) v row.items js.items f.0 h.0 m.0 f.3 in
      ⊎_elim (λ a. rules_below x named p f.0 mine.at_children j a) (λ b. below_of x named p ms rows moved f.1 h.1 m.1 f.4 j b)
      (In-parts j (asked_below x p f.0) (asked_below x p f.1) (subst (λ l. In j l) (ap (asked_below x p) f.2 ∙ below_append x p f.0 f.1) i))
  below_of x named p no_members (row ∷ rows) moved rs h m f j i = absurd h
  below_of x named p (member k v ms) [] moved rs h m f j i = absurd h
  below_of x named p no_members [] (js ∷ moved) rs h m f j i = absurd m
  below_of x named p (member k v ms) (row ∷ rows) [] rs h m f j i = absurd m

-- ---- the nodes of `properties`

some_is : (a b : Doc) → Some a ≡ Some b → a ≡ b
some_is a b e = cc

within_places : (places : List ℕ) (es : List Entry) (j : ℕ) (d : Doc) → option_and_then (doc_at es) (slice_get places j) ≡ Some d → j < length places
within_places [] es j d e = absurd cc
within_places (c ∷ places) es zero d e = omega arith
within_places (c ∷ places) es (suc j) d e = omega (arith, within_places places es j d e)

named_below : (ts : Targets) (ranks : List ℕ) (root : Doc) (places : List ℕ) (es : List Entry) (back : Back places ranks es) (ms : Members) (rows moved : List (Vec ℕ Global)) (x : Node)
    → AreRows (doc_at es) ms rows → AreMoved ranks rows moved → IsBuiltOf ts ranks root moved x ms → NamedBelow x (length places)
named_below ts ranks root places es back ms rows moved x h m b k j e =
    let ss = members_in (beside (codes "properties") ms) in
    let o = option_and_then (doc_at es) (slice_get places j) in
    let says : (y : Doc) → Some (or_else y o) ≡ get_member k ss = λ y. sym (ap (option_map (schema_or y places es)) e) ∙ b.named (schema_or y places es) (moved_rows y places ranks es back ms rows moved h m) k in
    let same : or_else null o ≡ or_else (boolean true) o = some_is _ _ (says null ∙ sym (says (boolean true))) in
    within_places places es j (or_else (boolean true) o) (both o (or_else (boolean true) o) refl same)

-- ---- all nodes

module _ (ts : Targets) (root : Doc) (es : List Entry) (g : List (Vec ℕ Global)) (places ranks : List ℕ) (are : AreEntries root es) (edges : AreEdges ts root es g) (many : length g ≡ length es) (o : IsOrder g places ranks)
    (back : Back places ranks es) (bound : (c : ℕ) (d : Doc) → doc_at es c ≡ Some d → at ranks c < length places) where
  rank_below : (ms : Members) (rows : List (Vec ℕ Global)) → AreRows (doc_at es) ms rows → (row : Vec ℕ Global) → In row rows → (c : ℕ) → In c row.items → at ranks c < length places
  rank_below no_members [] h row i c k = none_in row i
  rank_below (member n v ms) (row ∷ rows) h _ first c k = of_row row.items (held_in (shape_of (keyword_of n)) v) h.0 k
    where
      of_row : (cs : List ℕ) (ds : List Doc) → StandFor (doc_at es) cs ds → In c cs → at ranks c < length places
      of_row [] ds s i = none_in c i
      of_row (b ∷ cs) (d ∷ ds) s first = bound b d s.0
      of_row (b ∷ cs) (d ∷ ds) s (later i) = of_row cs ds s.1 i
      of_row (b ∷ cs) [] s i = absurd s
  rank_below (member n v ms) (row ∷ rows) h other (later i) c k = rank_below ms rows h.1 other i c k
  rank_below no_members (row ∷ rows) h other i c k = absurd h
  rank_below (member n v ms) [] h other i c k = none_in other i

  contained_below : (ms : Members) (rows moved : List (Vec ℕ Global)) → AreRows (doc_at es) ms rows → AreMoved ranks rows moved → (j : ℕ) → single_number (codes "contains") ms moved ≡ Some j → j < length places
  contained_below ms rows moved h m j e = let r = single_rank ranks (codes "contains") ms rows moved m j e in let lt = rank_below ms rows h r.0 r.1 r.2.0 r.2.1 in omega (arith, lt, r.2.2)

  built_falls : (n : ℕ) (e : Entry) (rows : List (Vec ℕ Global)) (x : Node) (d : Doc) → slice_get es n ≡ Some e → view e.schema.now ≡ d → AreRows (doc_at es) (members_in d) e.rows.items → AreMoved ranks e.rows.items rows → IsBuilt ts ranks root rows x d
      → (j : ℕ) → In j (asked_here x.rules.items) → j < at ranks n
  built_falls n e rows x (object ms) at_n is h m b j i =
      let t = ⊎_elim (λ a. a) (λ is. condition_edge ts ranks root ms e.rows.items rows m j is) (here_of ts ranks root (around ms rows) (doc_at es) (length places) bound (contained_below ms e.rows.items rows h m) ms e.rows.items rows x.rules.items h m b.fits j i) in
      let row = edges_is ts root es g n e edges at_n in
      let edge : In t.0 (row_at g n) = subst (λ (l : List ℕ). In t.0 l) (sym (row ∙ ap (λ d. edges_in ts root (members_in d) e.rows.items) is)) t.1 in
      omega (arith, o.falls n t.0 edge, t.2)
  built_falls n e rows x (boolean b) at_n is h m built j i = none_in j (subst (λ rs. In j (asked_here rs)) built i)
  built_falls n e rows x null at_n is h m built j i = none_in j (subst (λ rs. In j (asked_here rs)) built i)
  built_falls n e rows x (int z) at_n is h m built j i = none_in j (subst (λ rs. In j (asked_here rs)) built i)
  built_falls n e rows x (text s) at_n is h m built j i = none_in j (subst (λ rs. In j (asked_here rs)) built i)
  built_falls n e rows x (list ds) at_n is h m built j i = none_in j (subst (λ rs. In j (asked_here rs)) built i)

  built_among : (rows moved : List (Vec ℕ Global)) (x : Node) (p : PlaceInValue) (d : Doc) → AreRows (doc_at es) (members_in d) rows → AreMoved ranks rows moved → IsBuilt ts ranks root moved x d
      → (j : ℕ) → In j (asked_below x p x.rules.items) → j < length places
  built_among rows moved x p (object ms) h m b j i =
      below_of ts ranks root (around ms moved) (doc_at es) (length places) bound (contained_below ms rows moved h m) x (named_below ts ranks root places es back ms rows moved x h m b) p ms rows moved x.rules.items h m b.fits j i
  built_among rows moved x p (boolean b) h m built j i = none_in j (subst (λ rs. In j (asked_below x p rs)) built i)
  built_among rows moved x p null h m built j i = none_in j (subst (λ rs. In j (asked_below x p rs)) built i)
  built_among rows moved x p (int z) h m built j i = none_in j (subst (λ rs. In j (asked_below x p rs)) built i)
  built_among rows moved x p (text s) h m built j i = none_in j (subst (λ rs. In j (asked_below x p rs)) built i)
  built_among rows moved x p (list ds) h m built j i = none_in j (subst (λ rs. In j (asked_below x p rs)) built i)

  rank_of_place : (i n : ℕ) → slice_get places i ≡ Some n → at ranks n ≡ i
  rank_of_place i n e =
      let lt = index_within places i n e in
      let is : at places i ≡ n = at_index places i n e in
      sym (ap (at ranks) is) ∙ (o.ranked i (omega (arith, lt, o.many_places))).1
    where
      index_within : (ps : List ℕ) (i n : ℕ) → slice_get ps i ≡ Some n → i < length ps
      index_within [] i n e = absurd cc
      index_within (p ∷ ps) zero n e = omega arith
      index_within (p ∷ ps) (suc i) n e = omega (arith, index_within ps i n e)

      at_index : (ps : List ℕ) (i n : ℕ) → slice_get ps i ≡ Some n → at ps i ≡ n
      at_index [] i n e = absurd cc
      at_index (p ∷ ps) zero n e = cc
      at_index (p ∷ ps) (suc i) n e = at_index ps i n e

  pub ordered : (nodes : List Node) → AreMade ts ranks root es places nodes → AreOrdered nodes
  ordered nodes h = record {
    falls = λ i j x e k. (let m = made_at ts ranks root es places nodes i x h e in
        let d = view m.2.entry.schema.now in
        let lt = built_falls m.0 m.2.entry m.2.rows x d m.2.is_entry refl (rows_at root (doc_at es) es m.0 m.2.entry are m.2.is_entry) m.2.moved m.2.built j k in
        omega (arith, lt, rank_of_place i m.0 m.1));
    among = λ i j x p e k. (let m = made_at ts ranks root es places nodes i x h e in
        let lt = built_among m.2.entry.rows.items m.2.rows x p (view m.2.entry.schema.now) (rows_at root (doc_at es) es m.0 m.2.entry are m.2.is_entry) m.2.moved m.2.built j k in
        omega (arith, lt, made_many ts ranks root es places nodes h));
  }
