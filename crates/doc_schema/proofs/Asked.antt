-- What a keyword asks: of the instance itself the schemas it leads to, of a lower value a schema that it holds.
use Rattle.std.proofs.Common.{◌≡◌, ℕ, zero, suc, ◌<◌, ◌≤◌, ◌⊎◌, inl, inr, ⊎_elim, max, Bool, true, false, ◌||◌, is_some, if◌then◌else◌, Ordering, Less, Equal, Greater, nat_cmp, List, [], ◌∷◌, Option, Some, None, refl, sym, subst, arith, codes}
use Rattle.std.specs.Cmp.Lexicographic.{slice_cmp}
use Rattle.std.specs.Option.{option_to_list}
use Rattle.std.specs.Ordering.{match_ordering}
use Rattle.doc_tree.specs.Doc.{Doc, list, object, Elements, no_elements, element, Members, no_members, member, height, elements_height, members_height, get_member}
use Rattle.schema_rules.specs.Keywords.{keyword_of, shape_of}
use Rattle.schema_rules.specs.Parts.{elements_in, members_in, after}
use Rattle.schema_rules.specs.Rules.{Ask, ask, asks, at_each, by_each, of_each, by_place, by_name, each_named, if_named, of_names, of_matching, by_pattern, of_others, of_contained, at_target, after_if}
use Rattle.doc_tree.specs.Lists.{elements_list, values_list}
use Rattle.schema_pattern.specs.Patterns.{is_found, pattern_in}
use Rattle.schema_pattern.specs.Tables.{some_found}
use Rattle.schema_rules.specs.References.{target}
use Rattle.doc_schema.specs.Schemas.{held_in, held_by, applied_by, applied_by_members}
use Rattle.schema_graph.specs.Walks.{In, first, later}
use Rattle.schema_rules.specs.declared.keyword.Keyword.{Keyword}
use Rattle.schema_rules.specs.declared.keyword.Keyword.TheVariants.{Properties, PatternProperties, AdditionalProperties, PropertyNames, PrefixItems, Items, Contains, MaxContains, AllOf, AnyOf, OneOf, Not, Then, Else, DependentSchemas, Ref}
use Rattle.schema_graph.proofs.Among.{In-left, In-right, In-parts, none_in}
use Rattle.schema_nodes.proofs.KeywordNames.{contains_is, if_is}
use Rattle.std.proofs.lemmas.Map.Lookups.{exact_bytes}

-- in place, or of a value that is less high
pub record Here (led : List Doc) (t : Doc) (a : Ask) : Type 0 where
  pub same : a.instance ≡ t
  pub along : In a.schema led

pub record Lower (held : List Doc) (t : Doc) (a : Ask) : Type 0 where
  pub less : height a.instance < height t
  pub among : In a.schema held

abbrev pub Asked : List Doc → List Doc → Doc → Ask → Type 0
Asked led held t a = Here led t a ⊎ Lower held t a

at_each_here : (ss : Elements) (t : Doc) (a : Ask) → In a (at_each ss t) → Here (elements_list ss) t a
at_each_here no_elements t a i = none_in a i
at_each_here (element s ss) t _ first = record { same = refl; along = first }
at_each_here (element s ss) t a (later i) = let h = at_each_here ss t a i in record { same = h.same; along = later h.along }

by_each_here : (ss : Members) (t : Doc) (a : Ask) → In a (by_each ss t) → Here (values_list ss) t a
by_each_here no_members t a i = none_in a i
by_each_here (member k s ss) t _ first = record { same = refl; along = first }
by_each_here (member k s ss) t a (later i) = let h = by_each_here ss t a i in record { same = h.same; along = later h.along }

at_target_here : (o : Option Doc) (t : Doc) (a : Ask) → In a (at_target o t) → Here (option_to_list o) t a
at_target_here None t a i = none_in a i
at_target_here (Some s) t _ first = record { same = refl; along = first }
at_target_here (Some s) t a (later i) = none_in a i

-- ---- lower: stated by a bound of heights

record Within (held : List Doc) (n : ℕ) (a : Ask) : Type 0 where
  pub most : height a.instance ≤ n
  pub among : In a.schema held

of_each_within : (s : Doc) (ts : Elements) (a : Ask) → In a (of_each s ts) → Within (s ∷ []) (elements_height ts) a
of_each_within s no_elements a i = none_in a i
of_each_within s (element t ts) _ first = record { most = omega arith; among = first }
of_each_within s (element t ts) a (later i) = let h = of_each_within s ts a i in record { most = omega (arith, h.most); among = h.among }

by_place_within : (ss ts : Elements) (a : Ask) → In a (by_place ss ts) → Within (elements_list ss) (elements_height ts) a
by_place_within no_elements ts a i = none_in a i
by_place_within (element s ss) no_elements a i = none_in a i
by_place_within (element s ss) (element t ts) _ first = record { most = omega arith; among = first }
by_place_within (element s ss) (element t ts) a (later i) = let h = by_place_within ss ts a i in record { most = omega (arith, h.most); among = later h.among }

of_others_within : (named : Members) (ps : List (List ℕ)) (s : Doc) (ts : Members) (a : Ask) → In a (of_others named ps s ts) → Within (s ∷ []) (members_height ts) a
of_others_within named ps s no_members a i = none_in a i
of_others_within named ps s (member k t ts) a i = by_case (is_some (get_member k named) || some_found ps k) s t (members_height ts) (of_others named ps s ts) a (of_others_within named ps s ts a) i
  where
    by_case : (b : Bool) (s t : Doc) (n : ℕ) (rest : List Ask) (a : Ask) → (In a rest → Within (s ∷ []) n a) → In a (if b then rest else (ask s t ∷ rest)) → Within (s ∷ []) (max (height t) n) a
    by_case true s t n rest a h i = let w = h i in record { most = omega (arith, w.most); among = w.among }
    by_case false s t n rest _ h first = record { most = omega arith; among = first }
    by_case false s t n rest a h (later i) = let w = h i in record { most = omega (arith, w.most); among = w.among }

pub get_member_among : (k : List ℕ) (ms : Members) (d : Doc) → get_member k ms ≡ Some d → In d (values_list ms)
get_member_among k no_members d e = absurd cc
get_member_among k (member l m ms) d e = by_order (slice_cmp nat_cmp k l) m (get_member k ms) d (values_list ms) (get_member_among k ms d) e
  where
    by_order : (o : Ordering) (m : Doc) (rest : Option Doc) (d : Doc) (ds : List Doc) → (rest ≡ Some d → In d ds) → match_ordering o rest (Some m) rest ≡ Some d → In d (m ∷ ds)
    by_order Less m rest d ds h e = later (h e)
    by_order Greater m rest d ds h e = later (h e)
    by_order Equal m rest d ds h e = let same : m ≡ d = cc in subst (λ x. In x (m ∷ ds)) same first

by_name_within : (ss ts : Members) (a : Ask) → In a (by_name ss ts) → Within (values_list ss) (members_height ts) a
by_name_within ss no_members a i = none_in a i
by_name_within ss (member k t ts) a i = by_found (get_member k ss) t (members_height ts) (values_list ss) (by_name ss ts) (get_member_among k ss) a (by_name_within ss ts a) i
  where
    by_found : (o : Option Doc) (t : Doc) (n : ℕ) (held : List Doc) (rest : List Ask) → ((d : Doc) → o ≡ Some d → In d held) → (a : Ask) → (In a rest → Within held n a) → In a (if_named o t rest) → Within held (max (height t) n) a
    by_found None t n held rest among a h i = let w = h i in record { most = omega (arith, w.most); among = w.among }
    by_found (Some s) t n held rest among _ h first = record { most = omega arith; among = among s refl }
    by_found (Some s) t n held rest among a h (later i) = let w = h i in record { most = omega (arith, w.most); among = w.among }

after_less : (n : ℕ) (ts : Elements) → elements_height (after n ts) ≤ elements_height ts
after_less n no_elements = omega arith
after_less zero (element t ts) = omega arith
after_less (suc n) (element t ts) = omega (arith, after_less n ts)

-- ---- of a whole instance

within_lower : (held : List Doc) (n : ℕ) (t : Doc) (a : Ask) → n < height t → Within held n a → Lower held t a
within_lower held n t a lt w = record { less = omega (arith, w.most); among = w.among }

by_name_lower : (ss : Members) (t : Doc) (a : Ask) → In a (by_name ss (members_in t)) → Lower (values_list ss) t a
by_name_lower ss (object ts) a i = within_lower _ (members_height ts) (object ts) a (omega arith) (by_name_within ss ts a i)
by_name_lower ss _ a i = none_in a i

each_named_lower : (v t : Doc) (a : Ask) → In a (each_named v (members_in t)) → Lower (values_list (members_in v)) t a
each_named_lower (object ss) t a i = by_name_lower ss t a i
each_named_lower _ t a i = none_in a i

of_others_lower : (named : Members) (ps : List (List ℕ)) (s t : Doc) (a : Ask) → In a (of_others named ps s (members_in t)) → Lower (s ∷ []) t a
of_others_lower named ps s (object ts) a i = within_lower _ (members_height ts) (object ts) a (omega arith) (of_others_within named ps s ts a i)
of_others_lower named ps s _ a i = none_in a i

of_matching_within : (p : List ℕ) (s : Doc) (ts : Members) (a : Ask) → In a (of_matching p s ts) → Within (s ∷ []) (members_height ts) a
of_matching_within p s no_members a i = none_in a i
of_matching_within p s (member k t ts) a i = by_case (is_found (pattern_in p) k) s t (members_height ts) (of_matching p s ts) a (of_matching_within p s ts a) i
  where
    by_case : (b : Bool) (s t : Doc) (n : ℕ) (rest : List Ask) (a : Ask) → (In a rest → Within (s ∷ []) n a) → In a (if b then (ask s t ∷ rest) else rest) → Within (s ∷ []) (max (height t) n) a
    by_case false s t n rest a h i = let w = h i in record { most = omega (arith, w.most); among = w.among }
    by_case true s t n rest _ h first = record { most = omega arith; among = first }
    by_case true s t n rest a h (later i) = let w = h i in record { most = omega (arith, w.most); among = w.among }

by_pattern_within : (ss ts : Members) (a : Ask) → In a (by_pattern ss ts) → Within (values_list ss) (members_height ts) a
by_pattern_within no_members ts a i = none_in a i
by_pattern_within (member p s ss) ts a i = ⊎_elim
    (λ h. (let w = of_matching_within p s ts a h in record { most = w.most; among = In-left a.schema (s ∷ []) (values_list ss) w.among }))
    (λ h. (let w = by_pattern_within ss ts a h in record { most = w.most; among = later w.among }))
    (In-parts a (of_matching p s ts) (by_pattern ss ts) i)

by_pattern_lower : (ss : Members) (t : Doc) (a : Ask) → In a (by_pattern ss (members_in t)) → Lower (values_list ss) t a
by_pattern_lower ss (object ts) a i = within_lower _ (members_height ts) (object ts) a (omega arith) (by_pattern_within ss ts a i)
by_pattern_lower ss _ a i = of_none ss a i
  where
    of_none : {P : Type 0} (ss : Members) (a : Ask) → In a (by_pattern ss no_members) → P
    of_none no_members a i = none_in a i
    of_none (member p s ss) a i = of_none ss a i

by_place_lower : (ss : Elements) (t : Doc) (a : Ask) → In a (by_place ss (elements_in t)) → Lower (elements_list ss) t a
by_place_lower ss (list ts) a i = within_lower _ (elements_height ts) (list ts) a (omega arith) (by_place_within ss ts a i)
by_place_lower no_elements _ a i = none_in a i
by_place_lower (element s ss) _ a i = none_in a i

of_each_lower : (s : Doc) (n : ℕ) (t : Doc) (a : Ask) → In a (of_each s (after n (elements_in t))) → Lower (s ∷ []) t a
of_each_lower s n (list ts) a i = within_lower _ (elements_height (after n ts)) (list ts) a (omega (arith, after_less n ts)) (of_each_within s (after n ts) a i)
of_each_lower s n _ a i = none_in a i

of_names_within : (s : Doc) (ts : Members) (a : Ask) → In a (of_names s ts) → Within (s ∷ []) 0 a
of_names_within s no_members a i = none_in a i
of_names_within s (member k t ts) _ first = record { most = omega arith; among = first }
of_names_within s (member k t ts) a (later i) = of_names_within s ts a i

-- a name is a text, of height 0
of_names_lower : (s t : Doc) (a : Ask) → In a (of_names s (members_in t)) → Lower (s ∷ []) t a
of_names_lower s (object ts) a i = within_lower _ 0 (object ts) a (omega arith) (of_names_within s ts a i)
of_names_lower s _ a i = none_in a i

-- ---- of a whole object, whose other members a keyword may speak of

-- the member is one of these
pub data MemberIn : List ℕ → Doc → Members → Type 0 where
  the_first : {k : List ℕ} {v : Doc} {ms : Members} → MemberIn k v (member k v ms)
  a_later : {k l : List ℕ} {v w : Doc} {ms : Members} → MemberIn k v ms → MemberIn k v (member l w ms)

applied_in_object : (root : Doc) (k : List ℕ) (v : Doc) (ms : Members) → MemberIn k v ms → (q : Doc) → In q (applied_by root (keyword_of k) v) → In q (applied_by_members root ms)
applied_in_object root k v no_members i q x = elim i [ ]
applied_in_object root _ _ (member k v ms) the_first q x = In-left q _ _ x
applied_in_object root k v (member l w ms) (a_later i) q x = In-right q (applied_by root (keyword_of l) w) _ (applied_in_object root k v ms i q x)

held_in_object : (k : List ℕ) (v : Doc) (ms : Members) → MemberIn k v ms → (q : Doc) → In q (held_in (shape_of (keyword_of k)) v) → In q (held_by ms)
held_in_object k v no_members i q x = elim i [ ]
held_in_object _ _ (member k v ms) the_first q x = In-left q _ _ x
held_in_object k v (member l w ms) (a_later i) q x = In-right q (held_in (shape_of (keyword_of l)) w) _ (held_in_object k v ms i q x)

wider : (l h l' h' : List Doc) (t : Doc) (a : Ask) → ((q : Doc) → In q l → In q l') → ((q : Doc) → In q h → In q h') → Asked l h t a → Asked l' h' t a
wider l h l' h' t a f g (inl x) = inl (record { same = x.same; along = f a.schema x.along })
wider l h l' h' t a f g (inr x) = inr (record { less = x.less; among = g a.schema x.among })

-- ---- what `if` beside a keyword asks

-- what stands at a name is a member
member_in : (k : List ℕ) (ms : Members) (v : Doc) → get_member k ms ≡ Some v → MemberIn k v ms
member_in k no_members v e = absurd cc
member_in k (member l m ms) v e = by_order (slice_cmp nat_cmp k l) refl e (member_in k ms v)
  where
    by_order : (o : Ordering) → slice_cmp nat_cmp k l ≡ o → match_ordering o (get_member k ms) (Some m) (get_member k ms) ≡ Some v → (get_member k ms ≡ Some v → MemberIn k v ms) → MemberIn k v (member l m ms)
    by_order Less c f rest = a_later (rest f)
    by_order Greater c f rest = a_later (rest f)
    by_order Equal c f rest =
        let named : k ≡ l = exact_bytes k l c in
        let is : v ≡ m = cc in
        subst (λ x. MemberIn x v (member l m ms)) (sym named) (subst (λ x. MemberIn l x (member l m ms)) (sym is) the_first)

only_here : (s t : Doc) (a : Ask) → In a (ask s t ∷ []) → Here (s ∷ []) t a
only_here s t _ first = record { same = refl; along = first }
only_here s t a (later i) = none_in a i

after_if_here : (root : Doc) (ms : Members) (v t : Doc) (a : Ask) (o : Option Doc) → get_member (codes "if") ms ≡ o → In a (after_if o v t) → Here (v ∷ []) t a ⊎ Here (applied_by_members root ms) t a
after_if_here root ms v t a None e i = none_in a i
after_if_here root ms v t _ (Some c) e first = inr (record { same = refl; along = applied_in_object root (codes "if") c ms (member_in (codes "if") ms c e) c (subst (λ k. In c (applied_by root k c)) (sym if_is) first) })
after_if_here root ms v t a (Some c) e (later i) = inl (only_here v t a i)

in_each_lower : (s t : Doc) (a : Ask) → In a (of_each s (elements_in t)) → Lower (s ∷ []) t a
in_each_lower s (list ts) a i = within_lower _ (elements_height ts) (list ts) a (omega arith) (of_each_within s ts a i)
in_each_lower s _ a i = none_in a i

contained_lower : (ms : Members) (t : Doc) (a : Ask) (o : Option Doc) → get_member (codes "contains") ms ≡ o → In a (of_contained o (elements_in t)) → Lower (held_by ms) t a
contained_lower ms t a None e i = none_in a i
contained_lower ms t a (Some c) e i =
    let l = in_each_lower c t a i in
    let held : In a.schema (held_in (shape_of (keyword_of (codes "contains"))) c) = subst (λ k. In a.schema (held_in (shape_of k) c)) (sym contains_is) l.among in
    record { less = l.less; among = held_in_object (codes "contains") c ms (member_in (codes "contains") ms c e) a.schema held }

-- by its own value, or by `if` or `contains` beside it
asked : (root : Doc) (ms : Members) (k : Keyword) (v t : Doc) (a : Ask) → In a (asks root ms k v t) → Asked (applied_by root k v) (held_in (shape_of k) v) t a ⊎ Asked (applied_by_members root ms) (held_by ms) t a
asked root ms Properties v t a i = inl (inr (each_named_lower v t a i))
asked root ms PatternProperties v t a i = inl (inr (by_pattern_lower (members_in v) t a i))
asked root ms AdditionalProperties v t a i = inl (inr (of_others_lower _ _ v t a i))
asked root ms PropertyNames v t a i = inl (inr (of_names_lower v t a i))
asked root ms PrefixItems v t a i = inl (inr (by_place_lower (elements_in v) t a i))
asked root ms Items v t a i = inl (inr (of_each_lower v _ t a i))
asked root ms Contains v t a i = inl (inr (in_each_lower v t a i))
asked root ms MaxContains v t a i = inr (inr (contained_lower ms t a (get_member (codes "contains") ms) refl i))
asked root ms AllOf v t a i = inl (inl (at_each_here (elements_in v) t a i))
asked root ms AnyOf v t a i = inl (inl (at_each_here (elements_in v) t a i))
asked root ms OneOf v t a i = inl (inl (at_each_here (elements_in v) t a i))
asked root ms Not v t a i = inl (inl (only_here v t a i))
asked root ms Then v t a i = ⊎_elim (λ h. inl (inl h)) (λ h. inr (inl h)) (after_if_here root ms v t a (get_member (codes "if") ms) refl i)
asked root ms Else v t a i = ⊎_elim (λ h. inl (inl h)) (λ h. inr (inl h)) (after_if_here root ms v t a (get_member (codes "if") ms) refl i)
asked root ms DependentSchemas v t a i = inl (inl (by_each_here (members_in v) t a i))
asked root ms Ref v t a i = inl (inl (at_target_here (target root v) t a i))
asked root ms _ v t a i = none_in a i

-- what a member asks is led to or held by some member of its object
pub asked_in_object : (root : Doc) (ms : Members) (k : List ℕ) (v t : Doc) (a : Ask) → MemberIn k v ms → In a (asks root ms (keyword_of k) v t) → Asked (applied_by_members root ms) (held_by ms) t a
asked_in_object root ms k v t a i h = ⊎_elim
    (λ x. wider _ _ _ _ t a (applied_in_object root k v ms i) (held_in_object k v ms i) x)
    (λ x. x)
    (asked root ms (keyword_of k) v t a h)
