-- Each node that is selected stands at its location, and the values below a value are those at its places.
use Rattle.std.proofs.Common.{pos, ◌≡◌, ℕ, suc, ◌+◌, Bool, true, false, cond, List, [], ◌∷◌, ◌++◌, map, flat_map, filter, Option, Some, None, option_and_then, refl, sym, ap, ap₂, subst, ◌∙◌, arith}
use Rattle.std.proofs.lemmas.List.{map-append}
use Rattle.std.specs.List.{AllByRecursion}
use Rattle.std.specs.Ordering.{match_ordering}
use Rattle.doc_tree.proofs.Elements.{IsSound-get_element}
use Rattle.doc_tree.proofs.Members.{IsSound-get_member, get_member-first, get_member-later}
use Rattle.doc_tree.specs.Doc.{Doc, null, boolean, int, text, list, object, Elements, no_elements, element, Members, no_members, member, Place, name, index, get_element, get_member, child, at}
use Rattle.doc_tree.specs.Places.{places, element_places, member_places}
use Rattle.doc_tree.specs.Sound.{IsSound, AreSound, MembersAreSound, IsBefore}
use Rattle.path_grammar.specs.Syntax.{Selector, name_selector, wildcard_selector, slice_selector, index_selector, filter_selector, Selectors, no_selectors, selector, Segments, no_segments, segment}
use Rattle.path_eval.specs.Answer.{nodelist_of}
use Rattle.path_plans.specs.Evaluating.{selected, all_selected, nodelist, holds}
use Rattle.path_select.specs.Nodes.{Located, children, element_children, member_children, child_at, under, beneath, descendants, element_descendants, member_descendants, visited, list_after, only_node}
use Rattle.path_select.specs.Selectors.{from_front, item_count, slice_indexes}
use Rattle.std.specs.Option.{unwrap_or}
use Rattle.path_tables.proofs.Chosen.{IsChildOf, all-append, every, found_at, item_at}

-- ---- places

firsts-under : (s : Place) (us : List Located) → map (λ u. u.0) (map (under s) us) ≡ map (λ p. s ∷ p) (map (λ u. u.0) us)
firsts-under s [] = refl
firsts-under s (u ∷ us) = ap (λ ps. (s ∷ u.0) ∷ ps) (firsts-under s us)

mutual
  pub descendants-places : (d : Doc) → map (λ u. u.0) (descendants d) ≡ places d
  descendants-places null = refl
  descendants-places (boolean b) = refl
  descendants-places (int z) = refl
  descendants-places (text s) = refl
  descendants-places (list ds) = ap (λ ps. [] ∷ ps) (elements-places 0 ds)
  descendants-places (object ms) = ap (λ ps. [] ∷ ps) (members-places ms)

  elements-places : (n : ℕ) (ds : Elements) → map (λ u. u.0) (element_descendants n ds) ≡ element_places n ds
  elements-places n no_elements = refl
  elements-places n (element d ds) =
      map-append (λ u. u.0) (map (under (index n)) (descendants d)) (element_descendants (suc n) ds)
      ∙ ap₂ (λ a b. a ++ b) (firsts-under (index n) (descendants d) ∙ ap (map (λ p. index n ∷ p)) (descendants-places d)) (elements-places (suc n) ds)

  members-places : (ms : Members) → map (λ u. u.0) (member_descendants ms) ≡ member_places ms
  members-places no_members = refl
  members-places (member k d ms) =
      map-append (λ u. u.0) (map (under (name k)) (descendants d)) (member_descendants ms)
      ∙ ap₂ (λ a b. a ++ b) (firsts-under (name k) (descendants d) ∙ ap (map (λ p. name k ∷ p)) (descendants-places d)) (members-places ms)

-- ---- lists of which each element has a property

module _ {A : Type 0} (P : A → Type 0) where
  all-filter : (test : A → Bool) (xs : List A) → AllByRecursion P xs → AllByRecursion P (filter test xs)
  all-filter test [] h = h
  all-filter test (x ∷ xs) h = keep (test x) (all-filter test xs h.1)
    where
      keep : (b : Bool) → AllByRecursion P (filter test xs) → AllByRecursion P (cond b (x ∷ filter test xs) (filter test xs))
      keep true rest = (h.0, rest)
      keep false rest = rest

all-map : {A B : Type 0} (P : A → Type 0) (Q : B → Type 0) (f : A → B) (xs : List A) → ((x : A) → P x → Q (f x)) → AllByRecursion P xs → AllByRecursion Q (map f xs)
all-map P Q f [] to h = tt
all-map P Q f (x ∷ xs) to h = (to x h.0, all-map P Q f xs to h.1)

all-flat_map : {A B : Type 0} (P : A → Type 0) (Q : B → Type 0) (f : A → List B) (xs : List A) → ((x : A) → P x → AllByRecursion Q (f x)) → AllByRecursion P xs → AllByRecursion Q (flat_map f xs)
all-flat_map P Q f [] to h = tt
all-flat_map P Q f (x ∷ xs) to h = all-append Q (f x) (flat_map f xs) (to x h.0) (all-flat_map P Q f xs to h.1)

-- ---- what stands where

-- the node's value is what stands at its location
abbrev IsAt : Doc → Located → Type 0
IsAt d n = at n.0 d ≡ Some n.1

child_sound : (s : Place) (d e : Doc) → IsSound d → child s d ≡ Some e → IsSound e
child_sound (name k) (object ms) e h is = IsSound-get_member k e ms h is
child_sound (index i) (list ds) e h is = IsSound-get_element i e ds h is
child_sound (name k) null e h is = absurd (cc)
child_sound (name k) (boolean b) e h is = absurd (cc)
child_sound (name k) (int z) e h is = absurd (cc)
child_sound (name k) (text s) e h is = absurd (cc)
child_sound (name k) (list ds) e h is = absurd (cc)
child_sound (index i) null e h is = absurd (cc)
child_sound (index i) (boolean b) e h is = absurd (cc)
child_sound (index i) (int z) e h is = absurd (cc)
child_sound (index i) (text s) e h is = absurd (cc)
child_sound (index i) (object ms) e h is = absurd (cc)

-- from the value at a location one goes on
at-append : (p r : List Place) (d e : Doc) → at p d ≡ Some e → at (p ++ r) d ≡ at r e
at-append [] r d e is = let same : d ≡ e = cc in ap (at r) same
at-append (s ∷ p) r d e is = through (child s d) (λ c k. at-append p r c e k) is
  where
    through : (o : Option Doc) → ((c : Doc) → at p c ≡ Some e → at (p ++ r) c ≡ at r e) → option_and_then (at p) o ≡ Some e → option_and_then (at (p ++ r)) o ≡ at r e
    through None on h = absurd (cc)
    through (Some c) on h = on c h

at_sound : (p : List Place) (d e : Doc) → IsSound d → at p d ≡ Some e → IsSound e
at_sound [] d e h is = let same : d ≡ e = cc in subst IsSound same h
at_sound (s ∷ p) d e h is = through (child s d) (λ c f k. at_sound p c e (child_sound s d c h f) k) refl is
  where
    through : (o : Option Doc) → ((c : Doc) → child s d ≡ Some c → at p c ≡ Some e → IsSound e) → child s d ≡ o → option_and_then (at p) o ≡ Some e → IsSound e
    through None on f k = absurd (cc)
    through (Some c) on f k = on c f k

-- a name that comes before all is not among them
get_member-before : (k : List ℕ) (ms : Members) → IsBefore k ms → get_member k ms ≡ None
get_member-before k no_members h = refl
get_member-before k (member l d ms) h = ap (λ o. match_ordering o (get_member k ms) (Some d) (get_member k ms)) h.0 ∙ get_member-before k ms h.1

-- what a later member's name leads to
later : (k q : List ℕ) (d e : Doc) (ms : Members) → IsBefore k ms → get_member q ms ≡ Some e → get_member q (member k d ms) ≡ Some e
later k q d e ms h is = get_member-later q k d ms (λ same. absurd (let none = get_member-before k ms h in let there = subst (λ n. get_member n ms ≡ Some e) same is in cc)) ∙ is

-- ---- children

elements_at : (all ds : Elements) (n : ℕ) → ((i : ℕ) → get_element (n + i) all ≡ get_element i ds) → AllByRecursion (IsChildOf (list all)) (element_children n ds)
elements_at all no_elements n h = tt
elements_at all (element d ds) n h =
    let here : n + 0 ≡ n = omega arith in (
      sym (ap (λ m. get_element m all) here) ∙ h 0,
      elements_at all ds (suc n) (λ i. let next : suc n + i ≡ n + suc i = omega arith in ap (λ m. get_element m all) next ∙ h (suc i)),
    )

members_at : (all ms : Members) → MembersAreSound ms → ((q : List ℕ) (e : Doc) → get_member q ms ≡ Some e → get_member q all ≡ Some e) → AllByRecursion (IsChildOf (object all)) (member_children ms)
members_at all no_members sound h = tt
members_at all (member k d ms) sound h = (h k d (get_member-first k d ms), members_at all ms sound.3 (λ q e is. h q e (later k q d e ms sound.2 is)))

children_at : (d : Doc) → IsSound d → AllByRecursion (IsChildOf d) (children d)
children_at null h = tt
children_at (boolean b) h = tt
children_at (int z) h = tt
children_at (text s) h = tt
children_at (list ds) h = elements_at ds ds 0 (λ i. let same : 0 + i ≡ i = omega arith in ap (λ m. get_element m ds) same)
children_at (object ms) h = members_at ms ms h (λ q e is. is)

-- ---- selectors

selected_at : (root : Doc) (s : Selector) (d : Doc) → IsSound d → AllByRecursion (IsChildOf d) (selected root s d)
selected_at root (name_selector k) d h = found_at (name k) d
selected_at root wildcard_selector d h = children_at d h
selected_at root (slice_selector start stop step) d h = every (slice_indexes (item_count d) start stop (unwrap_or step (pos 1))) d
selected_at root (index_selector i) d h = item_at (from_front (item_count d) i) d
selected_at root (filter_selector e) d h = all-filter (IsChildOf d) (λ c. holds root e c.1) (children d) (children_at d h)

all_selected_at : (root : Doc) (ss : Selectors) (d : Doc) → IsSound d → AllByRecursion (IsChildOf d) (all_selected root ss d)
all_selected_at root no_selectors d h = tt
all_selected_at root (selector s ss) d h = all-append (IsChildOf d) (selected root s d) _ (selected_at root s d h) (all_selected_at root ss d h)

-- ---- descendants

mutual
  descendants_at : (d : Doc) → IsSound d → AllByRecursion (IsAt d) (descendants d)
  descendants_at null h = (refl, tt)
  descendants_at (boolean b) h = (refl, tt)
  descendants_at (int z) h = (refl, tt)
  descendants_at (text s) h = (refl, tt)
  descendants_at (list ds) h = (refl, elements_below ds ds 0 h (λ i. let same : 0 + i ≡ i = omega arith in ap (λ m. get_element m ds) same))
  descendants_at (object ms) h = (refl, members_below ms ms h (λ q e is. is))

  elements_below : (all ds : Elements) (n : ℕ) → AreSound ds → ((i : ℕ) → get_element (n + i) all ≡ get_element i ds) → AllByRecursion (IsAt (list all)) (element_descendants n ds)
  elements_below all no_elements n sound h = tt
  elements_below all (element d ds) n sound h =
      let here : n + 0 ≡ n = omega arith in
      let there : get_element n all ≡ Some d = sym (ap (λ m. get_element m all) here) ∙ h 0 in
      all-append (IsAt (list all)) (map (under (index n)) (descendants d)) _
      (all-map (IsAt d) (IsAt (list all)) (under (index n)) (descendants d) (λ u is. ap (option_and_then (at u.0)) there ∙ is) (descendants_at d sound.0))
      (elements_below all ds (suc n) sound.1 (λ i. let next : suc n + i ≡ n + suc i = omega arith in ap (λ m. get_element m all) next ∙ h (suc i)))

  members_below : (all ms : Members) → MembersAreSound ms → ((q : List ℕ) (e : Doc) → get_member q ms ≡ Some e → get_member q all ≡ Some e) → AllByRecursion (IsAt (object all)) (member_descendants ms)
  members_below all no_members sound h = tt
  members_below all (member k d ms) sound h =
      let there : get_member k all ≡ Some d = h k d (get_member-first k d ms) in
      all-append (IsAt (object all)) (map (under (name k)) (descendants d)) _
      (all-map (IsAt d) (IsAt (object all)) (under (name k)) (descendants d) (λ u is. ap (option_and_then (at u.0)) there ∙ is) (descendants_at d sound.1))
      (members_below all ms sound.3 (λ q e is. h q e (later k q d e ms sound.2 is)))

-- ---- segments

visited_at : (root : Doc) → IsSound root → (descend : Bool) (ns : List Located) → AllByRecursion (IsAt root) ns → AllByRecursion (IsAt root) (visited descend ns)
visited_at root sound false ns h = h
visited_at root sound true ns h =
    all-flat_map (IsAt root) (IsAt root) (λ n. map (beneath n.0) (descendants n.1)) ns
    (λ n is. all-map (IsAt n.1) (IsAt root) (beneath n.0) (descendants n.1) (λ u k. at-append n.0 u.0 root n.1 is ∙ k) (descendants_at n.1 (at_sound n.0 root n.1 sound is))) h

list_at : (root : Doc) → IsSound root → (ss : Selectors) (descend : Bool) (ns : List Located) → AllByRecursion (IsAt root) ns → AllByRecursion (IsAt root) (list_after (all_selected root ss) descend ns)
list_at root sound ss descend ns h =
    all-flat_map (IsAt root) (IsAt root) (λ u. map (child_at u.0) (all_selected root ss u.1)) (visited descend ns)
    (λ u is. all-map (IsChildOf u.1) (IsAt root) (child_at u.0) (all_selected root ss u.1) (λ c k. at-append u.0 (c.0 ∷ []) root u.1 is ∙ ap (option_and_then (at [])) k)
    (all_selected_at root ss u.1 (at_sound u.0 root u.1 sound is)))
    (visited_at root sound descend ns h)

nodelist_at : (root : Doc) → IsSound root → (q : Segments) (ns : List Located) → AllByRecursion (IsAt root) ns → AllByRecursion (IsAt root) (nodelist root q ns)
nodelist_at root sound no_segments ns h = h
nodelist_at root sound (segment descend ss q) ns h = nodelist_at root sound q _ (list_at root sound ss descend ns h)

-- each node of a sound document stands at its location
pub nodes_at : (d : Doc) (q : Segments) → IsSound d → AllByRecursion (λ n. at n.0 d ≡ Some n.1) (nodelist_of d q)
nodes_at d q sound = nodelist_at d sound q (only_node d) (refl, tt)
