-- What holds of each child, by its place.
use Rattle.std.proofs.Common.{String, Global, string_bytes, string_cmp, ◌≡◌, ◌≢◌, ℕ, zero, suc, ◌+◌, ◌⊎◌, inl, inr, ⊎_elim, List, [], ◌∷◌, ◌++◌, Bool, true, false, true≢false, ◌&&◌, Some, Ordering, Less, Equal, Greater, nat_cmp, bytes_eq, refl, sym, ap, subst, ◌∙◌, arith}
use Rattle.std.proofs.lemmas.Slice.Eq.{bytes_eq-Decides}
use Rattle.std.proofs.lemmas.Map.Text.{is_eq-slice_cmp}
use Rattle.std.specs.Cmp.Lexicographic.{slice_cmp}
use Rattle.std.specs.Ordering.{is_eq, match_ordering}
use Rattle.doc_tree.specs.Doc.{Doc, null, boolean, int, text, list, object, Elements, no_elements, element, Members, no_members, member, Place, name, index, child, get_element, get_member}
use Rattle.std.specs.List.{AllByRecursion}
use Rattle.std.specs.List.Sorted.{IsStrictlySortedBy}
use Rattle.std.specs.Map.{keys_of}
use Rattle.doc_tree.specs.Sound.{IsBefore}
use Rattle.doc_tree.specs.TreeView.{members_view}
use Rattle.doc_tree.specs.declared.tree.Tree.{Tree}
use Rattle.doc_tree.proofs.Members.{get_member-first, get_member-later}
use Rattle.schema_graph.proofs.Numbers.{same_or_not}
use Rattle.schema_levels.specs.PlaceInValue.{member_name}
use Rattle.schema_levels.specs.Table.{Child, child_at, children, items_from, members_each, titles}
use Rattle.schema_levels.proofs.Tables.{and_assoc}
use Rattle.schema_changes.specs.Again.{AreSorted, IsSorted, site_of}

-- ---- truth values

pub both_true : (a b : Bool) → a ≡ true → b ≡ true → (a && b) ≡ true
both_true true b e f = f
both_true false b e f = e

pub left_true : (a b : Bool) → (a && b) ≡ true → a ≡ true
left_true true b e = refl
left_true false b e = e

pub right_true : (a b : Bool) → (a && b) ≡ true → b ≡ true
right_true true b e = e
right_true false b e = absurd cc

-- ---- places

same_names : (k l : List ℕ) → (k ≡ l) ⊎ (k ≢ l)
same_names k l = by_test (bytes_eq k l) refl
  where
    by_test : (b : Bool) → bytes_eq k l ≡ b → (k ≡ l) ⊎ (k ≢ l)
    by_test true e = inl ((bytes_eq-Decides k l).0 e)
    by_test false e = inr (λ same. true≢false (sym ((bytes_eq-Decides k l).1 same) ∙ e))

pub same_place : (p q : Place) → (p ≡ q) ⊎ (p ≢ q)
same_place (name k) (name l) = ⊎_elim (λ (e : k ≡ l). inl (ap name e)) (λ ne. inr (λ e. ne cc)) (same_names k l)
same_place (index m) (index n) = ⊎_elim (λ (e : m ≡ n). inl (ap index e)) (λ ne. inr (λ e. ne cc)) (same_or_not m n)
same_place (name k) (index n) = inr (λ e. absurd cc)
same_place (index n) (name k) = inr (λ e. absurd cc)

-- ---- each child

abbrev pub each : (Child → Bool) → List Child → Bool
each P [] = true
each P (c ∷ cs) = P c && each P cs

module _ (P : Child → Bool) where
  each_append : (cs ds : List Child) → each P (cs ++ ds) ≡ (each P cs && each P ds)
  each_append [] ds = refl
  each_append (c ∷ cs) ds = ap (λ b. P c && b) (each_append cs ds) ∙ sym (and_assoc (P c) (each P cs) (each P ds))

  -- ---- from each child's place to all children

  items_all : (m : ℕ) (ds : Elements) → ((n : ℕ) (d : Doc) → get_element n ds ≡ Some d → P (child_at (site_of (index (m + n))) d) ≡ true) → each P (items_from m ds) ≡ true
  items_all m no_elements h = refl
  items_all m (element d ds) h =
      let zero_is : m + zero ≡ m = omega arith in
      both_true (P (child_at (site_of (index m)) d)) (each P (items_from (suc m) ds)) (subst (λ i. P (child_at (site_of (index i)) d) ≡ true) zero_is (h zero d refl))
      (items_all (suc m) ds (λ n e at. let s : m + suc n ≡ suc m + n = omega arith in subst (λ i. P (child_at (site_of (index i)) e) ≡ true) s (h (suc n) e at)))

  not_before : (k : List ℕ) (d : Doc) (ms : Members) → IsBefore k ms → get_member k ms ≡ Some d → ⊥
  not_before k d no_members before at = absurd cc
  not_before k d (member l e ms) before at = not_before k d ms before.1 (sym (rw before.0 refl) ∙ at)

  kept_later : (k l : List ℕ) (d e : Doc) (ms : Members) → IsBefore l ms → get_member k ms ≡ Some d → get_member k (member l e ms) ≡ Some d
  kept_later k l d e ms before at = get_member-later k l e ms (λ same. not_before l d ms before (subst (λ x. get_member x ms ≡ Some d) same at)) ∙ at

  members_all : (ms : Members) → AreSorted ms → ((k : List ℕ) (d : Doc) → get_member k ms ≡ Some d → P (child_at (site_of (name k)) d) ≡ true) → each P (members_each ms) ≡ true
  members_all no_members sorted h = refl
  members_all (member l e ms) sorted h =
      both_true (P (child_at (site_of (name l)) e)) (each P (members_each ms)) (h l e (get_member-first l e ms)) (members_all ms sorted.1 (λ k d at. h k d (kept_later k l d e ms sorted.0 at)))

  titles_all : (ms : Members) → AreSorted ms → ((k : List ℕ) (d : Doc) → get_member k ms ≡ Some d → P (child_at member_name (text k)) ≡ true) → each P (titles ms) ≡ true
  titles_all no_members sorted h = refl
  titles_all (member l e ms) sorted h =
      both_true (P (child_at member_name (text l))) (each P (titles ms)) (h l e (get_member-first l e ms)) (titles_all ms sorted.1 (λ k d at. h k d (kept_later k l d e ms sorted.0 at)))

  pub children_all : (t : Doc) → IsSorted t → ((q : Place) (d : Doc) → child q t ≡ Some d → P (child_at (site_of q) d) ≡ true) → ((k : List ℕ) (d : Doc) → child (name k) t ≡ Some d → P (child_at member_name (text k)) ≡ true) → each P (children t) ≡ true
  children_all (list ds) sorted h g = items_all 0 ds (λ n d at. let z : n ≡ 0 + n = omega arith in subst (λ i. P (child_at (site_of (index i)) d) ≡ true) z (h (index n) d at))
  children_all (object ms) sorted h g = each_append (members_each ms) (titles ms) ∙ both_true (each P (members_each ms)) (each P (titles ms)) (members_all ms sorted (λ k d at. h (name k) d at)) (titles_all ms sorted (λ k d at. g k d at))
  children_all null sorted h g = refl
  children_all (boolean b) sorted h g = refl
  children_all (int z) sorted h g = refl
  children_all (text s) sorted h g = refl

  -- ---- from all children to the child at a place

  item_of : (m n : ℕ) (d : Doc) (ds : Elements) → each P (items_from m ds) ≡ true → get_element n ds ≡ Some d → P (child_at (site_of (index (m + n))) d) ≡ true
  item_of m n d no_elements all at = absurd cc
  item_of m zero d (element e ds) all at =
      let same : e ≡ d = cc in
      let zero_is : m ≡ m + zero = omega arith in
      subst (λ i. P (child_at (site_of (index i)) d) ≡ true) zero_is (subst (λ x. P (child_at (site_of (index m)) x) ≡ true) same (left_true (P (child_at (site_of (index m)) e)) (each P (items_from (suc m) ds)) all))
  item_of m (suc n) d (element e ds) all at =
      let s : suc m + n ≡ m + suc n = omega arith in
      subst (λ i. P (child_at (site_of (index i)) d) ≡ true) s (item_of (suc m) n d ds (right_true (P (child_at (site_of (index m)) e)) (each P (items_from (suc m) ds)) all) at)

  found : (Q : List ℕ → Doc → Bool) (o : Ordering) (k l : List ℕ) (d e : Doc) (ms : Members) → slice_cmp nat_cmp k l ≡ o → Q l e ≡ true → (get_member k ms ≡ Some d → Q k d ≡ true)
      → match_ordering o (get_member k ms) (Some e) (get_member k ms) ≡ Some d → Q k d ≡ true
  found Q Less k l d e ms is here rest at = rest at
  found Q Greater k l d e ms is here rest at = rest at
  found Q Equal k l d e ms is here rest at =
      let same : e ≡ d = cc in
      let names : l ≡ k = sym ((bytes_eq-Decides k l).0 (sym (is_eq-slice_cmp k l) ∙ ap is_eq is)) in
      subst (λ x. Q k x ≡ true) same (subst (λ x. Q x e ≡ true) names here)

  member_of : (k : List ℕ) (d : Doc) (ms : Members) → each P (members_each ms) ≡ true → get_member k ms ≡ Some d → P (child_at (site_of (name k)) d) ≡ true
  member_of k d no_members all at = absurd cc
  member_of k d (member l e ms) all at =
      found (λ k d. P (child_at (site_of (name k)) d)) (slice_cmp nat_cmp k l) k l d e ms refl (left_true (P (child_at (site_of (name l)) e)) (each P (members_each ms)) all)
      (member_of k d ms (right_true (P (child_at (site_of (name l)) e)) (each P (members_each ms)) all)) at

  title_of : (k : List ℕ) (d : Doc) (ms : Members) → each P (titles ms) ≡ true → get_member k ms ≡ Some d → P (child_at member_name (text k)) ≡ true
  title_of k d no_members all at = absurd cc
  title_of k d (member l e ms) all at =
      found (λ k d. P (child_at member_name (text k))) (slice_cmp nat_cmp k l) k l d e ms refl (left_true (P (child_at member_name (text l))) (each P (titles ms)) all)
      (title_of k d ms (right_true (P (child_at member_name (text l))) (each P (titles ms)) all)) at

  pub child_of : (q : Place) (d t : Doc) → each P (children t) ≡ true → child q t ≡ Some d → P (child_at (site_of q) d) ≡ true
  child_of (index n) d (list ds) all at = let z : 0 + n ≡ n = omega arith in subst (λ i. P (child_at (site_of (index i)) d) ≡ true) z (item_of 0 n d ds all at)
  child_of (name k) d (object ms) all at = member_of k d ms (left_true (each P (members_each ms)) (each P (titles ms)) (sym (each_append (members_each ms) (titles ms)) ∙ all)) at
  child_of (name k) d null all at = absurd cc
  child_of (name k) d (boolean b) all at = absurd cc
  child_of (name k) d (int z) all at = absurd cc
  child_of (name k) d (text s) all at = absurd cc
  child_of (name k) d (list ds) all at = absurd cc
  child_of (index n) d null all at = absurd cc
  child_of (index n) d (boolean b) all at = absurd cc
  child_of (index n) d (int z) all at = absurd cc
  child_of (index n) d (text s) all at = absurd cc
  child_of (index n) d (object ms) all at = absurd cc

  pub named_of : (k : List ℕ) (d t : Doc) → each P (children t) ≡ true → child (name k) t ≡ Some d → P (child_at member_name (text k)) ≡ true
  named_of k d (object ms) all at = title_of k d ms (right_true (each P (members_each ms)) (each P (titles ms)) (sym (each_append (members_each ms) (titles ms)) ∙ all)) at
  named_of k d null all at = absurd cc
  named_of k d (boolean b) all at = absurd cc
  named_of k d (int z) all at = absurd cc
  named_of k d (text s) all at = absurd cc
  named_of k d (list ds) all at = absurd cc

-- ---- the order of names

before : (k : String Global) (es : List (String Global × Tree)) → AllByRecursion (λ y. string_cmp k y ≡ Less) (keys_of es) → IsBefore (string_bytes k) (members_view es)
before k [] h = tt
before k (e ∷ es) h = (h.0, before k es h.1)

pub sorted_view : (es : List (String Global × Tree)) → IsStrictlySortedBy string_cmp (keys_of es) → AreSorted (members_view es)
unfolding IsStrictlySortedBy
sorted_view [] h = tt
sorted_view (e ∷ es) h = (before e.0 es h.0, sorted_view es h.1)
