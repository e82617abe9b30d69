-- The number of the schema of `if` or of `contains` beside a member.
use Rattle.std.proofs.Common.{◌≡◌, ℕ, List, [], ◌∷◌, ◌++◌, map, Bool, true, false, Option, Some, None, option_map, Vec, Global, refl, sym, ap, subst, ◌∙◌, codes, slice_get, if◌then◌else◌}
use Rattle.std.proofs.lemmas.Slice.Eq.{bytes_eq-Decides}
use Rattle.std.specs.Str.{bytes_eq}
use Rattle.doc_tree.specs.Doc.{Doc, Members, no_members, member, get_member}
use Rattle.doc_tree.proofs.Members.{get_member-first, get_member-later}
use Rattle.schema_graph.specs.Orders.{at}
use Rattle.schema_graph.specs.Walks.{In, first, later}
use Rattle.schema_graph.proofs.Among.{In-left, In-right, none_in}
use Rattle.schema_rules.specs.Keywords.{keyword_of, shape_of}
use Rattle.schema_rules.specs.Schemas.{held_in}
use Rattle.schema_rules.specs.declared.keyword.Keyword.TheVariants as keywords
use Rattle.schema_nodes.specs.declared.targets.Targets.{Targets}
use Rattle.schema_nodes.specs.Edges.{edges_at, edges_in}
use Rattle.schema_nodes.specs.Fits.{single_number, if_found, row_named}
use Rattle.schema_nodes.specs.Nodes.{Finds, HaveRows, Moved, AreMoved}
use Rattle.schema_nodes.proofs.KeywordNames.{contains_is, if_is}

-- ---- the row of a member that is one schema

row_one : (schema : ℕ → Doc) (n : List ℕ) (ms : Members) (rows : List (Vec ℕ Global)) (d : Doc) → ((v : Doc) → held_in (shape_of (keyword_of n)) v ≡ v ∷ []) → HaveRows schema ms rows → get_member n ms ≡ Some d → map schema (row_named n ms rows) ≡ d ∷ []
row_one schema n no_members [] d s h g = absurd cc
row_one schema n no_members (row ∷ rows) d s h g = absurd h
row_one schema n (member k v ms) [] d s h g = absurd h
row_one schema n (member k v ms) (row ∷ rows) d s h g = by_name (bytes_eq k n) refl (λ f. row_one schema n ms rows d s h.1 f)
  where
    by_name : (b : Bool) → bytes_eq k n ≡ b → (get_member n ms ≡ Some d → map schema (row_named n ms rows) ≡ d ∷ []) → map schema (if b then row.items else row_named n ms rows) ≡ d ∷ []
    by_name true e rest =
        let same : k ≡ n = (bytes_eq-Decides k n).0 e in
        let found : Some v ≡ Some d = sym (get_member-first k v ms) ∙ ap (λ x. get_member x (member k v ms)) same ∙ g in
        let is : v ≡ d = cc in
        h.0 ∙ ap (λ x. held_in (shape_of (keyword_of x)) v) same ∙ s v ∙ ap (λ x. x ∷ []) is
    by_name false e rest = rest (sym (get_member-later n k v ms (λ (same : n ≡ k). (let t = (bytes_eq-Decides k n).1 (sym same) in absurd cc))) ∙ g)

pub if_held : (v : Doc) → held_in (shape_of (keyword_of (codes "if"))) v ≡ v ∷ []
if_held v = ap (λ k. held_in (shape_of k) v) if_is

pub contains_held : (v : Doc) → held_in (shape_of (keyword_of (codes "contains"))) v ≡ v ∷ []
contains_held v = ap (λ k. held_in (shape_of k) v) contains_is

first_found : (schema : ℕ → Doc) (row : List ℕ) (d : Doc) → map schema row ≡ d ∷ [] → option_map schema (slice_get row 0) ≡ Some d
first_found schema [] d e = absurd cc
first_found schema (c ∷ row) d e = let is : schema c ≡ d = cc in ap (λ x. Some x) is

-- it is that of the schema that stands there
pub single_is : (schema : ℕ → Doc) (n : List ℕ) (ms : Members) (rows : List (Vec ℕ Global)) → ((v : Doc) → held_in (shape_of (keyword_of n)) v ≡ v ∷ []) → HaveRows schema ms rows → Finds schema (single_number n ms rows) (get_member n ms)
single_is schema n ms rows held h = by_member (get_member n ms) refl
  where
    by_member : (o : Option Doc) → get_member n ms ≡ o → option_map schema (if_found o (slice_get (row_named n ms rows) 0)) ≡ o
    by_member None e = refl
    by_member (Some d) e = first_found schema (row_named n ms rows) d (row_one schema n ms rows d held h e)

-- ---- it is the rank of a number to which the object leads

from_row : (ranks row js : List ℕ) (j : ℕ) → Moved ranks row js → In j js → (c : ℕ) × In c row × (at ranks c ≡ j)
from_row ranks [] [] j m i = none_in j i
from_row ranks (c ∷ row) (k ∷ js) _ m first = (c, first, sym m.0)
from_row ranks (c ∷ row) (k ∷ js) j m (later i) = let r = from_row ranks row js j m.1 i in (r.0, later r.1, r.2)
from_row ranks [] (k ∷ js) j m i = absurd m
from_row ranks (c ∷ row) [] j m i = none_in j i

in_found : (o : Option Doc) (row : List ℕ) (j : ℕ) → if_found o (slice_get row 0) ≡ Some j → In j row
in_found None row j e = absurd cc
in_found (Some d) [] j e = absurd cc
in_found (Some d) (c ∷ row) j e = let is : c ≡ j = cc in subst (λ x. In x (c ∷ row)) is first

-- it is a rank of a number in some row
pub single_rank : (ranks : List ℕ) (n : List ℕ) (ms : Members) (rows moved : List (Vec ℕ Global)) → AreMoved ranks rows moved → (j : ℕ) → single_number n ms moved ≡ Some j → (row : Vec ℕ Global) × In row rows × ((c : ℕ) × In c row.items × (at ranks c ≡ j))
single_rank ranks n ms rows moved m j e = of_rows ms rows moved m (in_found (get_member n ms) (row_named n ms moved) j e)
  where
    of_rows : (ss : Members) (rs ks : List (Vec ℕ Global)) → AreMoved ranks rs ks → In j (row_named n ss ks) → (row : Vec ℕ Global) × In row rs × ((c : ℕ) × In c row.items × (at ranks c ≡ j))
    of_rows no_members rs ks h i = none_in j i
    of_rows (member k v ss) rs [] h i = none_in j i
    of_rows (member k v ss) [] (js ∷ ks) h i = absurd h
    of_rows (member k v ss) (row ∷ rs) (js ∷ ks) h i = by_test (bytes_eq k n) i (λ at_last. of_rows ss rs ks h.1 at_last)
      where
        by_test : (b : Bool) → In j (if b then js.items else row_named n ss ks) → (In j (row_named n ss ks) → (r : Vec ℕ Global) × In r rs × ((c : ℕ) × In c r.items × (at ranks c ≡ j))) → (r : Vec ℕ Global) × In r (row ∷ rs) × ((c : ℕ) × In c r.items × (at ranks c ≡ j))
        by_test true at_here rest = (row, first, from_row ranks row.items js.items j h.0 at_here)
        by_test false at_later rest = let r = rest at_later in (r.0, later r.1, r.2)

module _ (ts : Targets) (ranks : List ℕ) (root : Doc) where
  edge_of_row : (n : List ℕ) → keyword_of n ≡ keywords.If → (ms : Members) (rows moved : List (Vec ℕ Global)) → AreMoved ranks rows moved → (j : ℕ) → In j (row_named n ms moved) → (c : ℕ) × In c (edges_in ts root ms rows) × (at ranks c ≡ j)
  edge_of_row n is no_members rows moved m j i = none_in j i
  edge_of_row n is (member k v ms) rows [] m j i = none_in j i
  edge_of_row n is (member k v ms) [] (js ∷ moved) m j i = absurd m
  edge_of_row n is (member k v ms) (row ∷ rows) (js ∷ moved) m j i = by_name (bytes_eq k n) refl i (λ x. edge_of_row n is ms rows moved m.1 j x)
    where
      by_name : (b : Bool) → bytes_eq k n ≡ b → In j (if b then js.items else row_named n ms moved) → (In j (row_named n ms moved) → (c : ℕ) × In c (edges_in ts root ms rows) × (at ranks c ≡ j))
          → (c : ℕ) × In c (edges_at ts root (keyword_of k) v row.items ++ edges_in ts root ms rows) × (at ranks c ≡ j)
      by_name true e x rest =
          let same : k ≡ n = (bytes_eq-Decides k n).0 e in
          let keyword : keyword_of k ≡ keywords.If = ap keyword_of same ∙ is in
          let r = from_row ranks row.items js.items j m.0 x in
          (r.0, In-left r.0 _ _ (subst (λ w. In r.0 (edges_at ts root w v row.items)) (sym keyword) r.1), r.2)
      by_name false e x rest = let r = rest x in (r.0, In-right r.0 (edges_at ts root (keyword_of k) v row.items) _ r.1, r.2)

  pub condition_edge : (ms : Members) (rows moved : List (Vec ℕ Global)) → AreMoved ranks rows moved → (j : ℕ) → single_number (codes "if") ms moved ≡ Some j → (c : ℕ) × In c (edges_in ts root ms rows) × (at ranks c ≡ j)
  condition_edge ms rows moved m j e = edge_of_row (codes "if") if_is ms rows moved m j (in_found (get_member (codes "if") ms) (row_named (codes "if") ms moved) j e)
