-- The number of a child, by the step to it.
use Rattle.std.proofs.Common.{◌≡◌, ◌<◌, ◌+◌, ◌∙◌, ℕ, zero, suc, List, [], ◌∷◌, drop, length, slice_get, Some, option_map, sym, ap, arith}
use Rattle.std.proofs.lemmas.List.{length-take-le}
use Rattle.std.proofs.lemmas.Option.{get_or_from_slice_get, slice_get-map, slice_get_within}
use Rattle.doc_tree.proofs.Members.{get_member-first}
use Rattle.doc_tree.specs.Doc.{Doc, null, boolean, int, text, list, object, Elements, no_elements, element, Members, no_members, member, index, name, child, get_element, get_member}
use Rattle.path_select.specs.Nodes.{Located, Child, child_at, children, element_children, member_children}
use Rattle.path_select.proofs.Indexes.{length-drop_from}
use Rattle.path_select.proofs.Numbered.{child_there}
use Rattle.path_select.specs.Indexed.{HasChildren, children_at, node_at}
use Rattle.path_select.specs.declared.index.Span.{Span}

element_place : (ds : Elements) (n i : ℕ) (d : Doc) → get_element i ds ≡ Some d → slice_get (element_children n ds) i ≡ Some (index (n + i), d)
element_place no_elements n i d is = absurd (cc)
element_place (element e ds) n zero d is = let z : n + 0 ≡ n = omega arith in let same : e ≡ d = cc in ap (λ (k : ℕ). Some (index k, e)) (sym z) ∙ ap (λ (x : Doc). Some (index (n + 0), x)) same
element_place (element e ds) n (suc i) d is = let z : suc n + i ≡ n + suc i = omega arith in element_place ds (suc n) i d is ∙ ap (λ (k : ℕ). Some (index k, d)) z

-- the child at an index stands at its place
pub index_place : (e : Doc) (i : ℕ) (d : Doc) → child (index i) e ≡ Some d → slice_get (children e) i ≡ Some (index i, d)
index_place (list ds) i d is = let z : 0 + i ≡ i = omega arith in element_place ds 0 i d is ∙ ap (λ (k : ℕ). Some (index k, d)) z
index_place null i d is = absurd (cc)
index_place (boolean b) i d is = absurd (cc)
index_place (int z) i d is = absurd (cc)
index_place (text s) i d is = absurd (cc)
index_place (object ms) i d is = absurd (cc)

pub place_within : (us : List Located) (s : Span) (u : Located) (k : ℕ) (c : Child) → HasChildren us s u → slice_get (children u.1) k ≡ Some c → k < s.count
place_within us s u k c h is =
    let at : slice_get (children_at u) k ≡ Some (child_at u.0 c) = slice_get-map (child_at u.0) (children u.1) k ∙ ap (option_map (child_at u.0)) is in
    let d = length-drop_from s.first us (let b = h.0 in omega (arith, b)) in
    let many : length (children_at u) ≡ s.count = sym (ap length h.1) ∙ length-take-le s.count (drop s.first us) (let b = h.0 in omega (arith, b, d)) in
    let w = slice_get_within (children_at u) k (child_at u.0 c) at in
    omega (arith, many, w)

-- the number of the child that stands at a place
pub numbered_place : (root : Doc) (us : List Located) (s : Span) (u : Located) (k : ℕ) (c : Child) → HasChildren us s u → slice_get (children u.1) k ≡ Some c → node_at root us (s.first + k) ≡ child_at u.0 c
numbered_place root us s u k c h is =
    let at : slice_get (children_at u) k ≡ Some (child_at u.0 c) = slice_get-map (child_at u.0) (children u.1) k ∙ ap (option_map (child_at u.0)) is in
    child_there root us s u k h (place_within us s u k c h is) ∙ get_or_from_slice_get (children_at u) k (child_at u.0 c) ([], root) at

-- one member on
pub member_found : (k : List ℕ) (ms rest : Members) (e : Doc) (place : ℕ) (d : Doc) → drop place (member_children ms) ≡ member_children (member k e rest) → get_member k ms ≡ get_member k (member k e rest) → get_member k ms ≡ Some d
    → slice_get (member_children ms) place ≡ Some (name k, d)
member_found k ms rest e place d is same at =
    let there : e ≡ d = let f = get_member-first k e rest in cc in
    first place (member_children ms) (name k, e) (member_children rest) is ∙ ap (λ (x : Doc). Some (name k, x)) there
  where
    first : (j : ℕ) (l : List Child) (x : Child) (r : List Child) → drop j l ≡ x ∷ r → slice_get l j ≡ Some x
    first zero l x r is = ap (λ m. slice_get m 0) is
    first (suc j) [] x r is = absurd (cc)
    first (suc j) (y ∷ l) x r is = first j l x r is

pub drop_once : {A : Type 0} (j : ℕ) (l : List A) (x : A) (r : List A) → drop j l ≡ x ∷ r → drop (j + 1) l ≡ r
drop_once zero l x r is = ap (drop 1) is
drop_once (suc j) [] x r is = absurd (cc)
drop_once (suc j) (y ∷ l) x r is = let e : suc j + 1 ≡ suc (j + 1) = omega arith in ap (λ i. drop i (y ∷ l)) e ∙ drop_once j l x r is

-- no member of that name is left
pub member_none : (k : List ℕ) (ms : Members) (d : Doc) → get_member k ms ≡ get_member k no_members → get_member k ms ≡ Some d → ⊥
member_none k ms d same at = cc
