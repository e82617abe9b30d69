-- Nodes by their numbers: the children of a node, and what stands below it.
use Rattle.std.proofs.Common.{◌≡◌, ◌<◌, ◌≤◌, ◌++◌, ◌+◌, ◌∙◌, ℕ, zero, suc, List, [], ◌∷◌, map, flat_map, take, drop, length, get_or, refl, sym, ap, ap₂, arith, append_assoc, append-nil, subst}
use Rattle.std.proofs.lemmas.List.{drop_all, get_or-drop, get_or-take, length-take-le, map-append}
use Rattle.std.proofs.Math.Seq.{take-suc}
use Rattle.doc_tree.specs.Doc.{Doc, null, boolean, int, text, list, object, Elements, no_elements, element, Members, no_members, member, Place, index, name, height, elements_height, members_height}
use Rattle.path_select.specs.Nodes.{Located, beneath, child_at, children, descendants, element_children, element_descendants, member_children, member_descendants, under}
use Rattle.path_select.proofs.Trails.{drop_next}
use Rattle.path_select.proofs.Indexes.{length-drop_from}
use Rattle.path_select.specs.Indexed.{HasChildren, children_at, node_at, nodes_at}
use Rattle.path_select.specs.declared.index.Span.{Span}

-- one number more
pub children_next : (root : Doc) (us : List Located) (s : Span) (u : Located) (found : List ℕ) (k : ℕ) → HasChildren us s u → k < s.count
    → nodes_at root us found ≡ take k (drop s.first us) → nodes_at root us (found ++ (s.first + k) ∷ []) ≡ take (k + 1) (drop s.first us)
children_next root us s u found k h lt so_far =
    let e : k + 1 ≡ suc k = omega arith in
    let d = length-drop_from s.first us (let b = h.0 in omega (arith, b)) in
    map-append (node_at root us) found ((s.first + k) ∷ [])
    ∙ ap₂ (λ (a : List Located) (n : Located). a ++ n ∷ []) so_far (sym (get_or-drop s.first us k ([], root)))
    ∙ sym (take-suc (drop s.first us) k ([], root) (let b = h.0 in omega (arith, b, d, lt)))
    ∙ ap (λ j. take j (drop s.first us)) (sym e)

-- the node at a place of a span
pub child_there : (root : Doc) (us : List Located) (s : Span) (u : Located) (k : ℕ) → HasChildren us s u → k < s.count → node_at root us (s.first + k) ≡ get_or (children_at u) k ([], root)
child_there root us s u k h lt =
    sym (get_or-drop s.first us k ([], root)) ∙ sym (get_or-take s.count (drop s.first us) k ([], root) lt) ∙ ap (λ l. get_or l k ([], root)) h.1

pub beneath-under : (p : List Place) (s : Place) (us : List Located) → map (beneath p) (map (under s) us) ≡ map (beneath (p ++ s ∷ [])) us
beneath-under p s [] = refl
beneath-under p s (u ∷ us) = ap₂ (λ (q : List Place) (vs : List Located). (q, u.1) ∷ vs) (sym (append_assoc p (s ∷ []) u.0)) (beneath-under p s us)

-- a node, and what stands below it: each child, and what stands below it
abbrev pub below_of : Located → List Located
below_of u = map (beneath u.0) (descendants u.1)

elements_family : (p : List Place) (n : ℕ) (ds : Elements) → map (beneath p) (element_descendants n ds) ≡ flat_map below_of (map (child_at p) (element_children n ds))
elements_family p n no_elements = refl
elements_family p n (element d ds) =
    map-append (beneath p) (map (under (index n)) (descendants d)) (element_descendants (suc n) ds)
    ∙ ap₂ (λ (a : List Located) (b : List Located). a ++ b) (beneath-under p (index n) (descendants d)) (elements_family p (suc n) ds)

members_family : (p : List Place) (ms : Members) → map (beneath p) (member_descendants ms) ≡ flat_map below_of (map (child_at p) (member_children ms))
members_family p no_members = refl
members_family p (member k d ms) =
    map-append (beneath p) (map (under (name k)) (descendants d)) (member_descendants ms)
    ∙ ap₂ (λ (a : List Located) (b : List Located). a ++ b) (beneath-under p (name k) (descendants d)) (members_family p ms)

family-of : (p : List Place) (d : Doc) → map (beneath p) (descendants d) ≡ (p, d) ∷ flat_map below_of (map (child_at p) (children d))
family-of p null = ap (λ (q : List Place). (q, null) ∷ []) (append-nil p)
family-of p (boolean b) = ap (λ (q : List Place). (q, boolean b) ∷ []) (append-nil p)
family-of p (int z) = ap (λ (q : List Place). (q, int z) ∷ []) (append-nil p)
family-of p (text s) = ap (λ (q : List Place). (q, text s) ∷ []) (append-nil p)
family-of p (list ds) = ap₂ (λ (q : List Place) (us : List Located). (q, list ds) ∷ us) (append-nil p) (elements_family p 0 ds)
family-of p (object ms) = ap₂ (λ (q : List Place) (us : List Located). (q, object ms) ∷ us) (append-nil p) (members_family p ms)

pub family : (u : Located) → below_of u ≡ u ∷ flat_map below_of (children_at u)
family u = family-of u.0 u.1

-- one child more, with what stands below it
pub below_next : (root : Doc) (us : List Located) (s : Span) (u : Located) (k : ℕ) (all more : List Located) (total : List Located) → HasChildren us s u → k < s.count
    → all ++ flat_map below_of (drop k (children_at u)) ≡ total → more ≡ all ++ below_of (node_at root us (s.first + k)) → more ++ flat_map below_of (drop (k + 1) (children_at u)) ≡ total
below_next root us s u k all more total h lt so_far is =
    let d = length-drop_from s.first us (let b = h.0 in omega (arith, b)) in
    let many : length (children_at u) ≡ s.count = sym (ap length h.1) ∙ length-take-le s.count (drop s.first us) (let b = h.0 in omega (arith, b, d)) in
    let rest = flat_map below_of (drop (k + 1) (children_at u)) in
    let here : drop k (children_at u) ≡ node_at root us (s.first + k) ∷ drop (k + 1) (children_at u) = drop_next (children_at u) k (node_at root us (s.first + k)) (omega (arith, many, lt)) (child_there root us s u k h lt ∙ same k (children_at u) (omega (arith, many, lt))) in
    ap (λ l. l ++ rest) is ∙ append_assoc all (below_of (node_at root us (s.first + k))) rest ∙ ap (λ l. all ++ flat_map below_of l) (sym here) ∙ so_far
  where
    same : (j : ℕ) (l : List Located) → j < length l → get_or l j ([], root) ≡ get_or l j (node_at root us (s.first + k))
    same j [] lt = absurd (omega (arith, lt))
    same zero (x ∷ l) lt = refl
    same (suc j) (x ∷ l) lt = same j l (omega (arith, lt))

-- all children are done
pub below_done : (us : List Located) (s : Span) (u : Located) (k : ℕ) (all total : List Located) → HasChildren us s u → s.count ≤ k → all ++ flat_map below_of (drop k (children_at u)) ≡ total → all ≡ total
below_done us s u k all total h le so_far =
    let d = length-drop_from s.first us (let b = h.0 in omega (arith, b)) in
    let many : length (children_at u) ≡ s.count = sym (ap length h.1) ∙ length-take-le s.count (drop s.first us) (let b = h.0 in omega (arith, b, d)) in
    sym (append-nil all) ∙ ap (λ l. all ++ flat_map below_of l) (sym (drop_all k (children_at u) (omega (arith, many, le)))) ∙ so_far

-- ---- a child is less high than its node

elements_low : (p : List Place) (n : ℕ) (ds : Elements) (k : ℕ) (z : Located) → k < length (map (child_at p) (element_children n ds)) → height (get_or (map (child_at p) (element_children n ds)) k z).1 ≤ elements_height ds
elements_low p n no_elements k z lt = absurd (omega (arith, lt))
elements_low p n (element d ds) zero z lt = omega arith
elements_low p n (element d ds) (suc k) z lt = let low = elements_low p (suc n) ds k z (omega (arith, lt)) in omega (arith, low)

members_low : (p : List Place) (ms : Members) (k : ℕ) (z : Located) → k < length (map (child_at p) (member_children ms)) → height (get_or (map (child_at p) (member_children ms)) k z).1 ≤ members_height ms
members_low p no_members k z lt = absurd (omega (arith, lt))
members_low p (member l d ms) zero z lt = omega arith
members_low p (member l d ms) (suc k) z lt = let low = members_low p ms k z (omega (arith, lt)) in omega (arith, low)

low : (p : List Place) (d : Doc) (k : ℕ) (z : Located) → k < length (children_at (p, d)) → height (get_or (children_at (p, d)) k z).1 < height d
low p (list ds) k z lt = let h = elements_low p 0 ds k z lt in omega (arith, h)
low p (object ms) k z lt = let h = members_low p ms k z lt in omega (arith, h)
low p _ k z lt = absurd (omega (arith, lt))

pub child_low : (root : Doc) (us : List Located) (s : Span) (u : Located) (k : ℕ) → HasChildren us s u → k < s.count → height (node_at root us (s.first + k)).1 < height u.1
child_low root us s u k h lt =
    let d = length-drop_from s.first us (let b = h.0 in omega (arith, b)) in
    let many : length (children_at u) ≡ s.count = sym (ap length h.1) ∙ length-take-le s.count (drop s.first us) (let b = h.0 in omega (arith, b, d)) in
    subst (λ (v : Located). height v.1 < height u.1) (sym (child_there root us s u k h lt)) (low u.0 u.1 k ([], root) (omega (arith, many, lt)))
