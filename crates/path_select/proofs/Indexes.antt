-- Spans of children keep while more nodes are listed, and each node gets one.
use Rattle.std.proofs.Common.{zero, ◌≡◌, ◌≤◌, ◌<◌, ◌++◌, ◌+◌, ◌∙◌, ℕ, suc, List, [], ◌∷◌, take, drop, length, length-append, get_or, sym, ap, ap₂, subst, arith, ◌⊎◌, inl, inr}
use Rattle.std.proofs.lemmas.List.{drop-append-le, take-append-le, take-append-drop, length-take-le, length-map, get_or-map, get_or_append_left, get_or_past}
use Rattle.std.proofs.Math.Nat.{eq-or-lt_of_le}
use Rattle.std.proofs.lemmas.Bool.{cases_lt}
use Rattle.std.proofs.Math.Seq.{drop-append_seam, take-length, get_or-append_seam}
use Rattle.doc_tree.specs.Doc.{Doc}
use Rattle.path_select.specs.Nodes.{Located, child_at, children}
use Rattle.path_select.specs.Paths.{seen, spot_of, stand}
use Rattle.path_select.specs.declared.paths.Walk.{Walk}
use Rattle.path_select.specs.declared.paths.Spot.{Spot}
use Rattle.path_select.specs.Indexed.{HasChildren, IsIndexed, children_at, node_at}
use Rattle.path_select.specs.declared.index.Span.{Span}

pub length-drop_from : {A : Type 0} (n : ℕ) (l : List A) → n ≤ length l → n + length (drop n l) ≡ length l
length-drop_from n l h = let k = ap length (take-append-drop n l) in let m = length-append (take n l) (drop n l) in let t = length-take-le n l h in omega (arith, k, m, t)

pub span_grows : (us more : List Located) (s : Span) (u : Located) → HasChildren us s u → HasChildren (us ++ more) s u
span_grows us more s u h =
    let l = length-append us more in
    let k = length-drop_from s.first us (let b = h.0 in omega (arith, b)) in (
      (let b = h.0 in omega (arith, b, l)),
      ap (take s.count) (drop-append-le s.first us more (let b = h.0 in omega (arith, b)))
          ∙ take-append-le s.count (drop s.first us) more (let b = h.0 in omega (arith, b, k)) ∙ h.1,
    )

pub span_new : (us : List Located) (s : Span) (u : Located) → s.first ≡ length us → s.count ≡ length (children_at u) → HasChildren (us ++ children_at u) s u
span_new us s u first count =
    let l = length-append us (children_at u) in (
      omega (arith, first, count, l),
      ap₂ (λ c f. take c (drop f (us ++ children_at u))) count first ∙ ap (take (length (children_at u))) (drop-append_seam us (children_at u)) ∙ take-length (children_at u),
    )

-- the nodes before the number have their spans
abbrev pub Spanned : Doc → List Located → List Span → Span → ℕ → Type 0
Spanned root us spans top number = (n : ℕ) → n < number → HasChildren us (get_or spans n top) (node_at root us n)

module _ (root : Doc) (us more : List Located) (spans : List Span) (top span : Span) (number : ℕ) (spanned : Spanned root us spans top number) (within : number < length us) (many : length spans ≡ number) where
  pub spanned_next : HasChildren (us ++ more) span (node_at root us number) → Spanned root (us ++ more) (spans ++ span ∷ []) top (number + 1)
  spanned_next new n lt = cases (eq-or-lt_of_le (let h = lt in omega (arith, h)))
    where
      same : (k : ℕ) → k < length us → node_at root (us ++ more) k ≡ node_at root us k
      same k h = get_or_append_left us more ([], root) k h

      cases : (n ≡ number) ⊎ (n < number) → HasChildren (us ++ more) (get_or (spans ++ span ∷ []) n top) (node_at root (us ++ more) n)
      cases (inr h) =
          let w = within in
          subst (λ s. HasChildren (us ++ more) s (node_at root (us ++ more) n)) (sym (get_or_append_left spans (span ∷ []) top n (let m = many in omega (arith, h, m))))
          (subst (HasChildren (us ++ more) (get_or spans n top)) (sym (same n (omega (arith, h, w)))) (span_grows us more (get_or spans n top) (node_at root us n) (spanned n h)))
      cases (inl e) =
          let w = within in
          let s : get_or (spans ++ span ∷ []) n top ≡ span = ap (λ k. get_or (spans ++ span ∷ []) k top) (e ∙ sym many) ∙ get_or-append_seam spans span [] top in
          subst (λ x. HasChildren (us ++ more) x (node_at root (us ++ more) n)) (sym s)
          (subst (HasChildren (us ++ more) span) (sym (ap (λ k. node_at root (us ++ more) k) e ∙ same number within)) new)

-- where each node has its span, they are all
pub indexed : (root : Doc) (us : List Located) (spans : List Span) (top : Span) (number : ℕ) → Spanned root us spans top number → length us ≡ number → length spans ≡ number → node_at root us 0 ≡ ([], root) → HasChildren us top ([], root) → IsIndexed root us spans top
indexed root us spans top number spanned all many head first = (head, each)
  where
    each : (n : ℕ) → HasChildren us (get_or spans n top) (node_at root us n)
    each n = cases (cases_lt n number)
      where
        cases : (n < number) ⊎ (number ≤ n) → HasChildren us (get_or spans n top) (node_at root us n)
        cases (inl h) = spanned n h
        cases (inr h) =
            subst (λ s. HasChildren us s (node_at root us n)) (sym (get_or_past spans n top (let m = many in omega (arith, m, h))))
            (subst (HasChildren us top) (sym (get_or_past us n ([], root) (let a = all in omega (arith, a, h)))) first)

-- a node of the list stands in the trail
pub stands_at : (k : ℕ) (ss : List Spot) (n : ℕ) (s : Spot) → stand k ss → n < length ss → s ≡ get_or ss n s → s.place ≤ k
stands_at k [] n s h lt is = absurd (omega (arith, lt))
stands_at k (x ∷ ss) zero s h lt is = subst (λ (y : Spot). y.place ≤ k) (sym is) h.0
stands_at k (x ∷ ss) (suc n) s h lt is = stands_at k ss n s h.1 (omega (arith, lt)) is

pub length-seen : (w : Walk) → length (seen w) ≡ length w.listed.items
length-seen w = length-map w.listed.items (spot_of w.trail.items)

pub length-children : (u : Located) → length (children_at u) ≡ length (children u.1)
length-children u = length-map (children u.1) (child_at u.0)

-- the node of a number, by what the list has there
pub node-listed : (root : Doc) (w : Walk) (n : ℕ) (s : Spot) → n < length w.listed.items → s ≡ get_or w.listed.items n s → node_at root (seen w) n ≡ spot_of w.trail.items s
node-listed root w n s lt is = get_or-map (spot_of w.trail.items) w.listed.items n s ([], root) lt ∙ ap (spot_of w.trail.items) (sym is)
