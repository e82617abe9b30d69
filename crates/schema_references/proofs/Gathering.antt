-- The anchors of schemas, a child at a time.
use Rattle.std.proofs.Common.{◌≡◌, ◌<◌, ◌+◌, ℕ, suc, length, drop, drop-cons, get_or, List, ◌∷◌, ◌++◌, [], append-nil, append_assoc, refl, sym, ap, ◌∙◌, arith}
use Rattle.std.specs.Option.{option_to_list}
use Rattle.doc_tree.specs.Doc.{Doc, object, Members, member}
use Rattle.doc_tree.specs.TreeView.{view, elements_view}
use Rattle.doc_tree.specs.declared.tree.Tree.{Tree}
use Rattle.schema_rules.specs.Anchors.{anchor_of, anchors_of}
use Rattle.schema_rules.specs.Keywords.{keyword_of, shape_of}
use Rattle.schema_rules.specs.Schemas.{schemas_in, schemas_each, schemas_named, schemas_below}
use Rattle.schema_rules.specs.declared.keyword.Shape.{Shape}
use Rattle.schema_rules.specs.declared.keyword.Shape.TheVariants.{One}

pub nothing_added : (xs : List (List ℕ)) → xs ≡ (xs ++ [])
nothing_added xs = sym (append-nil xs)

-- a part of what is left is added to what was found
pub added : (now next part rest left all : List (List ℕ)) → next ≡ now ++ part → left ≡ part ++ rest → (now ++ left) ≡ all → (next ++ rest) ≡ all
added now next part rest left all e f h = ap (λ l. l ++ rest) e ∙ append_assoc now part rest ∙ sym (ap (λ l. now ++ l) f) ∙ h

-- two parts, one after the other
pub joined : (before one two first second all : List (List ℕ)) → one ≡ before ++ first → two ≡ one ++ second → all ≡ first ++ second → two ≡ before ++ all
joined before one two first second all e f g = f ∙ ap (λ l. l ++ second) e ∙ append_assoc before first second ∙ sym (ap (λ l. before ++ l) g)

anchors_append : (xs ys : List Doc) → anchors_of (xs ++ ys) ≡ anchors_of xs ++ anchors_of ys
anchors_append [] ys = refl
anchors_append (d ∷ xs) ys = ap (λ l. option_to_list (anchor_of d) ++ l) (anchors_append xs ys) ∙ sym (append_assoc (option_to_list (anchor_of d)) (anchors_of xs) (anchors_of ys))

-- the i-th element and those after it
pub each_left : (i : ℕ) (ts : List Tree) (t : Tree) → i < length ts → t ≡ get_or ts i t
    → anchors_of (schemas_each (elements_view (drop i ts))) ≡ anchors_of (schemas_in One (view t)) ++ anchors_of (schemas_each (elements_view (drop (i + 1) ts)))
each_left i ts t less is =
    let one : suc i ≡ i + 1 = omega arith in
    ap (λ l. anchors_of (schemas_each (elements_view l))) (drop-cons ts i t less ∙ ap (λ x. x ∷ drop (suc i) ts) (sym is))
    ∙ anchors_append (schemas_in One (view t)) (schemas_each (elements_view (drop (suc i) ts)))
    ∙ ap (λ n. anchors_of (schemas_in One (view t)) ++ anchors_of (schemas_each (elements_view (drop n ts)))) one

-- a member of an object of schemas and those after it
pub named_left : (ms rest : Members) (k : List ℕ) (d : Doc) → ms ≡ member k d rest → anchors_of (schemas_named ms) ≡ anchors_of (schemas_in One d) ++ anchors_of (schemas_named rest)
named_left ms rest k d is = ap (λ l. anchors_of (schemas_named l)) is ∙ anchors_append (schemas_in One d) (schemas_named rest)

-- a member of a schema and those after it
pub below_left : (ms rest : Members) (k : List ℕ) (d : Doc) (s : Shape) → s ≡ shape_of (keyword_of k) → ms ≡ member k d rest
    → anchors_of (schemas_below ms) ≡ anchors_of (schemas_in s d) ++ anchors_of (schemas_below rest)
below_left ms rest k d s shape is =
    ap (λ l. anchors_of (schemas_below l)) is ∙ anchors_append (schemas_in (shape_of (keyword_of k)) d) (schemas_below rest)
    ∙ ap (λ h. anchors_of (schemas_in h d) ++ anchors_of (schemas_below rest)) (sym shape)

-- a schema object: its own anchor, and those below it
pub of_one : (s : Shape) (d : Doc) (ms : Members) → s ≡ One → d ≡ object ms → anchors_of (schemas_in s d) ≡ option_to_list (anchor_of d) ++ anchors_of (schemas_below ms)
of_one s d ms one is =
    ap (λ h. anchors_of (schemas_in h d)) one ∙ ap (λ x. anchors_of (schemas_in One x)) is ∙ ap (λ x. option_to_list (anchor_of x) ++ anchors_of (schemas_below ms)) (sym is)
