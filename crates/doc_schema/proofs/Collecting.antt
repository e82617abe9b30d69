-- The texts of patterns, a child at a time.
use Rattle.std.proofs.Common.{◌≡◌, ◌<◌, ◌+◌, ℕ, suc, length, drop, drop-cons, get_or, List, ◌∷◌, ◌++◌, [], append-nil, append_assoc, refl, sym, ap, ◌∙◌, arith}
use Rattle.doc_tree.specs.Doc.{Doc, object, Members, member}
use Rattle.doc_tree.specs.TreeView.{view, elements_view}
use Rattle.doc_tree.specs.declared.tree.Tree.{Tree}
use Rattle.schema_rules.specs.Keywords.{keyword_of, shape_of}
use Rattle.schema_rules.specs.Parts.{members_in}
use Rattle.schema_rules.specs.PatternTexts.{texts_by, texts_in, texts_of}
use Rattle.schema_rules.specs.Profiles.{offered}
use Rattle.schema_rules.specs.Schemas.{offered_in, offered_each, offered_named, offered_below}
use Rattle.schema_rules.specs.declared.keyword.Keyword.{Keyword}
use Rattle.schema_rules.specs.declared.keyword.Shape.{Shape}
use Rattle.schema_rules.specs.declared.keyword.Shape.TheVariants.{One}
use Rattle.schema_rules.specs.declared.profile.Profile.{Profile}

pub nothing_added : (xs : List (List ℕ)) → xs ≡ (xs ++ [])
nothing_added xs = sym (append-nil xs)

-- a part of what is left is added to what was found
pub added : (now next part rest left all : List (List ℕ)) → next ≡ now ++ part → left ≡ part ++ rest → (now ++ left) ≡ all → (next ++ rest) ≡ all
added now next part rest left all e f h = ap (λ l. l ++ rest) e ∙ append_assoc now part rest ∙ sym (ap (λ l. now ++ l) f) ∙ h

-- two parts, one after the other
pub joined : (before one two first second all : List (List ℕ)) → one ≡ before ++ first → two ≡ one ++ second → all ≡ first ++ second → two ≡ before ++ all
joined before one two first second all e f g = f ∙ ap (λ l. l ++ second) e ∙ append_assoc before first second ∙ sym (ap (λ l. before ++ l) g)

module _ (profile : Profile) where
  texts_append : (xs ys : List Doc) → texts_in profile (xs ++ ys) ≡ texts_in profile xs ++ texts_in profile ys
  texts_append [] ys = refl
  texts_append (d ∷ xs) ys = ap (λ l. texts_by profile (members_in d) ++ l) (texts_append xs ys) ∙ sym (append_assoc (texts_by profile (members_in d)) (texts_in profile xs) (texts_in profile ys))

  -- the i-th element and those behind it
  pub each_left : (i : ℕ) (ts : List Tree) (t : Tree) → i < length ts → t ≡ get_or ts i t
      → texts_in profile (offered_each profile (elements_view (drop i ts))) ≡ texts_in profile (offered_in profile One (view t)) ++ texts_in profile (offered_each profile (elements_view (drop (i + 1) ts)))
  each_left i ts t less is =
      let one : suc i ≡ i + 1 = omega arith in
      ap (λ l. texts_in profile (offered_each profile (elements_view l))) (drop-cons ts i t less ∙ ap (λ x. x ∷ drop (suc i) ts) (sym is))
      ∙ texts_append (offered_in profile One (view t)) (offered_each profile (elements_view (drop (suc i) ts)))
      ∙ ap (λ n. texts_in profile (offered_in profile One (view t)) ++ texts_in profile (offered_each profile (elements_view (drop n ts)))) one

  -- a member of an object of schemas and those behind it
  pub named_left : (ms rest : Members) (k : List ℕ) (d : Doc) → ms ≡ member k d rest → texts_in profile (offered_named profile ms) ≡ texts_in profile (offered_in profile One d) ++ texts_in profile (offered_named profile rest)
  named_left ms rest k d is = ap (λ l. texts_in profile (offered_named profile l)) is ∙ texts_append (offered_in profile One d) (offered_named profile rest)

  -- a member of a schema and those behind it
  pub below_left : (ms rest : Members) (k : List ℕ) (d : Doc) (s : Shape) → s ≡ shape_of (offered profile (keyword_of k)) → ms ≡ member k d rest
      → texts_in profile (offered_below profile ms) ≡ texts_in profile (offered_in profile s d) ++ texts_in profile (offered_below profile rest)
  below_left ms rest k d s shape is =
      ap (λ l. texts_in profile (offered_below profile l)) is ∙ texts_append (offered_in profile (shape_of (offered profile (keyword_of k))) d) (offered_below profile rest)
      ∙ ap (λ h. texts_in profile (offered_in profile h d) ++ texts_in profile (offered_below profile rest)) (sym shape)

  -- the same of its own texts
  pub by_left : (ms rest : Members) (k : List ℕ) (d : Doc) (w : Keyword) → w ≡ offered profile (keyword_of k) → ms ≡ member k d rest → texts_by profile ms ≡ texts_of w d ++ texts_by profile rest
  by_left ms rest k d w keyword is = ap (texts_by profile) is ∙ ap (λ x. texts_of x d ++ texts_by profile rest) (sym keyword)

  -- a schema object: its own texts, and those below it
  pub of_one : (s : Shape) (d : Doc) (ms : Members) → s ≡ One → d ≡ object ms → texts_in profile (offered_in profile s d) ≡ texts_by profile ms ++ texts_in profile (offered_below profile ms)
  of_one s d ms one is = ap (λ h. texts_in profile (offered_in profile h d)) one ∙ ap (λ x. texts_in profile (offered_in profile One x)) is
