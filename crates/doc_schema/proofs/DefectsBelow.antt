-- Whether some schema has a defect, a child at a time.
use Rattle.std.proofs.Common.{◌≡◌, ◌<◌, ℕ, suc, length, drop, drop-cons, get_or, Bool, ◌||◌, List, ◌∷◌, sym, ap, ◌∙◌}
use Rattle.std.specs.List.{list_any}
use Rattle.doc_tree.specs.Doc.{Doc, object, Members, member}
use Rattle.doc_tree.specs.TreeView.{view, elements_view}
use Rattle.doc_tree.specs.declared.tree.Tree.{Tree}
use Rattle.schema_rules.specs.Keywords.{keyword_of, shape_of}
use Rattle.schema_rules.specs.Profiles.{offered}
use Rattle.schema_rules.specs.Schemas.{offered_in, offered_each, offered_named, offered_below}
use Rattle.schema_rules.specs.declared.keyword.Shape.{Shape}
use Rattle.schema_rules.specs.declared.keyword.Shape.TheVariants.{One}
use Rattle.schema_rules.specs.declared.profile.Profile.{Profile}
use Rattle.doc_schema.proofs.Anywhere.{any_append}

module _ (profile : Profile) (p : Doc → Bool) where
  -- the i-th element and those behind it
  pub each_next : (i : ℕ) (ts : List Tree) (t : Tree) → i < length ts → t ≡ get_or ts i t
      → list_any p (offered_each profile (elements_view (drop i ts))) ≡ (list_any p (offered_in profile One (view t)) || list_any p (offered_each profile (elements_view (drop (suc i) ts))))
  each_next i ts t less is =
      ap (λ l. list_any p (offered_each profile (elements_view l))) (drop-cons ts i t less ∙ ap (λ x. x ∷ drop (suc i) ts) (sym is))
      ∙ any_append p (offered_in profile One (view t)) (offered_each profile (elements_view (drop (suc i) ts)))

  -- a member of an object of schemas and those behind it
  pub named_next : (ms rest : Members) (k : List ℕ) (d : Doc) → ms ≡ member k d rest → list_any p (offered_named profile ms) ≡ (list_any p (offered_in profile One d) || list_any p (offered_named profile rest))
  named_next ms rest k d is = ap (λ l. list_any p (offered_named profile l)) is ∙ any_append p (offered_in profile One d) (offered_named profile rest)

  -- a member of a schema and those behind it
  pub below_next : (ms rest : Members) (k : List ℕ) (d : Doc) (s : Shape) → s ≡ shape_of (offered profile (keyword_of k)) → ms ≡ member k d rest
      → list_any p (offered_below profile ms) ≡ (list_any p (offered_in profile s d) || list_any p (offered_below profile rest))
  below_next ms rest k d s shape is =
      ap (λ l. list_any p (offered_below profile l)) is ∙ any_append p (offered_in profile (shape_of (offered profile (keyword_of k))) d) (offered_below profile rest) ∙ ap (λ h. list_any p (offered_in profile h d) || list_any p (offered_below profile rest)) (sym shape)

  -- a schema object: itself and those below it
  pub of_one : (s : Shape) (d : Doc) (ms : Members) → s ≡ One → d ≡ object ms → list_any p (offered_in profile s d) ≡ (p d || list_any p (offered_below profile ms))
  of_one s d ms one is = ap (λ h. list_any p (offered_in profile h d)) one ∙ ap (λ x. list_any p (offered_in profile One x)) is ∙ ap (λ x. p x || list_any p (offered_below profile ms)) (sym is)
