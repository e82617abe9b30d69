-- The schemas of the positions are those of the schema by themselves.
use Rattle.std.proofs.Common.{◌≡◌, ℕ, suc, List, [], ◌∷◌, ◌++◌, map, refl, ap, ap₂, ◌∙◌}
use Rattle.std.proofs.lemmas.List.{map-append}
use Rattle.doc_tree.specs.Doc.{Doc, null, boolean, int, text, list, object, Elements, no_elements, element, Members, no_members, member, Place, name, index}
use Rattle.schema_rules.specs.Keywords.{keyword_of, shape_of}
use Rattle.schema_rules.specs.Profiles.{offered}
use Rattle.schema_rules.specs.Subschemas as alone
use Rattle.schema_rules.specs.declared.keyword.Shape.{Shape}
use Rattle.schema_rules.specs.declared.keyword.Shape.TheVariants.{One, Several, Named}
use Rattle.schema_rules.specs.declared.profile.Profile.{Profile}
use Rattle.schema_rules.specs.declared.profile.Profile.TheVariants.{Three}
use Rattle.doc_schema.specs.Positions.{Position, positions, offered_in, offered_each, offered_named, offered_below, offered_positions}
use Rattle.doc_schema.specs.Schemas.{schemas}

abbrev pub schema_of : Position → Doc
schema_of p = p.schema

-- of two lists, one after the other
pub two : (xs ys : List Position) (ds es : List Doc) → map schema_of xs ≡ ds → map schema_of ys ≡ es → map schema_of (xs ++ ys) ≡ ds ++ es
two xs ys ds es e f = map-append schema_of xs ys ∙ ap₂ (λ a b. a ++ b) e f

module _ (profile : Profile) where
  mutual
    schemas_are_in : (h : Shape) (here : List Place) (v : Doc) → map schema_of (offered_in profile h here v) ≡ alone.offered_in profile h v
    schemas_are_in One here (object ms) = ap (λ l. object ms ∷ l) (schemas_are_below here ms)
    schemas_are_in One here null = refl
    schemas_are_in One here (boolean b) = refl
    schemas_are_in One here (int z) = refl
    schemas_are_in One here (text s) = refl
    schemas_are_in One here (list ds) = refl
    schemas_are_in Several here (list ds) = schemas_are_each here 0 ds
    schemas_are_in Named here (object ms) = schemas_are_named here ms
    schemas_are_in _ here _ = refl

    schemas_are_each : (here : List Place) (n : ℕ) (ds : Elements) → map schema_of (offered_each profile here n ds) ≡ alone.offered_each profile ds
    schemas_are_each here n no_elements = refl
    schemas_are_each here n (element d ds) = two _ _ _ _ (schemas_are_in One (here ++ index n ∷ []) d) (schemas_are_each here (suc n) ds)

    pub schemas_are_named : (here : List Place) (ms : Members) → map schema_of (offered_named profile here ms) ≡ alone.offered_named profile ms
    schemas_are_named here no_members = refl
    schemas_are_named here (member k d ms) = two _ _ _ _ (schemas_are_in One (here ++ name k ∷ []) d) (schemas_are_named here ms)

    pub schemas_are_below : (here : List Place) (ms : Members) → map schema_of (offered_below profile here ms) ≡ alone.offered_below profile ms
    schemas_are_below here no_members = refl
    schemas_are_below here (member k d ms) = two _ _ _ _ (schemas_are_in (shape_of (offered profile (keyword_of k))) (here ++ name k ∷ []) d) (schemas_are_below here ms)

  pub offered_are : (root : Doc) → map schema_of (offered_positions profile root) ≡ alone.offered_in profile One root
  offered_are root = schemas_are_in One [] root

pub schemas_are : (root : Doc) → map schema_of (positions root) ≡ schemas root
schemas_are root = offered_are Three root
