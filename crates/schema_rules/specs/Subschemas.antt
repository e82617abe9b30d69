-- The schemas in a schema by themselves, without their locations (JSON Schema Core, sections 4.3 and 10).
use Rattle.std.specs.Prelude.{List, [], ◌∷◌, ◌++◌}
use Rattle.doc_tree.specs.Doc.{Doc, null, boolean, int, text, list, object, Elements, no_elements, element, Members, no_members, member}
use Rattle.schema_rules.specs.Keywords.{keyword_of, shape_of}
use Rattle.schema_rules.specs.Profiles.{offered}
use Rattle.schema_rules.specs.declared.keyword.Shape.{Shape}
use Rattle.schema_rules.specs.declared.keyword.Shape.TheVariants.{One, Several, Named}
use Rattle.schema_rules.specs.declared.profile.Profile.{Profile}
use Rattle.schema_rules.specs.declared.profile.Profile.TheVariants.{Three}

-- those in a value of that shape that a profile offers, in the order of their positions
abbrev mutual
  pub offered_in : Profile → Shape → Doc → List Doc
  offered_in profile One (object ms) = object ms ∷ offered_below profile ms
  offered_in profile One null = null ∷ []
  offered_in profile One (boolean b) = boolean b ∷ []
  offered_in profile One (int z) = int z ∷ []
  offered_in profile One (text s) = text s ∷ []
  offered_in profile One (list ds) = list ds ∷ []
  offered_in profile Several (list ds) = offered_each profile ds
  offered_in profile Named (object ms) = offered_named profile ms
  offered_in profile _ _ = []

  pub offered_each : Profile → Elements → List Doc
  offered_each profile no_elements = []
  offered_each profile (element d ds) = offered_in profile One d ++ offered_each profile ds

  pub offered_named : Profile → Members → List Doc
  offered_named profile no_members = []
  offered_named profile (member k d ms) = offered_in profile One d ++ offered_named profile ms

  -- below a schema object
  pub offered_below : Profile → Members → List Doc
  offered_below profile no_members = []
  offered_below profile (member k v ms) = offered_in profile (shape_of (offered profile (keyword_of k))) v ++ offered_below profile ms

-- the same in the profile that offers all keywords
abbrev pub schemas_in : Shape → Doc → List Doc
schemas_in = offered_in Three

abbrev pub schemas_each : Elements → List Doc
schemas_each = offered_each Three

abbrev pub schemas_named : Members → List Doc
schemas_named = offered_named Three

abbrev pub schemas_below : Members → List Doc
schemas_below = offered_below Three

-- the whole schema and those below it
abbrev pub schemas : Doc → List Doc
schemas root = schemas_in One root
