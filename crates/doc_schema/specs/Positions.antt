-- The schemas in a schema, each with its location (JSON Schema Core, sections 4.3 and 10).
use Rattle.std.specs.Prelude.{ℕ, suc, List, [], ◌∷◌, ◌++◌}
use Rattle.doc_tree.specs.Doc.{Doc, null, boolean, int, text, list, object, Elements, no_elements, element, Members, no_members, member, Place, name, index}
use Rattle.schema_rules.specs.Keywords.{keyword_of, shape_of}
use Rattle.schema_rules.specs.Profiles.{offered}
use Rattle.schema_rules.specs.declared.keyword.Shape.{Shape}
use Rattle.schema_rules.specs.declared.keyword.Shape.TheVariants.{One, Several, Named}
use Rattle.schema_rules.specs.declared.profile.Profile.{Profile}
use Rattle.schema_rules.specs.declared.profile.Profile.TheVariants.{Three}

-- a schema, and its location in the whole one
pub record Position : Type 0 where
  pub location : List Place
  pub schema : Doc

abbrev pub position : List Place → Doc → Position
position here d = record { location = here; schema = d }

-- those in a value of that shape that a profile offers, with the value's location; each before those below it, in the order of members and elements
abbrev mutual
  pub offered_in : Profile → Shape → List Place → Doc → List Position
  offered_in profile One here (object ms) = position here (object ms) ∷ offered_below profile here ms
  offered_in profile One here null = position here null ∷ []
  offered_in profile One here (boolean b) = position here (boolean b) ∷ []
  offered_in profile One here (int z) = position here (int z) ∷ []
  offered_in profile One here (text s) = position here (text s) ∷ []
  offered_in profile One here (list ds) = position here (list ds) ∷ []
  offered_in profile Several here (list ds) = offered_each profile here 0 ds
  offered_in profile Named here (object ms) = offered_named profile here ms
  offered_in profile _ here _ = []

  -- elements, the first of which has the index n
  pub offered_each : Profile → List Place → ℕ → Elements → List Position
  offered_each profile here n no_elements = []
  offered_each profile here n (element d ds) = offered_in profile One (here ++ index n ∷ []) d ++ offered_each profile here (suc n) ds

  pub offered_named : Profile → List Place → Members → List Position
  offered_named profile here no_members = []
  offered_named profile here (member k d ms) = offered_in profile One (here ++ name k ∷ []) d ++ offered_named profile here ms

  -- below a schema object with these members: in the value of each, as its keyword says
  pub offered_below : Profile → List Place → Members → List Position
  offered_below profile here no_members = []
  offered_below profile here (member k v ms) = offered_in profile (shape_of (offered profile (keyword_of k))) (here ++ name k ∷ []) v ++ offered_below profile here ms

-- the whole schema and those below it
abbrev pub offered_positions : Profile → Doc → List Position
offered_positions profile root = offered_in profile One [] root

-- ---- the same in the profile that offers all keywords

abbrev pub positions_in : Shape → List Place → Doc → List Position
positions_in = offered_in Three

abbrev pub positions_each : List Place → ℕ → Elements → List Position
positions_each = offered_each Three

abbrev pub positions_named : List Place → Members → List Position
positions_named = offered_named Three

abbrev pub positions_below : List Place → Members → List Position
positions_below = offered_below Three

abbrev pub positions : Doc → List Position
positions = offered_positions Three
