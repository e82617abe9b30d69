-- For the clauses within the crate: the knowledge of a document on the way through a patch.
use Rattle.std.specs.Prelude.{⊤, List, map, true, Vec}
use Rattle.std.specs.declared.alloc.Global.{Global}
use Rattle.doc_tree.specs.Doc.{Doc, Place}
use Rattle.doc_tree.specs.Place.{place_of}
use Rattle.doc_tree.specs.declared.tree.Step.{Step}
use Rattle.doc_schema.specs.Judge.{Judges}
use Rattle.schema_changes.specs.Agree.{AgreeOffEach}
use Rattle.judged_patches.specs.declared.known.Known.{Known}
use Rattle.judged_patches.specs.declared.known.Known.TheVariants.{Places, Nothing}

-- the locations of these steps
abbrev pub locations : List (Vec Step Global) → List (List Place)
locations places = map (λ p. map place_of p.items) places

-- it agrees off these locations with one that is valid under the schema
abbrev pub AgreesWithValid : List (List Place) → Doc → Doc → Type 0
AgreesWithValid pss schema d = (valid : Doc) × Judges schema valid true × AgreeOffEach pss valid d

-- it does so off the places; or nothing is known
abbrev pub IsKnownOf : Known → Doc → Doc → Type 0
IsKnownOf (Places places) schema d = AgreesWithValid (locations places.items) schema d
IsKnownOf Nothing schema d = ⊤
