-- Places of changes, and what they say of the document before.
use Rattle.std.specs.Prelude.{map}
use Rattle.doc_tree.specs.Doc.{Doc}
use Rattle.doc_tree.specs.Place.{place_of}
use Rattle.schema_changes.specs.Agree.{AgreeButShifted, AgreeOffEach}
use Rattle.patched_places.specs.declared.places.Changed.{Changed}
use Rattle.patched_places.specs.declared.places.Changed.TheVariants.{Places, Shift}

-- both agree off it
abbrev pub IsChangedAt : Changed → Doc → Doc → Type 0
IsChangedAt (Places places) before made = AgreeOffEach (map (λ p. map place_of p.items) places.items) before made
IsChangedAt (Shift steps) before made = AgreeButShifted (map place_of steps.items) before made
