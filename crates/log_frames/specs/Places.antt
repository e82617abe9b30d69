-- The places between a log's frames: which kinds may come there, and that what is read so to the end is a log.
use Rattle.std.specs.Prelude.{◌≡◌, Bool, true, false, IsTrue, Option, None, Some, List, [], ◌∷◌}
use Rattle.log_frames.specs.Kinds.{Logged}
use Rattle.log_frames.specs.Log.{Log, IsInParts, logged_of}
use Rattle.log_frames.specs.declared.kind.Kind.{Kind}
use Rattle.log_frames.specs.declared.kind.Kind.TheVariants.{Last, More, Kept, Noted}
use Rattle.log_frames.specs.declared.place.Place.{Place}
use Rattle.log_frames.specs.declared.place.Place.TheVariants.{Snapshot, Between, Within}

-- the place after a frame of that kind; none if it may not come there
abbrev pub place_after : Place → Kind → Option Place
place_after _ Last = Some Between
place_after _ More = Some Within
place_after Snapshot Kept = Some Snapshot
place_after Between Kept = None
place_after Within Kept = None
place_after Snapshot Noted = Some Snapshot
place_after Between Noted = None
place_after Within Noted = Some Between

-- whether a log may end there
abbrev pub can_end : Place → Bool
can_end Snapshot = true
can_end Between = true
can_end Within = false

-- frames of these may come from the first place on, one after another, and lead to the second
abbrev pub Lead : Place → List Logged → Place → Type 0
Lead from [] to = from ≡ to
Lead from (l ∷ ls) to = (next : Place) × (place_after from l.kind ≡ Some next) × Lead next ls to

-- and they may be the last ones of a log
abbrev pub Complete : Place → List Logged → Type 0
Complete from [] = IsTrue (can_end from)
Complete from (l ∷ ls) = (next : Place) × (place_after from l.kind ≡ Some next) × Complete next ls

-- they are those of a log
pub record OfLog (ls : List Logged) : Type 0 where
  pub log : Log
  pub in_parts : IsInParts log
  pub logged : logged_of log ≡ ls
