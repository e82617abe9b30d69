-- The text of a frame's spot.
use Rattle.std.specs.Prelude.{ℕ, List, ◌++◌, codes, decimal}
use Rattle.damaged_files.specs.declared.damage.Spot.{Spot}

-- its sector and its seq, as members of an object
abbrev pub text_of_spot : Spot → List ℕ
text_of_spot spot = codes "\"sector\":" ++ decimal spot.sector ++ codes ",\"seq\":" ++ decimal spot.seq
