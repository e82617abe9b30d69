-- The bytes that a line buffer keeps.
use Rattle.std.specs.Prelude.{◌≡◌, ℕ, ◌<◌, ◌≤◌, true, false, List, length}
use Rattle.protocol.specs.Lines.{is_blank, HasNoBreak}
use Rattle.protocol.specs.declared.limits.TheConstants.{LINE_BYTES}
use Rattle.protocol.specs.declared.line.Line.{Line}

-- the line as it came until now: its bytes while they are within the limit, whether they are over it, whether it is
-- blank
pub record Holds (line : Line) (so_far : List ℕ) : Type 0 where
  pub short : line.long ≡ false → (line.bytes.items ≡ so_far) × (length so_far ≤ LINE_BYTES)
  pub long : line.long ≡ true → LINE_BYTES < length so_far
  pub blank : line.blank ≡ is_blank so_far
  pub whole : HasNoBreak so_far
