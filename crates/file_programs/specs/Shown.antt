-- The line that a program shows.
use Rattle.std.specs.Prelude.{◌≡◌, ◌≢◌, List, ℕ, Option, Result, Ok, Err}
use Rattle.std.specs.Io.KnownBytes.{Appends}
use Rattle.file_programs.specs.declared.fault.Fault.{Fault}
use Rattle.file_programs.specs.declared.fault.Fault.TheVariants.{Writer}

-- If a program was done it has written this line. After a fault nothing was written, unless it was the line that can't be written.
abbrev pub Shows : {T : Type 0} → Result T Fault → List ℕ → Option (List ℕ) → Option (List ℕ) → Type 0
Shows (Ok done) line before after = Appends before after line
Shows (Err fault) line before after = fault ≢ Writer → after ≡ before
