-- Text that is shown.
use Rattle.std.specs.Prelude.{◌≡◌, ◌≢◌, List, ℕ, Option, Result, Ok, Err}
use Rattle.std.specs.Io.KnownBytes.{Appends}
use Rattle.damaged_files.specs.declared.showing.ShowFault.{ShowFault}
use Rattle.damaged_files.specs.declared.showing.ShowFault.TheVariants.{Writer}

-- This text was written. After a fault nothing was, unless it is the writer's.
abbrev pub Shows : {T : Type 0} → Result T ShowFault → List ℕ → Option (List ℕ) → Option (List ℕ) → Type 0
Shows (Ok done) text before after = Appends before after text
Shows (Err fault) text before after = fault ≢ Writer → after ≡ before
