-- The exits of programs, and their lines on standard error.
use Rattle.std.specs.Prelude.{◌≡◌, ◌⊎◌, ◌++◌, ℕ, List, [], Bool, true, Option, None, Result, Ok, Err, IfSome, unwrap_or}
use Rattle.std.specs.declared.snapshot.Snapshot.{Snapshot}
use Rattle.std.specs.Io.KnownBytes.{Appends}
use Rattle.command_line.specs.Call.{Asked, InRange, IsRowOf}
use Rattle.command_line.specs.Options.{IsNoCall}
use Rattle.sector_device.specs.declared.history.Held.{Held}
use Rattle.jpstore.specs.Calls.{Does, end_of, note_in}
use Rattle.file_programs.specs.Faults.{line_of_fault}
use Rattle.jpstore.specs.Reasons.{reason_of}
use Rattle.file_programs.specs.declared.fault.Fault.{Fault}
use Rattle.file_programs.specs.declared.fault.Fault.TheVariants.{Memory}
use Rattle.jpstore.specs.declared.kept.Exit.{Exit}
use Rattle.jpstore.specs.declared.kept.Performed.{Performed}

-- what is said of a fault: its line, and after it why, if that was asked
abbrev pub said_of : Fault → Asked → Bool → List ℕ
said_of fault asked why = line_of_fault fault ++ unwrap_or (reason_of fault asked why) []

-- A program that was done exits with 0, and says only what it had to say of the slots. One that met a fault exits with 1, and says the fault after that, if all of it can be written.
abbrev pub Exits : Result (Unit {0}) Fault → List ℕ → Asked → Bool → Exit → Option (List ℕ) → Option (List ℕ) → Type 0
Exits (Ok done) note asked why exit before after = (exit.status ≡ 0) × (exit.said ≡ true → Appends before after note) × (note ≡ [] → after ≡ before)
Exits (Err fault) note asked why exit before after = (exit.status ≡ 1) × (exit.said ≡ true → Appends before after (note ++ said_of fault asked why))

-- memory ran out before the words were read: nothing was written, and that is said, if it can be written
abbrev pub LacksMemory : Exit → Option (List ℕ) → Option (List ℕ) → Option (List ℕ) → Option (List ℕ) → Type 0
LacksMemory exit before after said said_new = (exit.status ≡ 1) × (after ≡ before) × (exit.said ≡ true → Appends said said_new (line_of_fault Memory))

-- What the words made of a file that held this, of what there was to read, and of what was written and said before. Words that are a call's row have the call
-- done; for words that are no call the program exits with 2, and writes nothing; for both memory may run out first. Without a call nothing is read.
pub record Performs (held : Snapshot Held) (words : List (List ℕ)) (performed : Performed) (left left_new before after said said_new : Option (List ℕ)) : Type 0 where
  pub call : (asked : Asked) (why : Bool) → InRange asked → IsRowOf words asked why → IfSome performed.kept (λ kept.
      Does held asked kept left left_new before after × Exits (end_of kept) (note_in kept) asked why performed.exit said said_new)
  pub lacks : (asked : Asked) (why : Bool) → InRange asked → IsRowOf words asked why → performed.kept ≡ None → LacksMemory performed.exit before after said said_new
  pub no_call : IsNoCall words → (performed.kept ≡ None) × (((performed.exit.status ≡ 2) × (after ≡ before)) ⊎ LacksMemory performed.exit before after said said_new)
  pub unread : performed.kept ≡ None → left_new ≡ left
