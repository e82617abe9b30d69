-- For the clauses within the crate: the fault that a session ends with.
use Rattle.std.specs.Prelude.{Result, Ok, Err, if◌then◌else◌}
use Rattle.damaged_files.specs.declared.showing.ShowFault.{ShowFault}
use Rattle.damaged_files.specs.declared.showing.ShowFault.TheVariants as show
use Rattle.refusals.specs.declared.numbers.TheConstants.{DEVICE}
use Rattle.serve_lines.specs.declared.serving.Served.{Served}
use Rattle.protocol.specs.declared.serve_fault.ServeFault.{ServeFault}
use Rattle.protocol.specs.declared.serve_fault.ServeFault.TheVariants as session
use Rattle.file_programs.specs.Files.{fault_of}
use Rattle.file_programs.specs.declared.fault.Fault.{Fault}
use Rattle.file_programs.specs.declared.fault.Fault.TheVariants as told

-- of a session's end: the session's own fault, or that the device failed
abbrev pub told_of : Result Served ServeFault → Result (Unit {0}) Fault
told_of (Ok served) = if served.broken then Err (fault_of DEVICE) else Ok tt
told_of (Err fault) = Err (told.Session fault)
