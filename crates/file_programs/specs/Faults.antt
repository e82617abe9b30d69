-- The fault that a program ends with.
use Rattle.std.specs.Prelude.{ℕ, List, [], ◌∷◌, ◌++◌, codes, decimal}
use Rattle.damaged_files.specs.declared.showing.ShowFault.{ShowFault}
use Rattle.damaged_files.specs.declared.showing.ShowFault.TheVariants as show
use Rattle.file_device.specs.declared.fault.FileFault.{FileFault}
use Rattle.file_device.specs.declared.fault.FileFault.TheVariants.{InUse, NoSpace, Memory, File}
use Rattle.refusals.specs.Names.{name_of}
use Rattle.protocol.specs.declared.serve_fault.ServeFault.{ServeFault}
use Rattle.protocol.specs.declared.serve_fault.ServeFault.TheVariants as session
use Rattle.file_programs.specs.Files.{fault_of}
use Rattle.file_programs.specs.declared.fault.Fault.{Fault}
use Rattle.file_programs.specs.declared.fault.Fault.TheVariants as told
use Rattle.file_programs.specs.declared.opening.Unopened.{Unopened}
use Rattle.file_programs.specs.declared.opening.Unopened.TheVariants.{NoFile, NoStore}

-- of a file that wasn't made or opened
abbrev pub told_of_file : FileFault → Fault
told_of_file InUse = told.InUse
told_of_file NoSpace = told.NoSpace
told_of_file Memory = told.Memory
told_of_file (File fault) = told.File fault

-- of what is shown of a file that is only read
abbrev pub told_of_show : ShowFault → Fault
told_of_show show.Memory = told.Memory
told_of_show show.Writer = told.Writer

-- of a new file that wasn't made beside the one that was opened
abbrev pub told_of_new : FileFault → Fault
told_of_new (File fault) = told.New fault
told_of_new fault = told_of_file fault

-- of a store that wasn't opened: why there is no file, or the number of the store's refusal
abbrev pub told_of_unopened : Unopened → Fault
told_of_unopened (NoFile fault) = told_of_file fault
told_of_unopened (NoStore fault) = fault_of fault.number

-- the words of a session's fault, and of each
abbrev pub words_of_session : ServeFault → List ℕ
words_of_session session.Reader = codes "reader"
words_of_session session.Writer = codes "writer"
words_of_session session.Turns = codes "turns"
words_of_session session.Memory = codes "memory"

abbrev pub words_of : Fault → List ℕ
words_of (told.File fault) = codes "file"
words_of (told.New fault) = codes "file"
words_of told.InUse = codes "in-use"
words_of told.NoSpace = codes "no-space"
words_of told.Identity = codes "identity"
words_of told.Memory = codes "memory"
words_of (told.Refused refusal) = name_of refusal.number ++ codes " (" ++ decimal refusal.number ++ codes ")"
words_of told.Writer = codes "writer"
words_of (told.Session fault) = words_of_session fault
words_of told.Damage = codes "damage"

-- its line on standard error
abbrev pub line_of_fault : Fault → List ℕ
line_of_fault fault = codes "jpstore: " ++ words_of fault ++ 10 ∷ []
