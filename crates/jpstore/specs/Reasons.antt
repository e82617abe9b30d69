-- The reasons why a file is not made or opened, as a line on standard error.
use Rattle.std.specs.Prelude.{ℕ, List, Bool, Option, Some, None, pos, codes, if◌then◌else◌, option_map}
use Rattle.command_line.specs.Call.{Asked, format, fresh, serve, check, repair, copy, upgrade, mem, deep, salvage, dump}
use Rattle.doc_tree.specs.Doc.{Doc, int, text, object, member, no_members}
use Rattle.file_device.specs.Fault.{word_of}
use Rattle.file_device.specs.declared.fault.SystemFault.{SystemFault}
use Rattle.protocol.specs.Reply.{line_of}
use Rattle.file_programs.specs.declared.fault.Fault.{Fault}
use Rattle.file_programs.specs.declared.fault.Fault.TheVariants as told

-- FILE of a call
abbrev pub file_of : Asked → Option (List ℕ)
file_of (format file sectors version mode sparse identity) = Some file
file_of (fresh file sectors identity) = Some file
file_of (serve file batch pump history strict) = Some file
file_of (check file strict) = Some file
file_of (repair file) = Some file
file_of (copy file new sectors version identity strict) = Some file
file_of (upgrade file version identity strict) = Some file
file_of (mem sectors version history) = None
file_of (deep file) = Some file
file_of (salvage file frames) = Some file
file_of (dump file strict) = Some file

-- NEW of a call
abbrev pub new_of : Asked → Option (List ℕ)
new_of (copy file new sectors version identity strict) = Some new
new_of (format file sectors version mode sparse identity) = None
new_of (fresh file sectors identity) = None
new_of (serve file batch pump history strict) = None
new_of (check file strict) = None
new_of (repair file) = None
new_of (upgrade file version identity strict) = None
new_of (mem sectors version history) = None
new_of (deep file) = None
new_of (salvage file frames) = None
new_of (dump file strict) = None

-- the cause, the system's number of the error, and the path of the file
abbrev pub reason_reply : List ℕ → ℕ → List ℕ → Doc
reason_reply cause errno path = object (member (codes "cause") (text cause) (member (codes "errno") (int (pos errno)) (member (codes "path") (text path) no_members)))

abbrev pub reason_line : SystemFault → List ℕ → List ℕ
reason_line fault path = line_of (reason_reply (word_of fault.cause) fault.errno path)

-- of a fault of a call that is about one of its files
abbrev pub reason_told : Fault → Asked → Option (List ℕ)
reason_told (told.File fault) asked = option_map (reason_line fault) (file_of asked)
reason_told (told.New fault) asked = option_map (reason_line fault) (new_of asked)
reason_told fault asked = None

-- what is said after the words of a fault of a call, if its words ask why
abbrev pub reason_of : Fault → Asked → Bool → Option (List ℕ)
reason_of fault asked why = if why then reason_told fault asked else None
