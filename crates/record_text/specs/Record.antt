-- The documents that are a command's object.
use Rattle.std.specs.Prelude.{◌≡◌, Option, None, Some, Result, Ok, Err, ⊤}
use Rattle.doc_tree.specs.Doc.{Doc}
use Rattle.record_text.specs.Change.{Change, change_of, object_of, AsksNone}
use Rattle.record_text.specs.declared.command.Command.{Command}
use Rattle.record_text.specs.declared.fault.RecordFault.{RecordFault}
use Rattle.record_text.specs.declared.fault.RecordFault.TheVariants.{Shape, Memory}

-- it is the object of no change
abbrev pub IsNoCommand : Doc → Type 0
IsNoCommand d = (c : Change) → d ≡ object_of c → ⊥

-- it is the object of no change that asks for no revision: format 1 has no other
abbrev pub IsNoCommand_1 : Doc → Type 0
IsNoCommand_1 d = (c : Change) → AsksNone c → d ≡ object_of c → ⊥

-- the command whose object it is; none if it is no command's
abbrev pub IsCommand : Doc → Option Command → Type 0
IsCommand d None = IsNoCommand d
IsCommand d (Some command) = d ≡ object_of (change_of command)

-- a document read as a command: it is the command's object, or the object of none, or memory was refused
abbrev pub ReadsCommand : Doc → Result Command RecordFault → Type 0
ReadsCommand d (Ok command) = d ≡ object_of (change_of command)
ReadsCommand d (Err Shape) = IsNoCommand d
ReadsCommand d (Err Memory) = ⊤
ReadsCommand d (Err _) = ⊥
