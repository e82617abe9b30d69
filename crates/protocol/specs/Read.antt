-- The answers of reading a line, for private clauses.
use Rattle.std.specs.Prelude.{◌≡◌, ◌⊎◌, ℕ, List, map, Vec, Option, None, Some, Result, Ok, Err, codes, pos, string_bytes, ⊤}
use Rattle.doc_tree.specs.Doc as docs
use Rattle.doc_tree.specs.Doc.{Doc, Members, Elements, get_member, int, member, no_members, text}
use Rattle.record_text.specs.Change as commands
use Rattle.record_text.specs.Change.{change_of, name_and}
use Rattle.record_text.specs.Change.{Change as OneChange}
use Rattle.record_text.specs.declared.command.Command.{Command}
use Rattle.std.specs.Global.{Global}
use Rattle.doc_machine.specs.Marking.{Marking, marking_of}
use Rattle.doc_machine.specs.declared.marking.Marking.{Marking as HeldMarking}
use Rattle.doc_machine.specs.Transaction.{Changes, alone, marked, pure_changes, several, single, together, transaction_of}
use Rattle.doc_machine.specs.declared.transaction.Changes.{Changes as HeldChanges}
use Rattle.doc_changes.specs.Refusals.{plain}
use Rattle.doc_changes.specs.declared.refusal.Refusal.{Refusal}
use Rattle.refusals.specs.declared.numbers.TheConstants.{MEMORY}
use Rattle.protocol.specs.Request as asked
use Rattle.protocol.specs.Marks.{asked_value, mark_object, put_some}
use Rattle.protocol.specs.Request.{from_and_max, members_of, objects_of, AreInRange, Asks, IsInRange, IsNoRequest, IsObjectOf}
use Rattle.protocol.specs.declared.request.Request.{Request}
use Rattle.protocol.specs.declared.request.Request.TheVariants.{Change, Get, GetSchema, Rev, Mark, Query, Changes as ChangesAfter, List as ListNames, Status, Snapshot, Pump, Seal}

-- a request, without its place in memory
abbrev pub asked_by : Request → asked.Request
asked_by (Change transaction) = asked.change (transaction_of transaction)
asked_by (Get name path) = asked.get (string_bytes name) (string_bytes path)
asked_by (GetSchema name) = asked.get_schema (string_bytes name)
asked_by (Rev name) = asked.rev (string_bytes name)
asked_by (Mark key) = asked.mark (string_bytes key)
asked_by (Query name path) = asked.query (string_bytes name) (string_bytes path)
asked_by (ChangesAfter from most) = asked.changes from most
asked_by ListNames = asked.list
asked_by Status = asked.status
asked_by Snapshot = asked.snapshot
asked_by (Pump most) = asked.pump most
asked_by Seal = asked.seal

-- the request that the line asks for, or the number of why it is none, or that memory ran out
abbrev pub ReadsRequest : List ℕ → Result Request Refusal → Type 0
ReadsRequest line (Ok request) = Asks line (Ok (asked_by request))
ReadsRequest line (Err refusal) = (refusal ≡ plain MEMORY) ⊎ ((number : ℕ) × (refusal ≡ plain number) × Asks line (Err number))

-- the request whose object the document is; none if it is no request's
abbrev pub IsRequest : Doc → Option Request → Type 0
IsRequest d None = IsNoRequest d
IsRequest d (Some request) = IsObjectOf d (asked_by request)

-- a request that speaks of no mark with its changes
abbrev pub IsUnmarked : asked.Request → Type 0
IsUnmarked (asked.change (marked m cs)) = ⊥
IsUnmarked _ = ⊤

-- the same of those that speak of no mark with their changes
abbrev pub IsUnmarkedRequest : Doc → Option Request → Type 0
IsUnmarkedRequest d None = (r : asked.Request) → IsUnmarked r → IsObjectOf d r → ⊥
IsUnmarkedRequest d (Some request) = IsUnmarked (asked_by request) × IsObjectOf d (asked_by request)

-- a request that is no transaction
abbrev pub IsNoChange : asked.Request → Type 0
IsNoChange (asked.change c) = ⊥
IsNoChange _ = ⊤

-- the word that a request's object has at `cmd`
abbrev pub word_of : asked.Request → List ℕ
word_of (asked.change (single c)) = commands.word_of c
word_of (asked.change (several cs)) = codes "transaction"
word_of (asked.change (marked m (alone c))) = commands.word_of c
word_of (asked.change (marked m (together cs))) = codes "transaction"
word_of (asked.get name path) = codes "get"
word_of (asked.get_schema name) = codes "get-schema"
word_of (asked.rev name) = codes "rev"
word_of (asked.mark key) = codes "mark"
word_of (asked.query name path) = codes "query"
word_of (asked.changes from most) = codes "changes"
word_of asked.list = codes "list"
word_of asked.status = codes "status"
word_of asked.snapshot = codes "snapshot"
word_of (asked.pump most) = codes "pump"
word_of asked.seal = codes "seal"

-- the members of its object after `cmd`, in byte order of their names, but for those that speak of a mark
abbrev pub others_of : asked.Request → Members
others_of (asked.change (single c)) = commands.others_of c
others_of (asked.change (several cs)) = no_members
others_of (asked.change (marked m (alone c))) = commands.others_of c
others_of (asked.change (marked m (together cs))) = no_members
others_of (asked.get name path) = name_and name (codes "path") (text path)
others_of (asked.get_schema name) = member (codes "name") (text name) no_members
others_of (asked.rev name) = member (codes "name") (text name) no_members
others_of (asked.mark key) = member (codes "key") (text key) no_members
others_of (asked.query name path) = name_and name (codes "path") (text path)
others_of (asked.changes from most) = from_and_max from most
others_of asked.list = no_members
others_of asked.status = no_members
others_of asked.snapshot = no_members
others_of (asked.pump most) = member (codes "max") (int (pos most)) no_members
others_of asked.seal = no_members

-- the request, no transaction, that has that word at `cmd` and these members after it; none if there is none such
abbrev pub AsksWith : List ℕ → Members → Option Request → Type 0
AsksWith word ms None = (r : asked.Request) → IsNoChange r → word ≡ word_of r → ms ≡ others_of r → IsInRange r → ⊥
AsksWith word ms (Some request) = (word ≡ word_of (asked_by request)) × (ms ≡ others_of (asked_by request)) × IsInRange (asked_by request)

-- the commands whose objects these elements are; none if some element is no command's
abbrev pub AreCommands : Elements → Option (Vec Command Global) → Type 0
AreCommands ds None = (cs : List OneChange) → ds ≡ objects_of cs → ⊥
AreCommands ds (Some commands) = ds ≡ objects_of (map change_of commands.items)

-- the commands of a transaction whose object has these members; none if it is no transaction's
abbrev pub AreSeveral : Members → Option (Vec Command Global) → Type 0
AreSeveral ms None = (cs : List OneChange) → ms ≡ members_of (together cs) → AreInRange (together cs) → ⊥
AreSeveral ms (Some commands) = (ms ≡ members_of (together (map change_of commands.items))) × AreInRange (together (map change_of commands.items))

-- ---- changes with a mark

-- a member of that name was taken out of the members: its value, if there was one, and those that are left
abbrev pub TakesOut : List ℕ → Members → Option Doc → Members → Type 0
TakesOut name ms value left = (get_member name left ≡ None) × (ms ≡ put_some name value left)

-- the changes whose object has these members; none if they are no changes'
abbrev pub AreChanges : Members → Option HeldChanges → Type 0
AreChanges ms None = (cs : Changes) → ms ≡ members_of cs → AreInRange cs → ⊥
AreChanges ms (Some changes) = (ms ≡ members_of (pure_changes changes)) × AreInRange (pure_changes changes)

-- what the value at `mark` says and the one at `if_mark`, if there is one; none if they say nothing of a mark
abbrev pub IsMarking : Doc → Option Doc → Option HeldMarking → Type 0
IsMarking at_mark at_if_mark None = (m : Marking) → at_mark ≡ mark_object m.key m.value → at_if_mark ≡ asked_value m.asked → ⊥
IsMarking at_mark at_if_mark (Some marking) = (at_mark ≡ mark_object (marking_of marking).key (marking_of marking).value) × (at_if_mark ≡ asked_value (marking_of marking).asked)

-- the marked changes of that value at `mark` and these members beside it; none if they make none
abbrev pub IsMarked : Doc → Members → Option Request → Type 0
IsMarked at_mark ms None = (m : Marking) (cs : Changes) → at_mark ≡ mark_object m.key m.value → ms ≡ put_some (codes "if_mark") (asked_value m.asked) (members_of cs) → AreInRange cs → ⊥
IsMarked at_mark ms (Some request) =
    (m : Marking) × (cs : Changes) × (asked_by request ≡ asked.change (marked m cs)) × (at_mark ≡ mark_object m.key m.value)
    × (ms ≡ put_some (codes "if_mark") (asked_value m.asked) (members_of cs)) × AreInRange cs
