-- Requests: what a line asks for.
use Rattle.std.specs.Prelude.{◌≡◌, ◌<◌, ◌≤◌, ◌⊎◌, ℕ, List, [], ◌∷◌, length, codes, pos, Result, Ok, Err, ⊤}
use Rattle.doc_tree.specs.Doc as docs
use Rattle.doc_tree.specs.Doc.{Doc, Elements, Members, element, int, member, no_elements, no_members, object, text}
use Rattle.doc_tree.specs.Read.{Reading, document, not_json, not_whole, read_of}
use Rattle.record_text.specs.Change as commands
use Rattle.record_text.specs.Change.{Change, command_object, name_and}
use Rattle.doc_machine.specs.Transaction.{Changes, Transaction, alone, marked, several, single, together}
use Rattle.refusals.specs.declared.numbers.TheConstants.{NOT_JSON, NUMBER, LINE_TOO_LONG, COMMAND}
use Rattle.protocol.specs.Marks.{with_marking}
use Rattle.protocol.specs.declared.limits.TheConstants.{CHANGES_BYTES, LINE_BYTES, PUMP_SECTORS}

-- a transaction; a snapshot, a step of one that is copied, or a seal, which change no document; or a question, which changes nothing: the value at a pointer's place, a schema, a revision, a mark, the nodes of a query, the transactions after the change of a number, all names, the status
pub data Request : Type 0 where
  change : Transaction → Request
  get : (name path : List ℕ) → Request
  get_schema : (name : List ℕ) → Request
  rev : (name : List ℕ) → Request
  mark : (key : List ℕ) → Request
  query : (name path : List ℕ) → Request
  changes : (from most : ℕ) → Request
  list : Request
  status : Request
  snapshot : Request
  pump : (most : ℕ) → Request
  seal : Request

-- the objects of changes, in their order
abbrev pub objects_of : List Change → Elements
objects_of [] = no_elements
objects_of (c ∷ cs) = element (commands.object_of c) (objects_of cs)

-- the members of a transaction's object: the list of its changes' objects, and `cmd`
abbrev pub transaction_members : Elements → Members
transaction_members listed = member (codes "changes") (docs.list listed) (member (codes "cmd") (text (codes "transaction")) no_members)

-- the members of the object of changes, but for those that speak of a mark
abbrev pub members_of : Changes → Members
members_of (alone c) = member (codes "cmd") (text (commands.word_of c)) (commands.others_of c)
members_of (together cs) = transaction_members (objects_of cs)

-- the members of a request for transactions: the number of the change that they come after, and how many bytes of frames at most are wanted
abbrev pub from_and_max : ℕ → ℕ → Members
from_and_max from most = member (codes "from") (int (pos from)) (member (codes "max") (int (pos most)) no_members)

-- the object of a request, with exactly its members, in byte order of their names
abbrev pub object_of : Request → Doc
object_of (change (single c)) = commands.object_of c
object_of (change (several cs)) = object (transaction_members (objects_of cs))
object_of (change (marked m cs)) = object (with_marking m (members_of cs))
object_of (get name path) = command_object (codes "get") (name_and name (codes "path") (text path))
object_of (get_schema name) = command_object (codes "get-schema") (member (codes "name") (text name) no_members)
object_of (rev name) = command_object (codes "rev") (member (codes "name") (text name) no_members)
object_of (mark key) = command_object (codes "mark") (member (codes "key") (text key) no_members)
object_of (query name path) = command_object (codes "query") (name_and name (codes "path") (text path))
object_of (changes from most) = command_object (codes "changes") (from_and_max from most)
object_of list = command_object (codes "list") no_members
object_of status = command_object (codes "status") no_members
object_of snapshot = command_object (codes "snapshot") no_members
object_of (pump most) = command_object (codes "pump") (member (codes "max") (int (pos most)) no_members)
object_of seal = command_object (codes "seal") no_members

-- a list of changes has 1 to 1,024
abbrev pub AreInRange : Changes → Type 0
AreInRange (alone c) = ⊤
AreInRange (together cs) = (1 ≤ length cs) × (length cs ≤ 1_024)

-- its number, or the number of its changes, is one that may be asked for
abbrev pub IsInRange : Request → Type 0
IsInRange (pump most) = (1 ≤ most) × (most ≤ PUMP_SECTORS)
IsInRange (changes from most) = (1 ≤ most) × (most ≤ CHANGES_BYTES)
IsInRange (change (several cs)) = AreInRange (together cs)
IsInRange (change (marked m cs)) = AreInRange cs
IsInRange _ = ⊤

-- the document is that object
abbrev pub IsObjectOf : Doc → Request → Type 0
IsObjectOf d r = (d ≡ object_of r) × IsInRange r

-- it is the object of no request
abbrev pub IsNoRequest : Doc → Type 0
IsNoRequest d = (r : Request) → IsObjectOf d r → ⊥

-- what a line within the limit asks for, by what it is read as, or the number of why it is no request
abbrev pub IsAskedBy : Reading → Result Request ℕ → Type 0
IsAskedBy not_json asked = asked ≡ Err NOT_JSON
IsAskedBy not_whole asked = asked ≡ Err NUMBER
IsAskedBy (document d) (Ok request) = IsObjectOf d request
IsAskedBy (document d) (Err number) = (number ≡ COMMAND) × IsNoRequest d

-- what a line asks for, or the number of why it is no request
abbrev pub Asks : List ℕ → Result Request ℕ → Type 0
Asks line asked =
    ((LINE_BYTES < length line) × (asked ≡ Err LINE_TOO_LONG)) ⊎ ((length line ≤ LINE_BYTES) × IsAskedBy (read_of line) asked)
