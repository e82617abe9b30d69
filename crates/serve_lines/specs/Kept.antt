-- The promise to a client, from the bytes that come in to the bytes that go out.
use Rattle.std.specs.Prelude.{◌≡◌, ◌⊎◌, ◌<◌, ◌≤◌, ℕ, Bool, List, [], ◌∷◌, ◌++◌, map, length, codes, chars, pos, true, false, MatchOption, Option, None, Some, ⊤}
use Rattle.std.specs.Io.KnownBytes.{Consumes}
use Rattle.sector_device.specs.Disk.{Disk}
use Rattle.doc_tree.specs.Doc.{Doc, Members, boolean, get_member, int, member, no_members, object}
use Rattle.doc_tree.specs.Read.{document, read_of}
use Rattle.doc_tree.specs.Text.{text_of}
use Rattle.doc_pointer.specs.Place.{resolve}
use Rattle.doc_pointer.specs.Text.{pointer_text}
use Rattle.path_grammar.specs.Syntax.{Segments}
use Rattle.path_grammar.specs.Answers.{SpellsOnly}
use Rattle.path_eval.specs.Evaluating.{nodelist}
use Rattle.path_eval.specs.Nodes.{only_node}
use Rattle.path_eval.specs.TooMany.{too_many}
use Rattle.doc_changes.specs.Marks.{mark_of}
use Rattle.doc_changes.specs.Names.{is_name}
use Rattle.doc_changes.specs.State.{Document, State, find}
use Rattle.doc_machine.specs.Transaction.{Transaction, after_in}
use Rattle.refusals.specs.declared.numbers.TheConstants.{BROKEN, DEVICE, MEMORY, REPLY_LONG}
use Rattle.change_history.specs.History.{History, Told, first_within, since, with_told}
use Rattle.told_transactions.specs.Told.{AreReadable, told_each}
use Rattle.recorded_store.specs.Recorded.{Recorded, RecordedView, recorded_of}
use Rattle.store_commits.specs.Folds.{frames_of}
use Rattle.doc_store.specs.Promise.{KeepsPromise}
use Rattle.protocol.specs.declared.limits.TheConstants.{LINE_BYTES, REPLY_BYTES}
use Rattle.protocol.specs.Lines.{lines_of}
use Rattle.protocol.specs.Request.{Request, change, get, get_schema, rev, mark, query, changes, list, status, snapshot, pump, seal, object_of, IsInRange}
use Rattle.protocol.specs.Changes.{changes_reply, gone_reply}
use Rattle.protocol.specs.Reply.{change_reply, mark_reply, names_reply, nodes_reply, revision_reply, value_reply}

-- A line asks for a request: it isn't too long, and read as JSON it is the request's object.
abbrev pub AsksFor : List ℕ → Request → Type 0
AsksFor line request = (length line ≤ LINE_BYTES) × (read_of line ≡ document (object_of request)) × IsInRange request

-- no two members have one name
abbrev pub HaveOwnNames : Members → Type 0
HaveOwnNames no_members = ⊤
HaveOwnNames (member name value more) = (get_member name more ≡ None) × HaveOwnNames more

-- A reply refuses with a number: it is an object with `"ok":false` and that number, and no two of its members have one name. `IsRefusal`: with some number.
abbrev pub Refuses : Doc → ℕ → Type 0
Refuses reply number =
    (members : Members) × (reply ≡ object members) × HaveOwnNames members × (get_member (codes "ok") members ≡ Some (boolean false)) × (get_member (codes "number") members ≡ Some (int (pos number)))

abbrev pub IsRefusal : Doc → Type 0
IsRefusal reply = (number : ℕ) × Refuses reply number

-- A document of that name is in a state.
abbrev pub Has : State → List ℕ → Document → Type 0
Has s name d = (is_name name ≡ true) × (find name s.documents ≡ Some d)

-- A state, whether a store in format 3 has it, and the newest of the transactions that led to it.
pub record Known : Type 0 where
  pub state : State
  pub rides : Bool
  pub history : History

-- a transaction that is accepted then, as a history keeps it: with the number of its last change, and its frames
abbrev pub told_after : Known → Transaction → Told
told_after k t = record { last = (after_in k.state t).seq; frames = frames_of k.rides k.state.seq t }

-- what is known after it
abbrev pub known_after : Known → Transaction → Known
known_after k t = record { state = after_in k.state t; rides = k.rides; history = with_told k.history (told_after k t) }

-- what is known of a store
abbrev pub known_of : Recorded → Known
known_of r = record { state = r.state; rides = r.rides; history = r.history }

-- The reply is this document, if its text is within the limit, and else it is refused.
abbrev pub IsWithinReply : Doc → Doc → Type 0
IsWithinReply d reply = ((reply ≡ d) × (length (text_of d) ≤ REPLY_BYTES)) ⊎ (Refuses reply REPLY_LONG × (REPLY_BYTES < length (text_of d)))

-- Who asks for what follows a change is given, of the transactions that are known after it, the first whose frames have `most` bytes together, and one at least, with some identity; or, if none that is known ends there, after which change all are.
abbrev pub TellsAfter : Known → (from most : ℕ) → Doc → Type 0
TellsAfter k from most reply =
    MatchOption (since k.history.floor k.history.told from) (reply ≡ gone_reply k.state.seq k.history.floor)
    (λ rest. (ts : List Transaction) × (first_within most rest ≡ told_each k.rides from ts) × AreReadable from ts
    × (identity : Option (List ℕ)) × IsWithinReply (changes_reply identity k.state.seq from ts) reply)

-- What a state shows to a question, as the reply that says it. A request that is no question, or for transactions, is shown nothing.
abbrev pub Shows : State → Request → Doc → Type 0
Shows s (get name path) reply = (d : Document) × Has s name d × (tokens : List (List ℕ)) × (pointer_text tokens ≡ path) × (v : Doc) × (resolve tokens d.doc ≡ Some v) × (reply ≡ value_reply v)
Shows s (get_schema name) reply = (d : Document) × Has s name d × (reply ≡ value_reply d.schema)
Shows s (rev name) reply = (d : Document) × Has s name d × (reply ≡ revision_reply d.revision)
Shows s (mark key) reply = (is_name key ≡ true) × (reply ≡ mark_reply (mark_of key s.marks))
Shows s (query name path) reply =
    (d : Document) × Has s name d × (length path ≤ 1_024) × (q : Segments) × SpellsOnly q (chars path) × (too_many d.doc q (only_node d.doc) ≡ false)
    × (reply ≡ nodes_reply (nodelist d.doc q (only_node d.doc))) × (length (text_of reply) ≤ REPLY_BYTES)
Shows s list reply = reply ≡ names_reply (map (λ d. d.name) s.documents)
Shows s status reply = (resolve (codes "seq" ∷ []) reply ≡ Some (int (pos s.seq))) × (resolve (codes "documents" ∷ []) reply ≡ Some (int (pos (length s.documents))))
Shows s _ reply = ⊥

-- What a request is answered that makes no transaction, by what is known: one for a transaction is refused; to a snapshot, a step of one, or a seal, no seq is replied, or it is refused; a question, which any other is, is answered by what the state shows, and refused only if it shows nothing.
abbrev pub Tells : Known → Request → Doc → Type 0
Tells k (change t) reply = IsRefusal reply
Tells k snapshot reply = (resolve (codes "seq" ∷ []) reply ≡ None) ⊎ IsRefusal reply
Tells k (pump most) reply = (resolve (codes "seq" ∷ []) reply ≡ None) ⊎ IsRefusal reply
Tells k seal reply = (resolve (codes "seq" ∷ []) reply ≡ None) ⊎ IsRefusal reply
Tells k (changes from most) reply = TellsAfter k from most reply
Tells k question reply = Shows k.state question reply ⊎ (IsRefusal reply × ((shown : Doc) → Shows k.state question shown → ⊥))

-- The same of a line. One that asks for nothing is refused, and any line may be since the store is broken, and any that isn't too long out of memory.
abbrev pub LineTells : Known → List ℕ → Doc → Type 0
LineTells k line reply =
    ((request : Request) × AsksFor line request × Tells k request reply) ⊎ (IsRefusal reply × ((request : Request) → AsksFor line request → ⊥))
    ⊎ (Refuses reply MEMORY × (length line ≤ LINE_BYTES)) ⊎ Refuses reply BROKEN

-- Lines and their replies, one to each, in order, from a state; with the transactions that were done, and those that a fault of the device hit.
pub data Replied : Known → List (List ℕ) → List Doc → (done hit : List Transaction) → Type 0 where
  no_line : (s : Known) → Replied s [] [] [] []
  -- a transaction is done, and answered by the number of its last change; all after it go on from the state after it
  was_done : (s : Known) (line : List ℕ) (t : Transaction) (lines : List (List ℕ)) (replies : List Doc) (done hit : List Transaction) → AsksFor line (change t)
      → Replied (known_after s t) lines replies done hit → Replied s (line ∷ lines) (change_reply (known_after s t).state.seq ∷ replies) (t ∷ done) hit
  -- one is hit, and none after it is done
  was_hit : (s : Known) (line : List ℕ) (t : Transaction) (reply : Doc) (lines : List (List ℕ)) (replies : List Doc) (hit : List Transaction) → AsksFor line (change t) → Refuses reply DEVICE
      → Replied s lines replies [] hit → Replied s (line ∷ lines) (reply ∷ replies) [] (t ∷ hit)
  -- none is made
  was_told : (s : Known) (line : List ℕ) (reply : Doc) (lines : List (List ℕ)) (replies : List Doc) (done hit : List Transaction) → LineTells s line reply
      → Replied s lines replies done hit → Replied s (line ∷ lines) (reply ∷ replies) done hit

-- What is kept of a session, however it ended: of the lines that were read, the first were answered in this way, and those transactions keep the promise.
pub record IsKept {D : Type 0} (disk : D → Disk) (old new : RecordedView D) (left left_new : Option (List ℕ)) : Type 0 where
  pub read : List ℕ
  pub consumed : Consumes left left_new read
  pub lines : List (List ℕ)
  pub later : List (List ℕ)
  pub parts : lines_of read ≡ lines ++ later
  pub replies : List Doc
  pub done : List Transaction
  pub hit : List Transaction
  pub replied : Replied (known_of (recorded_of old)) lines replies done hit
  pub promise : KeepsPromise disk old.store new.store done hit
