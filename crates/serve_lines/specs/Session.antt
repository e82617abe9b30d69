-- Sessions: the replies to the lines that were read, one to each, in order.
use Rattle.std.specs.Prelude.{◌≡◌, ◌⊎◌, ◌<◌, ◌≤◌, ◌*◌, ℕ, Bool, List, [], ◌∷◌, ◌++◌, map, max, length, chars, nat_eq, nat_le, if◌then◌else◌, is_some, true, false, MatchOption, Option, Some, None, Result, Ok, Err, ⊤}
use Rattle.std.specs.List.{list_any}
use Rattle.doc_tree.specs.Doc.{Doc, text}
use Rattle.doc_tree.specs.Text.{text_of}
use Rattle.doc_machine.specs.Transaction.{Transaction, marked}
use Rattle.doc_pointer.specs.Text.{pointer_text}
use Rattle.doc_pointer.specs.Fault.{IsNoPointer}
use Rattle.path_grammar.specs.Syntax.{Segments}
use Rattle.path_grammar.specs.Answers.{SpellsOnly, SpellsLeftOut, SpellsNone}
use Rattle.path_eval.specs.Nodes.{Located}
use Rattle.doc_changes.specs.Refusals.{plain}
use Rattle.doc_changes.specs.Marks.{Mark, mark_of}
use Rattle.doc_changes.specs.State.{State}
use Rattle.doc_changes.specs.Reading.{value_at, schema_at, revision_at, mark_at, names_of}
use Rattle.doc_machine.specs.Queries.{nodes_at}
use Rattle.doc_changes.specs.declared.refusal.Refusal.{Refusal}
use Rattle.refusals.specs.declared.numbers.TheConstants.{MARK, MEMORY, POINTER, PATH, PATH_LEFT_OUT, PATH_LONG, REPLY_LONG}
use Rattle.store_commits.specs.Account.{Account}
use Rattle.store_commits.specs.Batch.{Commit, IsBatch, changes}
use Rattle.store_commits.specs.Events.{is_done}
use Rattle.store_commits.specs.Snapshot.{SnapshotAnswers}
use Rattle.store_commits.specs.Copying.{PumpAnswers}
use Rattle.store_commits.specs.Sealing.{SealAnswers}
use Rattle.store_commits.specs.Run as store
use Rattle.store_commits.specs.Run.{Event, reply_of}
use Rattle.store_commits.specs.declared.event.Reply.{Reply}
use Rattle.store_commits.specs.declared.event.Reply.TheVariants.{Done, Snapped, Pumped, Sealed, Refused}
use Rattle.doc_store.specs.Formats.{status_of}
use Rattle.store_commits.specs.declared.pump.Pump.{Pump}
use Rattle.protocol.specs.declared.limits.TheConstants.{LINE_BYTES, REPLY_BYTES}
use Rattle.protocol.specs.Request.{Request, change, get, get_schema, rev, mark, query, changes as changes_after, list, status, snapshot, pump, seal, Asks}
use Rattle.protocol.specs.Changes.{changes_reply, gone_reply}
use Rattle.change_history.specs.History.{first_within, since}
use Rattle.told_transactions.specs.Told.{AreReadable, told_each}
use Rattle.recorded_store.specs.Recorded.{Recorded, Records}
use Rattle.protocol.specs.Reply.{change_reply, snapshot_reply, pump_reply, sealed_reply, value_reply, revision_reply, mark_reply, other_mark_reply, nodes_reply, names_reply, refusal_reply}
use Rattle.status_lines.specs.Status.{id_of, status_reply}
use Rattle.serve_lines.specs.declared.options.Options.{Options}
use Rattle.serde.specs.Event as event

-- the reply line to what the store replied
abbrev pub shown_reply : Reply → Doc
shown_reply (Done seq) = change_reply seq
shown_reply (Snapped used) = snapshot_reply used
shown_reply (Pumped step) = pump_reply step
shown_reply Sealed = sealed_reply
shown_reply (Refused refusal) = refusal_reply refusal

-- the reply to a request for a value
abbrev pub found_reply : Result Doc Refusal → Doc
found_reply (Ok value) = value_reply value
found_reply (Err refusal) = refusal_reply refusal

-- the reply to a request for a revision
abbrev pub reply_to_rev : Result ℕ Refusal → Doc
reply_to_rev (Ok revision) = revision_reply revision
reply_to_rev (Err refusal) = refusal_reply refusal

-- the reply to a request for a mark
abbrev pub reply_to_mark : Result (Option Mark) Refusal → Doc
reply_to_mark (Ok m) = mark_reply m
reply_to_mark (Err refusal) = refusal_reply refusal

-- the reply to a query: its nodes, unless the text of that reply is over the limit
abbrev pub selected_reply : Result (List Located) Refusal → Doc
selected_reply (Ok nodes) = if nat_le (length (text_of (nodes_reply nodes))) REPLY_BYTES then nodes_reply nodes else refusal_reply (plain REPLY_LONG)
selected_reply (Err refusal) = refusal_reply refusal

-- What the text of a pointer finds in the document of that name: what its tokens lead to, or it is the text of no tokens.
abbrev pub Finds : State → List ℕ → List ℕ → Result Doc Refusal → Type 0
Finds old name path found =
    ((tokens : List (List ℕ)) × (pointer_text tokens ≡ path) × (found ≡ value_at old name tokens))
    ⊎ (IsNoPointer path × (found ≡ Err (plain POINTER)))

-- What the text of a query selects in the document of that name: it is too long, or spells no query, or none in profile (RFC 9535, section 2.1), or what the one query that it spells selects there.
abbrev pub Selects : State → List ℕ → List ℕ → Result (List Located) Refusal → Type 0
Selects old name path selected =
    ((1024 < length path) × (selected ≡ Err (plain PATH_LONG)))
    ⊎ ((length path ≤ 1024)
    × ((SpellsNone (chars path) × (selected ≡ Err (plain PATH)))
    ⊎ ((SpellsLeftOut (chars path) × (selected ≡ Err (plain PATH_LEFT_OUT)))
    ⊎ ((q : Segments) × SpellsOnly q (chars path) × (selected ≡ nodes_at old name q)))))

-- the reply with transactions, unless its text is over the limit
abbrev pub told_reply : Option (List ℕ) → (seq from : ℕ) → List Transaction → Doc
told_reply identity seq from ts =
    if nat_le (length (text_of (changes_reply identity seq from ts))) REPLY_BYTES then changes_reply identity seq from ts else refusal_reply (plain REPLY_LONG)

-- The reply with the transactions after the change of number `from` that are kept: the first of them whose frames have `most` bytes together, one at least if there is one. If none is kept that ends there, the reply has the number from which they are.
abbrev pub TellsChanges : Recorded → (from most : ℕ) → Doc → Type 0
TellsChanges old from most reply =
    MatchOption (since old.history.floor old.history.told from) (reply ≡ gone_reply old.state.seq old.history.floor)
    (λ rest. (ts : List Transaction) × (first_within most rest ≡ told_each old.rides from ts) × AreReadable from ts × (reply ≡ told_reply (id_of (status_of old.account)) old.state.seq from ts))

-- the store was asked for nothing, and nothing has changed
abbrev pub ChangesNothing : Recorded → List Event → List Reply → Recorded → Type 0
ChangesNothing old events said new = (events ≡ []) × (said ≡ []) × (new ≡ old)

-- From old, a request was given this reply and led to new, and these events of the store were given these replies: a
-- snapshot, a step of a copy or a seal is one event, and answered as the store answers it; a question is none, is answered by
-- what is stored, and changes nothing. A transaction is answered in its batch.
abbrev pub Replies : Recorded → Request → List Event → List Reply → Doc → Recorded → Type 0
Replies old (change t) events said reply new = ⊥
Replies old snapshot events said reply new =
    (outcome : Result ℕ Refusal) × SnapshotAnswers old.account outcome new.account × (new.history ≡ old.history) × (reply ≡ shown_reply (reply_of Snapped outcome)) × (events ≡ store.snapshot ∷ []) × (said ≡ reply_of Snapped outcome ∷ [])
Replies old (pump most) events said reply new =
    (outcome : Result Pump Refusal) × PumpAnswers old.account most outcome new.account × (new.history ≡ old.history) × (reply ≡ shown_reply (reply_of Pumped outcome)) × (events ≡ store.pump most ∷ []) × (said ≡ reply_of Pumped outcome ∷ [])
Replies old seal events said reply new =
    (outcome : Result (Unit {0}) Refusal) × SealAnswers old.account outcome new.account × (new.history ≡ old.history) × (reply ≡ shown_reply (reply_of (λ done. Sealed) outcome)) × (events ≡ store.seal ∷ []) × (said ≡ reply_of (λ done. Sealed) outcome ∷ [])
Replies old (get name path) events said reply new = (found : Result Doc Refusal) × Finds old.state name path found × (reply ≡ found_reply found) × ChangesNothing old events said new
Replies old (get_schema name) events said reply new = (reply ≡ found_reply (schema_at old.state name)) × ChangesNothing old events said new
Replies old (rev name) events said reply new = (reply ≡ reply_to_rev (revision_at old.state name)) × ChangesNothing old events said new
Replies old (mark key) events said reply new = (reply ≡ reply_to_mark (mark_at old.state key)) × ChangesNothing old events said new
Replies old (query name path) events said reply new =
    (selected : Result (List Located) Refusal) × Selects old.state name path selected × (reply ≡ selected_reply selected) × ChangesNothing old events said new
Replies old (changes_after from most) events said reply new = TellsChanges old from most reply × ChangesNothing old events said new
Replies old list events said reply new = (reply ≡ names_reply (names_of old.state)) × ChangesNothing old events said new
Replies old status events said reply new = (reply ≡ status_reply (status_of old.account)) × ChangesNothing old events said new

-- the same of what a line asks for, which may be no request
abbrev pub RepliesTo : Recorded → Result Request ℕ → List Event → List Reply → Doc → Recorded → Type 0
RepliesTo old (Ok request) events said reply new = Replies old request events said reply new
RepliesTo old (Err number) events said reply new = (reply ≡ refusal_reply (plain number)) × ChangesNothing old events said new

-- From old, a line by itself was given this reply and led to new, by these events and their replies: it is no
-- transaction. That memory ran out may be answered to any line within the limit before the store is asked.
abbrev pub AnswersOther : Recorded → List ℕ → List Event → List Reply → Doc → Recorded → Type 0
AnswersOther old line events said reply new =
    ((reply ≡ refusal_reply (plain MEMORY)) × (length line ≤ LINE_BYTES) × ChangesNothing old events said new)
    ⊎ ((asked : Result Request ℕ) × Asks line asked × RepliesTo old asked events said reply new)

-- the lines ask for these transactions
abbrev pub AskFor : List (List ℕ) → List Transaction → Type 0
AskFor [] [] = ⊤
AskFor [] (c ∷ cs) = ⊥
AskFor (line ∷ lines) [] = ⊥
AskFor (line ∷ lines) (c ∷ cs) = Asks line (Ok (change c)) × AskFor lines cs

-- the key of the mark that a transaction sets, if it sets one
abbrev pub key_of : Transaction → Option (List ℕ)
key_of (marked m cs) = Some m.key
key_of _ = None

-- whether the store refused a transaction, since it asks for another mark than the present one
abbrev pub asks_another_mark : Reply → Bool
asks_another_mark (Refused r) = nat_eq r.number MARK
asks_another_mark _ = false

-- The document of the store's reply to a transaction with a mark of that key, in the state that its batch left: the refusal of a mark has the one that is present in it.
abbrev pub told_in : State → Option (List ℕ) → Reply → Doc
told_in s None said = shown_reply said
told_in s (Some key) said = if asks_another_mark said then other_mark_reply (mark_of key s.marks) else shown_reply said

-- The reply is that document. That memory ran out may be answered in place of the present mark.
abbrev pub IsTold : State → Option (List ℕ) → Reply → Doc → Type 0
IsTold s key said reply = (reply ≡ told_in s key said) ⊎ ((asks_another_mark said ≡ true) × (reply ≡ refusal_reply (plain MEMORY)))

-- the store's replies to transactions with marks of these keys are those documents, one each
abbrev pub AreTold : State → List (Option (List ℕ)) → List Reply → List Doc → Type 0
AreTold s [] [] [] = ⊤
AreTold s (key ∷ keys) (one ∷ said) (reply ∷ replies) = IsTold s key one reply × AreTold s keys said replies
AreTold s _ _ _ = ⊥

-- From old, transactions were made as one batch, and given these replies; that led to new. That memory ran out may be
-- answered to all of them before the store is asked.
abbrev pub AnswersBatch : Recorded → List Transaction → List Event → List Reply → List Doc → Recorded → Type 0
AnswersBatch old cs events said replies new =
    ((replies ≡ map (λ _. refusal_reply (plain MEMORY)) cs) × ChangesNothing old events said new)
    ⊎ ((commits : List Commit) × IsBatch old.account cs said commits new.account × (events ≡ changes cs) × Records old (changes cs) said new × AreTold new.state (map key_of cs) said replies)

-- lines that are done at once: one by itself, or transactions that are one batch
pub data Group : Type 0 where
  alone : (line : List ℕ) → Group
  together : (lines : List (List ℕ)) → Group

-- how many transactions make a batch full
abbrev pub most_of : Options → ℕ
most_of options = max options.batch 1

-- The lines in groups, one after another. A batch that isn't full is followed by a line by itself, or by nothing: the
-- last word says that the last group is no such batch.
pub data AreGroups (options : Options) : List (List ℕ) → List Group → Bool → Type 0 where
  no_groups : AreGroups options [] [] true
  one_alone : (lines : List (List ℕ)) (groups : List Group) (whole : Bool) (line : List ℕ) → AreGroups options lines groups whole
      → AreGroups options (lines ++ line ∷ []) (groups ++ alone line ∷ []) true
  one_full : (lines : List (List ℕ)) (groups : List Group) (batch : List (List ℕ)) → AreGroups options lines groups true → length batch ≡ most_of options
      → AreGroups options (lines ++ batch) (groups ++ together batch ∷ []) true
  one_short : (lines : List (List ℕ)) (groups : List Group) (batch : List (List ℕ)) → AreGroups options lines groups true → 0 < length batch → length batch < most_of options
      → AreGroups options (lines ++ batch) (groups ++ together batch ∷ []) false

-- From old, a group of lines was given these replies, one to each line in their order, and led to new, by these events
-- and their replies: a line by itself is no transaction, or memory ran out for it.
abbrev pub AnswersGroup : Recorded → Group → List Event → List Reply → List Doc → Recorded → Type 0
AnswersGroup old (alone line) events said replies new = (reply : Doc) × (replies ≡ reply ∷ []) × AnswersOther old line events said reply new
AnswersGroup old (together lines) events said replies new = (cs : List Transaction) × AskFor lines cs × AnswersBatch old cs events said replies new

-- one of these replies says that a transaction was done
abbrev pub HasDone : List Reply → Type 0
HasDone said = list_any is_done said ≡ true

-- a step of a copy is wanted: steps are asked for, and a copy runs, or twice the used bytes are over a half
pub record WantsStep (options : Options) (a : Account) : Type 0 where
  pub asked : 0 < options.pump
  pub presses : (is_some a.copy ≡ true) ⊎ ((status_of a).capacity < 2 * a.used)

-- it is due: some transaction of the group was done, and it is wanted
abbrev pub IsDue : Options → List Reply → Recorded → Type 0
IsDue options said a = HasDone said × WantsStep options a.account

-- The event after a group that was given these replies: if a step of a copy is due it is made, as one event more, and
-- else nothing is.
abbrev pub Follows : Options → List Reply → Recorded → List Event → List Reply → Recorded → Type 0
Follows options said old events more new =
    (IsDue options said old × ((outcome : Result Pump Refusal) × PumpAnswers old.account options.pump outcome new.account × (new.history ≡ old.history) × (events ≡ store.pump options.pump ∷ []) × (more ≡ reply_of Pumped outcome ∷ [])))
    ⊎ ((IsDue options said old → ⊥) × ChangesNothing old events more new)

-- From old, a group of lines was given these replies, and what follows it was done, which no reply shows; that led to
-- new, by these events and their replies.
pub record Does (options : Options) (old : Recorded) (group : Group) (events : List Event) (said : List Reply) (replies : List Doc) (new : Recorded) : Type 0 where
  pub mid : Recorded
  pub own : List Event
  pub own_said : List Reply
  pub answers : AnswersGroup old group own own_said replies mid
  pub more : List Event
  pub more_said : List Reply
  pub follows : Follows options own_said mid more more_said new
  pub events_are : events ≡ own ++ more
  pub said_are : said ≡ own_said ++ more_said

-- From an account to an account, these groups were done in order and given these replies in all, by these events and their replies.
pub data Session (options : Options) : Recorded → List Group → List Event → List Reply → List Doc → Recorded → Type 0 where
  begun : (a : Recorded) → Session options a [] [] [] [] a
  one_more : (a b d : Recorded) (groups : List Group) (group : Group) (events more_events : List Event) (said more_said : List Reply) (replies more_replies : List Doc)
      → Session options a groups events said replies b → Does options b group more_events more_said more_replies d
      → Session options a (groups ++ group ∷ []) (events ++ more_events) (said ++ more_said) (replies ++ more_replies) d
