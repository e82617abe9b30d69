-- The progress of a session in its lines, over pieces of its input, and of serving.
use Rattle.std.specs.Prelude.{◌≡◌, ◌⊎◌, ◌<◌, ◌+◌, ℕ, true, false, List, [], ◌∷◌, ◌++◌, flat_map, length, Ok, map, Option, None, Some}
use Rattle.std.specs.List.{AllByRecursion}
use Rattle.sector_device.specs.Disk.{Disk}
use Rattle.doc_tree.specs.Doc.{Doc}
use Rattle.doc_machine.specs.Transaction.{Transaction, transaction_of}
use Rattle.recorded_store.specs.Recorded.{RecordedView}
use Rattle.protocol.specs.Lines.{line_feed, answered, is_blank, HasNoBreak, lines_of}
use Rattle.protocol.specs.Request.{Asks, change}
use Rattle.serve_lines.specs.LineReplies.{BatchIsAnswered, EndsBatch, LineIsAnswered, AllSay}
use Rattle.serve_lines.specs.Serve.{IsSession, BreaksOff, Serves}
use Rattle.serve_lines.specs.Session.{AskFor, most_of}
use Rattle.serve_lines.specs.declared.options.Options.{Options}
use Rattle.protocol.specs.Says.{Says}
use Rattle.protocol.specs.LineBuffer.{Holds}
use Rattle.protocol.specs.declared.reply.Reply.{Reply}
use Rattle.serve_lines.specs.declared.session.Session.{Session}
use Rattle.std.specs.Io.KnownBytes.{Appends, IsAtEnd}
use Rattle.protocol.specs.Reply.{line_of, reply_lines, count_of}
use Rattle.protocol.specs.declared.outbox.Outbox.{Outbox}
use Rattle.serve_lines.specs.declared.progress.Progress.{Progress}

-- lines, each with its line feed
abbrev pub with_feeds : List (List ℕ) → List ℕ
with_feeds lines = flat_map (λ line. line ++ line_feed ∷ []) lines

-- From start, these lines are done and answered, but for the last of them, whose transactions wait: fewer than a batch takes. No batch before them was cut short.
pub record HasAnswered {D : Type 0} (disk : D → Disk) (options : Options) (start : RecordedView D) (lines : List (List ℕ)) (now : RecordedView D) (replies : List Doc) (cs : List Transaction) : Type 0 where
  pub done : List (List ℕ)
  pub waiting : List (List ℕ)
  pub parts : lines ≡ done ++ waiting
  pub session : IsSession disk options start done replies now
  pub whole : session.whole ≡ true
  pub asked : AskFor waiting cs
  pub fewer : length cs < most_of options

-- From start, the bytes were read, all lines that a line feed has ended are answered but those whose transactions wait, and some of the next line has come.
pub record HasCut {D : Type 0} (disk : D → Disk) (options : Options) (start : RecordedView D) (bytes : List ℕ) (now : RecordedView D) (replies : List Doc) (cs : List Transaction) (rest : List ℕ) : Type 0 where
  pub lines : List (List ℕ)
  pub unbroken : AllByRecursion HasNoBreak lines
  pub split : bytes ≡ with_feeds lines ++ rest
  pub settles : HasAnswered disk options start (answered lines) now replies cs

-- A transaction that a line asked for waits with those before it.
pub record Waits {D : Type 0} (options : Options) (old : RecordedView D) (cs : List Transaction) (line : List ℕ) (replies : List Doc) (new : RecordedView D) (left : List Transaction) : Type 0 where
  pub c : Transaction
  pub asks : Asks line (Ok (change c))
  pub fewer : length cs + 1 < most_of options
  pub none : replies ≡ []
  pub same : new ≡ old
  pub left_are : left ≡ cs ++ c ∷ []

-- It makes the batch full, which is done.
pub record Fills {D : Type 0} (disk : D → Disk) (options : Options) (old : RecordedView D) (cs : List Transaction) (line : List ℕ) (replies : List Doc) (new : RecordedView D) (left : List Transaction) : Type 0 where
  pub c : Transaction
  pub asks : Asks line (Ok (change c))
  pub full : length cs + 1 ≡ most_of options
  pub batch : BatchIsAnswered disk options old (cs ++ c ∷ []) replies new
  pub left_are : left ≡ []

-- The batch before the line is done, and then the line by itself.
pub record LineByItself {D : Type 0} (disk : D → Disk) (options : Options) (old : RecordedView D) (cs : List Transaction) (line : List ℕ) (replies : List Doc) (new : RecordedView D) (left : List Transaction) : Type 0 where
  pub mid : RecordedView D
  pub before : List Doc
  pub reply : Doc
  pub batch : EndsBatch disk options old cs before mid
  pub answered : LineIsAnswered disk options mid line reply new
  pub replies_are : replies ≡ before ++ reply ∷ []
  pub left_are : left ≡ []

-- A line that isn't blank has ended, if some transactions waited: one of these.
abbrev pub LineIsWaitingOrDone : {D : Type 0} → (D → Disk) → Options → RecordedView D → List Transaction → List ℕ → List Doc → RecordedView D → List Transaction → Type 0
LineIsWaitingOrDone disk options old cs line replies new left =
    Waits options old cs line replies new left ⊎ Fills disk options old cs line replies new left ⊎ LineByItself disk options old cs line replies new left

-- A line has ended: it was blank and nothing was said, or so.
abbrev pub EndsLine : {D : Type 0} → (D → Disk) → Options → RecordedView D → List Transaction → List ℕ → List Doc → RecordedView D → List Transaction → Type 0
EndsLine disk options old cs line replies new left =
    ((is_blank line ≡ true) × (replies ≡ []) × (new ≡ old) × (left ≡ cs)) ⊎ ((is_blank line ≡ false) × LineIsWaitingOrDone disk options old cs line replies new left)

-- the transactions that wait for others
abbrev pub waiting_in : Session → List Transaction
waiting_in session = map transaction_of session.waiting.items

-- how many lines wait, for others or for their replies to be taken
abbrev pub held_in : Session → ℕ
held_in session = length session.waiting.items + length session.ready.items

-- From start and by these options, a session has read these bytes and given these replies: with those that are ready, they are the replies of a session over the lines that line feeds ended in them, but for the changes that wait, by a run of the store from start to now; and it holds the rest.
pub record HasRead {D : Type 0} (disk : D → Disk) (options : Options) (start : RecordedView D) (read : List ℕ) (now : RecordedView D) (session : Session) (replies : List Doc) : Type 0 where
  pub rest : List ℕ
  pub ready : List Doc
  pub reached : HasCut disk options start read now (replies ++ ready) (waiting_in session) rest
  pub kept : Holds session.line rest
  pub goes_by : session.options ≡ options
  pub says : AllSay session.ready.items ready

-- The input has ended: with the replies that are ready, those that were given are the replies of a session over these lines, and nothing waits.
pub record HasEnded {D : Type 0} (disk : D → Disk) (options : Options) (start : RecordedView D) (lines : List (List ℕ)) (now : RecordedView D) (is : Session) (replies : List Doc) : Type 0 where
  pub ready : List Doc
  pub session : IsSession disk options start lines (replies ++ ready) now
  pub says : AllSay is.ready.items ready

-- Whatever it had read and given since whatever start, it has read these bytes more.
abbrev pub ReadsMore : {D : Type 0} → (D → Disk) → List ℕ → RecordedView D → Session → RecordedView D → Session → Type 0
ReadsMore {D} disk bytes old was new is =
    (options : Options) (start : RecordedView D) (read : List ℕ) (replies : List Doc) → HasRead disk options start read old was replies → HasRead disk options start (read ++ bytes) new is replies

-- The same, and it has given this reply.
abbrev pub ReadsAndReplies : {D : Type 0} → (D → Disk) → List ℕ → RecordedView D → Session → Reply → RecordedView D → Session → Type 0
ReadsAndReplies {D} disk bytes old was reply new is =
    (options : Options) (start : RecordedView D) (read : List ℕ) (replies : List Doc) → HasRead disk options start read old was replies
    → (said : Doc) × Says reply said × HasRead disk options start (read ++ bytes) new is (replies ++ said ∷ [])

-- It has read the input but for what is left, and given this reply.
pub record ReadsToAReply {D : Type 0} (disk : D → Disk) (input : List ℕ) (old : RecordedView D) (was : Session) (reply : Reply) (left : List ℕ) (new : RecordedView D) (is : Session) : Type 0 where
  pub taken : List ℕ
  pub split : taken ++ left ≡ input
  pub less : length left + held_in is < length input + held_in was
  pub hears : ReadsAndReplies disk taken old was reply new is

-- If no reply was ready, then for whatever it had read and given from whatever start: all lines of it are done now,
-- whether a line feed ended them or not.
abbrev pub EndsInput : {D : Type 0} → (D → Disk) → RecordedView D → Session → RecordedView D → Session → Type 0
EndsInput {D} disk old was new is =
    was.ready.items ≡ [] → (options : Options) (start : RecordedView D) (read : List ℕ) (replies : List Doc) → HasRead disk options start read old was replies → HasEnded disk options start (lines_of read) new is replies

-- all else of a session has stayed
pub record KeepsLines (was is : Session) : Type 0 where
  pub line : is.line ≡ was.line
  pub options : is.options ≡ was.options
  pub waiting : is.waiting ≡ was.waiting

-- The first of the replies that were ready was given, or there is none.
abbrev pub GivesReady : Session → Option Reply → Session → Type 0
GivesReady was None is = (was.ready.items ≡ []) × (is.ready.items ≡ []) × KeepsLines was is
GivesReady was (Some reply) is = (was.ready.items ≡ reply ∷ is.ready.items) × KeepsLines was is

-- the line and the options have stayed
pub record KeepsInput (was is : Session) : Type 0 where
  pub line : is.line ≡ was.line
  pub options : is.options ≡ was.options

-- A line that isn't blank has ended so: its transaction waits, or the replies to it and those before it are ready.
abbrev pub LineEnds : {D : Type 0} → (D → Disk) → List ℕ → RecordedView D → Session → RecordedView D → Session → Type 0
LineEnds disk line old was new is = (more : List Doc) × AllSay is.ready.items more × LineIsWaitingOrDone disk was.options old (waiting_in was) line more new (waiting_in is)

-- Whatever line was held, it has ended.
abbrev pub LineEndsFor : {D : Type 0} → (D → Disk) → RecordedView D → Session → RecordedView D → Session → Type 0
LineEndsFor disk old was new is = (line : List ℕ) → Holds was.line line → (more : List Doc) × AllSay is.ready.items more × EndsLine disk was.options old (waiting_in was) line more new (waiting_in is)

-- the bytes that were written, and then those that wait
pub record HasWritten (before after : Option (List ℕ)) (outbox : Outbox) (told : List ℕ) : Type 0 where
  pub written : List ℕ
  pub wrote : Appends before after written
  pub whole : told ≡ written ++ outbox.bytes.items

-- Every reply that was given, written or waiting, still is.
abbrev pub KeepsWritten : Outbox → Option (List ℕ) → Outbox → Option (List ℕ) → Type 0
KeepsWritten was wrote is written = (before : Option (List ℕ)) (told : List ℕ) → HasWritten before wrote was told → HasWritten before written is told

-- The same, with the line of this reply after it.
abbrev pub WritesReply : Reply → Outbox → Option (List ℕ) → Outbox → Option (List ℕ) → Type 0
WritesReply reply was wrote is written =
    (before : Option (List ℕ)) (told : List ℕ) (said : Doc) → Says reply said → HasWritten before wrote was told → HasWritten before written is (told ++ line_of said)

-- the lines of these replies were written or wait, and they are counted
pub record HasReplied (before after : Option (List ℕ)) (progress : Progress) (replies : List Doc) : Type 0 where
  pub tells : HasWritten before after progress.outbox (reply_lines replies)
  pub counted : progress.answered ≡ count_of replies

-- From start and by these options, the bytes were read and answered, and the replies are given.
pub record SoFar {D : Type 0} (disk : D → Disk) (options : Options) (start : RecordedView D) (bytes : List ℕ) (before : Option (List ℕ)) (now : RecordedView D) (progress : Progress) (after : Option (List ℕ)) : Type 0 where
  pub replies : List Doc
  pub hears : HasRead disk options start bytes now progress.session replies
  pub told : HasReplied before after progress replies

-- However far a session had come, it has come further by these bytes.
abbrev pub ComesFurther : {D : Type 0} → (D → Disk) → List ℕ → RecordedView D → Progress → Option (List ℕ) → RecordedView D → Progress → Option (List ℕ) → Type 0
ComesFurther {D} disk bytes old was wrote new is written =
    (options : Options) (start : RecordedView D) (read : List ℕ) (before : Option (List ℕ)) → SoFar disk options start read before old was wrote → SoFar disk options start (read ++ bytes) before new is written

-- However far it had come, it breaks off within these bytes, whatever follows them.
abbrev pub BreaksOffIn : {D : Type 0} → (D → Disk) → List ℕ → RecordedView D → Progress → Option (List ℕ) → RecordedView D → Type 0
BreaksOffIn {D} disk bytes old was wrote new =
    (options : Options) (start : RecordedView D) (read : List ℕ) (before : Option (List ℕ)) → SoFar disk options start read before old was wrote → (more : List ℕ) (left : Option (List ℕ)) → BreaksOff disk options start ((read ++ bytes) ++ more) left new

-- However far it had come, all that was read is answered and given, and counted as such.
abbrev pub Finishes : {D : Type 0} → (D → Disk) → RecordedView D → Progress → Option (List ℕ) → RecordedView D → Option (List ℕ) → ℕ → Type 0
Finishes {D} disk old was wrote new written count =
    (options : Options) (start : RecordedView D) (read : List ℕ) (before : Option (List ℕ)) → SoFar disk options start read before old was wrote → Serves disk options start (lines_of read) before new written count

-- The same, if it breaks off at the end of the input.
abbrev pub BreaksOffAtEnd : {D : Type 0} → (D → Disk) → RecordedView D → Progress → Option (List ℕ) → RecordedView D → Type 0
BreaksOffAtEnd {D} disk old was wrote new =
    (options : Options) (start : RecordedView D) (read : List ℕ) (before : Option (List ℕ)) → SoFar disk options start read before old was wrote → (left : Option (List ℕ)) → IsAtEnd left → BreaksOff disk options start read left new

-- What was given stays, and the replies that were ready are given too.
abbrev pub TellsRest : Progress → Option (List ℕ) → Progress → Option (List ℕ) → Type 0
TellsRest was wrote is written =
    (before : Option (List ℕ)) (said docs : List Doc) → AllSay was.session.ready.items docs → HasReplied before wrote was said → HasReplied before written is (said ++ docs)

-- What was given stays.
abbrev pub KeepsReplied : Progress → Option (List ℕ) → Progress → Option (List ℕ) → Type 0
KeepsReplied was wrote is written = (before : Option (List ℕ)) (said : List Doc) → HasReplied before wrote was said → HasReplied before written is said

-- What was given stays, and this reply is given too.
abbrev pub TellsReply : Reply → Progress → Option (List ℕ) → Progress → Option (List ℕ) → Type 0
TellsReply reply was wrote is written =
    (before : Option (List ℕ)) (said : List Doc) (one : Doc) → Says reply one → HasReplied before wrote was said → HasReplied before written is (said ++ one ∷ [])
