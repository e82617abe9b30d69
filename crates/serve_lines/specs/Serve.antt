-- Serving: what a session leaves with its writer, in the store and on its device.
use Rattle.std.specs.Prelude.{◌≡◌, ◌⊎◌, ◌<◌, ℕ, Bool, true, List, ◌++◌, length, Option}
use Rattle.std.specs.Io.KnownBytes.{Appends, IsAtEnd}
use Rattle.sector_device.specs.Disk.{Disk}
use Rattle.doc_tree.specs.Doc.{Doc}
use Rattle.recorded_store.specs.Recorded.{RecordedView, recorded_of}
use Rattle.doc_machine.specs.Transaction.{Transaction}
use Rattle.store_commits.specs.Run.{Event, Ran}
use Rattle.store_commits.specs.declared.event.Reply.{Reply}
use Rattle.protocol.specs.Lines.{answered, ended, lines_of}
use Rattle.protocol.specs.Reply.{reply_lines, count_of}
use Rattle.serve_lines.specs.Session.{AreGroups, AskFor, Group, Session, most_of}
use Rattle.serve_lines.specs.declared.options.Options.{Options}

-- A session over the lines led from old to new, and its events were one run of the store, which says what a crash may leave meanwhile and at its end.
pub record IsSession {D : Type 0} (disk : D → Disk) (options : Options) (old : RecordedView D) (lines : List (List ℕ)) (replies : List Doc) (new : RecordedView D) : Type 0 where
  pub groups : List Group
  -- no batch is the last that may take more lines
  pub whole : Bool
  pub grouped : AreGroups options lines groups whole
  pub events : List Event
  pub said : List Reply
  pub session : Session options (recorded_of old) groups events said replies (recorded_of new)
  pub ran : Ran disk old.store new.store events said

-- It did, and the lines of its replies are all that was written.
pub record Writes {D : Type 0} (disk : D → Disk) (options : Options) (old : RecordedView D) (lines : List (List ℕ)) (before : Option (List ℕ)) (new : RecordedView D) (after : Option (List ℕ)) : Type 0 where
  pub replies : List Doc
  pub session : IsSession disk options old lines replies new
  pub wrote : Appends before after (reply_lines replies)

-- the same, with the number of its replies, which stops at 2^64 - 1
pub record Serves {D : Type 0} (disk : D → Disk) (options : Options) (old : RecordedView D) (lines : List (List ℕ)) (before : Option (List ℕ)) (new : RecordedView D) (after : Option (List ℕ)) (count : ℕ) : Type 0 where
  pub told : Writes disk options old lines before new after
  pub counted : count ≡ count_of told.replies

-- If it pauses: transactions wait for others, fewer than a batch takes, and aren't done. A session over all lines
-- before them went in this way, and each of its batches was ended by being full or by a line after it.
pub record Pauses {D : Type 0} (disk : D → Disk) (options : Options) (old : RecordedView D) (lines : List (List ℕ)) (before : Option (List ℕ)) (new : RecordedView D) (after : Option (List ℕ)) : Type 0 where
  pub done : List (List ℕ)
  pub waiting : List (List ℕ)
  pub parts : lines ≡ done ++ waiting
  pub writes : Writes disk options old done before new after
  pub whole : writes.session.whole ≡ true
  pub changes : List Transaction
  pub asked : AskFor waiting changes
  pub fewer : length changes < most_of options

-- A session over the first of the lines that line feeds ended in these bytes led from old to new, with no batch cut
-- short, or if they are all of the input, over the first of its lines.
pub record BreaksOff {D : Type 0} (disk : D → Disk) (options : Options) (old : RecordedView D) (bytes : List ℕ) (left : Option (List ℕ)) (new : RecordedView D) : Type 0 where
  pub lines : List (List ℕ)
  pub later : List (List ℕ)
  pub replies : List Doc
  pub session : IsSession disk options old lines replies new
  pub first : ((answered (ended bytes) ≡ lines ++ later) × (session.whole ≡ true)) ⊎ (IsAtEnd left × (lines_of bytes ≡ lines ++ later))

-- No line waits if a batch takes one: all lines were done.
abbrev pub OneNeverWaits : {D : Type 0} → (D → Disk) → Type 0
OneNeverWaits {D} disk = (options : Options) (old new : RecordedView D) (lines : List (List ℕ)) (before after : Option (List ℕ)) → most_of options ≡ 1
    → Pauses disk options old lines before new after → Writes disk options old lines before new after
