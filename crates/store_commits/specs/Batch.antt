-- Batches: transactions judged one after another and committed together, with as few commits as their frames' room allows.
use Rattle.std.specs.Prelude.{Bool, ◌≡◌, ◌≢◌, ℕ, ◌+◌, List, [], ◌∷◌, length, map, false, ⊤, Option, None, Some, option_map, ◌⊎◌, ◌++◌, true}
use Rattle.store_journal.specs.Models.{model}
use Rattle.store_journal.specs.Writes.{append_calls}
use Rattle.record_text.specs.Change.{Change}
use Rattle.record_text.specs.Frame.{body_of}
use Rattle.log_frames.specs.Kinds.{note}
use Rattle.doc_changes.specs.Refusals.{plain}
use Rattle.doc_machine.specs.Transaction.{RefusesTransaction, Transaction, after_in, changes_of, marked, refusal_in, several, single}
use Rattle.doc_changes.specs.declared.refusal.Refusal.{Refusal}
use Rattle.refusals.specs.declared.numbers.TheConstants.{DEVICE, FULL, BROKEN}
use Rattle.store_commits.specs.Account.{Account, Copy, account_broken, StoreView, EndsWith, IsEndingWith, StandsAs, extent_of}
use Rattle.store_commits.specs.Events.{Event, Reply, change, Done, Refused}
use Rattle.store_commits.specs.Snapshot.{FitNowhere, Fits, IsOver, NeedsSnapshot, snapshot_bytes, account_with_snapshot, calls_of_snapshot}
use Rattle.store_commits.specs.Replacing.{FitsAfter, IsOverAfter, account_after}
use Rattle.sector_device.specs.Disk.{Disk, Image}
use Rattle.sector_device.specs.Charges.{Made, Failed}
use Rattle.store_commits.specs.Folds.{frames_for}

-- the bytes of the frames of changes, whatever their seqs: of each, its length and its seq take 12, and then the body
abbrev pub frame_sizes : List Change → ℕ
frame_sizes [] = 0
frame_sizes (c ∷ cs) = (12 + length (body_of c)) + frame_sizes cs

-- those of the frame of its mark, if it sets one
abbrev pub mark_size : Transaction → ℕ
mark_size (single c) = 0
mark_size (several cs) = 0
mark_size (marked m cs) = 12 + length (body_of (note m.key m.value))

-- the bytes of the frames of a transaction
abbrev pub size_of : Transaction → ℕ
size_of t = frame_sizes (changes_of t) + mark_size t

-- the target of a running copy grows by `n` bytes
abbrev pub copy_with : Option Copy → ℕ → Option Copy
copy_with k n = option_map (λ (c : Copy). record c { target = c.target + n }) k

-- how a transaction was judged: it is accepted and waits for the commit, or it is refused
pub data Slot : Type 0 where
  waits : Transaction → Slot
  said : Transaction → Refusal → Slot

-- the transactions, in their order
abbrev pub asked : List Slot → List Transaction
asked [] = []
asked (waits t ∷ slots) = t ∷ asked slots
asked (said t r ∷ slots) = t ∷ asked slots

-- those that wait
abbrev pub waiting : List Slot → List Transaction
waiting [] = []
waiting (waits t ∷ slots) = t ∷ waiting slots
waiting (said t r ∷ slots) = waiting slots

-- each as an event
abbrev pub changes : List Transaction → List Event
changes ts = map change ts

-- the bytes of the frames of all of them
abbrev pub sizes_of : List Transaction → ℕ
sizes_of [] = 0
sizes_of (t ∷ ts) = size_of t + sizes_of ts

-- the account once the transaction's frames come after the used bytes, and after the target of a copy that runs
abbrev pub account_behind : Account → Transaction → Account
account_behind a t = record a { state = after_in a.state t; used = a.used + size_of t; copy = copy_with a.copy (size_of t) }

-- the account once all that wait are committed
abbrev pub account_committed : Account → List Slot → Account
account_committed a [] = a
account_committed a (waits t ∷ slots) = account_committed (account_behind a t) slots
account_committed a (said t r ∷ slots) = account_committed a slots

-- Each was judged after those before it: one that waits is accepted, and its frames fit after theirs; another is refused by the documents, or for patterns that are too large, or because memory was refused to its judgement.
abbrev pub AreJudged : Account → List Slot → Type 0
AreJudged a [] = ⊤
AreJudged a (waits t ∷ slots) = (refusal_in a.state t ≡ None) × Fits a (size_of t) × AreJudged (account_behind a t) slots
AreJudged a (said t r ∷ slots) = RefusesTransaction a.state t r × AreJudged a slots

-- the replies of one commit from this seq on: to one that waited the new seq, to another why not
abbrev pub replies_done : ℕ → List Slot → List Reply
replies_done seq [] = []
replies_done seq (waits t ∷ slots) = Done (seq + length (changes_of t)) ∷ replies_done (seq + length (changes_of t)) slots
replies_done seq (said t r ∷ slots) = Refused r ∷ replies_done seq slots

-- those of a commit that a fault of the device hit: each that waited is in doubt, and the other refusals stay
abbrev pub replies_in_doubt : List Slot → List Reply
replies_in_doubt [] = []
replies_in_doubt (waits t ∷ slots) = Refused (plain DEVICE) ∷ replies_in_doubt slots
replies_in_doubt (said t r ∷ slots) = Refused r ∷ replies_in_doubt slots

-- the calls of the device that the commit makes: those of an append of all frames, or none if nothing waits
abbrev pub calls_for : Bool → ℕ → List Transaction → ℕ
calls_for rides used [] = 0
calls_for rides used (t ∷ ts) = append_calls rides used (sizes_of (t ∷ ts))

-- the store works and they were judged; those that wait were committed by one append
pub record AreCommitted (old : Account) (slots : List Slot) (new : Account) : Type 0 where
  pub works : old.broken ≡ false
  pub judged : AreJudged old slots
  pub new_is : new ≡ account_committed old slots

-- one waited at least, and a fault of the device hit the commit: the store is broken, no copy runs, and nothing else has changed
pub record AreInDoubt (old : Account) (slots : List Slot) (new : Account) : Type 0 where
  pub works : old.broken ≡ false
  pub judged : AreJudged old slots
  pub some : waiting slots ≢ []
  pub new_is : new ≡ account_broken old

-- The purpose of a commit: by `calls` calls of the device it makes this account, and the committed bytes then end with these.
pub record Intent : Type 0 where
  pub calls : ℕ
  pub made : Account
  pub ending : List ℕ

-- those that wait: the frames of all their changes, each with its own seq, and of their marks
abbrev pub to_append : Account → List Slot → Intent
to_append a slots = record { calls = calls_for a.rides a.used (waiting slots); made = account_committed a slots; ending = frames_for a.rides a.state.seq (waiting slots) }

-- a snapshot
abbrev pub to_snapshot : Account → Intent
to_snapshot a = record { calls = calls_of_snapshot a; made = account_with_snapshot a; ending = snapshot_bytes a.rides a.state.documents a.state.marks }

-- the snapshot of the state after the transaction
abbrev pub to_replace : Account → Transaction → Intent
to_replace a t = to_snapshot (account_after a t)

-- a commit as it went: each of its calls passed; or one failed, and then a crash leaves what it was to make, or this account
pub data Commit : Type 0 where
  passed : Intent → Commit
  failed : Intent → (kept : Account) → Commit

-- one commit, or none if nothing waits for it
abbrev pub commit_for : List Transaction → Commit → List Commit
commit_for [] k = []
commit_for (t ∷ ts) k = k ∷ []

-- the first of the transactions, if there is one, is accepted by the documents and has no room after the used bytes
abbrev pub IsForced : Account → List Transaction → Type 0
IsForced a [] = ⊤
IsForced a (t ∷ ts) = (refusal_in a.state t ≡ None) × IsOver a (size_of t)

-- the store works, the documents accept the transaction, and a snapshot makes room for its frames
pub record GoesBehind (a : Account) (t : Transaction) : Type 0 where
  pub works : a.broken ≡ false
  pub accepted : refusal_in a.state t ≡ None
  pub needs : NeedsSnapshot a (size_of t)

-- the store works, the documents accept the transaction, and its frames fit nowhere, but the snapshot of the documents after it fits
pub record GoesAsSnapshot (a : Account) (t : Transaction) : Type 0 where
  pub works : a.broken ≡ false
  pub accepted : refusal_in a.state t ≡ None
  pub nowhere : FitNowhere a (size_of t)
  pub fits : FitsAfter a t

-- its frames fit nowhere, and that snapshot doesn't fit either
abbrev pub HasNoRoom : Account → Transaction → Type 0
HasNoRoom a t = FitNowhere a (size_of t) × IsOverAfter a t

-- A whole batch from an account to an account: the transactions, their replies, and the commits. A commit ends at the end, or before one that is accepted and doesn't fit beside those that wait. That one goes on by itself.
pub data IsBatch : Account → List Transaction → List Reply → List Commit → Account → Type 0 where
  no_more : (a : Account) → IsBatch a [] [] [] a
  -- those that wait are committed together
  commit_made : (a b d : Account) (slots : List Slot) (ts : List Transaction) (replies : List Reply) (more : List Commit)
      → AreCommitted a slots b → IsForced b ts → IsBatch b ts replies more d
      → IsBatch a (asked slots ++ ts) (replies_done a.state.seq slots ++ replies) (commit_for (waiting slots) (passed (to_append a slots)) ++ more) d
  -- or a fault of the device hits their commit
  commit_in_doubt : (a b d : Account) (slots : List Slot) (ts : List Transaction) (replies : List Reply) (more : List Commit)
      → AreInDoubt a slots b → IsForced (account_committed a slots) ts → IsBatch b ts replies more d
      → IsBatch a (asked slots ++ ts) (replies_in_doubt slots ++ replies) (failed (to_append a slots) b ∷ more) d
  -- a snapshot makes room for one, and then it is committed
  room_made : (a b d : Account) (t : Transaction) (ts : List Transaction) (replies : List Reply) (more : List Commit)
      → GoesBehind a t → AreCommitted (account_with_snapshot a) (waits t ∷ []) b → IsBatch b ts replies more d
      → IsBatch a (t ∷ ts) (replies_done a.state.seq (waits t ∷ []) ++ replies) (passed (to_snapshot a) ∷ passed (to_append (account_with_snapshot a) (waits t ∷ [])) ∷ more) d
  -- or a fault hits its commit
  behind_in_doubt : (a b d : Account) (t : Transaction) (ts : List Transaction) (replies : List Reply) (more : List Commit)
      → GoesBehind a t → AreInDoubt (account_with_snapshot a) (waits t ∷ []) b → IsBatch b ts replies more d
      → IsBatch a (t ∷ ts) (Refused (plain DEVICE) ∷ replies) (passed (to_snapshot a) ∷ failed (to_append (account_with_snapshot a) (waits t ∷ [])) b ∷ more) d
  -- or the snapshot
  room_in_doubt : (a d : Account) (t : Transaction) (ts : List Transaction) (replies : List Reply) (more : List Commit)
      → GoesBehind a t → IsBatch (account_broken a) ts replies more d → IsBatch a (t ∷ ts) (Refused (plain DEVICE) ∷ replies) (failed (to_snapshot a) (account_broken a) ∷ more) d
  -- or the snapshot of the documents after it is committed in place of its frames
  as_snapshot : (a d : Account) (t : Transaction) (ts : List Transaction) (replies : List Reply) (more : List Commit)
      → GoesAsSnapshot a t → IsBatch (account_with_snapshot (account_after a t)) ts replies more d
      → IsBatch a (t ∷ ts) (replies_done a.state.seq (waits t ∷ []) ++ replies) (passed (to_replace a t) ∷ more) d
  -- or a fault hits that commit
  as_snapshot_in_doubt : (a d : Account) (t : Transaction) (ts : List Transaction) (replies : List Reply) (more : List Commit)
      → GoesAsSnapshot a t → IsBatch (account_broken a) ts replies more d → IsBatch a (t ∷ ts) (Refused (plain DEVICE) ∷ replies) (failed (to_replace a t) (account_broken a) ∷ more) d
  -- neither a snapshot of the documents before it makes room for it, nor has a half room for that of the documents after it
  is_full : (a d : Account) (t : Transaction) (ts : List Transaction) (replies : List Reply) (more : List Commit)
      → a.broken ≡ false → refusal_in a.state t ≡ None → HasNoRoom a t → IsBatch a ts replies more d → IsBatch a (t ∷ ts) (Refused (plain FULL) ∷ replies) more d
  -- once the store is broken each is answered with that
  stays_broken : (a d : Account) (t : Transaction) (ts : List Transaction) (replies : List Reply) (more : List Commit)
      → a.broken ≡ true → IsBatch a ts replies more d → IsBatch a (t ∷ ts) (Refused (plain BROKEN) ∷ replies) more d

-- the calls passed, and each image that a crash may leave then is one of the account that was to be made, and its bytes end with these
pub record PassedCommit {D : Type 0} (disk : D → Disk) (old new : D) (k : Intent) : Type 0 where
  pub passed : Made (disk old) (disk new) k.calls
  pub leaves : IsEndingWith k.ending (disk new) k.made

-- one of at most `calls` calls failed, and each image that a crash may leave then is one of the old account or of the new one
pub record FailedCommit {D : Type 0} (disk : D → Disk) (old new : D) (k : Intent) (kept : Account) : Type 0 where
  pub failed : Failed (disk old) (disk new) k.calls
  pub leaves : (disk new).honest → (image : Image) → (model kept.rides (disk new)).left image → StandsAs (extent_of kept) image ⊎ EndsWith k.ending (extent_of k.made) image

-- the commits one after another, from a device to a device: nothing else is asked of it
abbrev pub AreMade : {D : Type 0} → (D → Disk) → D → List Commit → D → Type 0
AreMade {D} disk old [] new = new ≡ old
AreMade {D} disk old (passed k ∷ commits) new = (mid : D) × PassedCommit disk old mid k × AreMade disk mid commits new
AreMade {D} disk old (failed k kept ∷ commits) new = (mid : D) × FailedCommit disk old mid k kept × AreMade disk mid commits new

-- a whole batch, what its commits asked of the device, and what they left on it
pub record BatchIsMade {D : Type 0} (disk : D → Disk) (old : StoreView D) (ts : List Transaction) (replies : List Reply) (new : StoreView D) : Type 0 where
  pub commits : List Commit
  pub batch : IsBatch old.account ts replies commits new.account
  pub made : AreMade disk old.device commits new.device
