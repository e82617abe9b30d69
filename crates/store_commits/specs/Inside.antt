-- The view of a journal and a machine as a store; and a batch that is being made, how its commits are planned and what is done of it already.
use Rattle.std.specs.Prelude.{◌≡◌, ◌≤◌, ◌<◌, length, true, None, Option, ◌⊎◌, ◌↔◌, ℕ, ◌+◌, List, [], ◌∷◌, ◌++◌, Bool, false, Some, Vec, if◌then◌else◌, ◌&&◌, nat_lt, ⊤}
use Rattle.sector_device.specs.Disk.{Disk, LeavesOnly}
use Rattle.store_journal.specs.JournalView.{JournalView, IsKept, carried_of}
use Rattle.doc_changes.specs.State.{State, Good}
use Rattle.record_text.specs.Change.{Change}
use Rattle.record_text.specs.Frame.{entry}
use Rattle.log_frames.specs.Kinds.{frame_as, logged}
use Rattle.log_frames.specs.declared.kind.Kind.{Kind}
use Rattle.log_frames.specs.declared.kind.Kind.TheVariants.{Last, More}
use Rattle.store_commits.specs.Account.{Account, StoreView, with_copy}
use Rattle.store_commits.specs.Copying.{IsCopied, Target, copy_of}
use Rattle.store_commits.specs.Images.{Holds, profile_in, version_of_frames}
use Rattle.std.specs.Global.{Global}
use Rattle.sector_device.specs.Sectors.{sectors_of}
use Rattle.store_journal.specs.Layout.{capacity_of}
use Rattle.store_journal.specs.Calls.{Appended, Broke, Replaced, Switched}
use Rattle.store_journal.specs.Carries.{Carried, EitherCarried, appended, replaced, switched}
use Rattle.store_journal.specs.Models.{model}
use Rattle.store_journal.specs.Writes.{append_calls, switch_calls}
use Rattle.slot_commits.specs.Loads.{number_end}
use Rattle.doc_changes.specs.Refusals.{plain}
use Rattle.doc_machine.specs.Trial.{TrialView}
use Rattle.refusals.specs.declared.numbers.TheConstants.{BROKEN, DEVICE, FULL}
use Rattle.doc_machine.specs.Transaction.{AreGood, Transaction, after_in, befores, changes_of, refusal_in}
use Rattle.store_commits.specs.Batch.{AreMade, Commit, HasNoRoom, IsBatch, IsForced, Slot, AreJudged, account_committed, asked, changes, replies_done, said, size_of, sizes_of, waiting, waits}
use Rattle.store_commits.specs.Folds.{AreFramedEach, after_each, all_changes, frames_each, frames_for}
use Rattle.store_commits.specs.Given.{bytes_each}
use Rattle.store_commits.specs.Replacing.{FitsAfter, account_after}
use Rattle.store_commits.specs.Snapshot.{FitNowhere, NeedsSnapshot, snapshot_bytes, account_with_snapshot}
use Rattle.store_commits.specs.Run.{Batched, Lasts, Reply, Done, Refused, dones_of, hits_of}
use Rattle.store_commits.specs.declared.segment.Fate.{Fate}
use Rattle.store_commits.specs.declared.segment.Fate.TheVariants.{Committed, InDoubt, NotBegun}
use Rattle.store_commits.specs.declared.plan.Planning.{Planning}
use Rattle.store_commits.specs.declared.segment.Base.{Base}
use Rattle.store_commits.specs.declared.segment.Base.TheVariants.{After, Before, Used}
use Rattle.store_commits.specs.declared.segment.Segment.{Segment}

-- the account of a journal and a machine, if no copy runs
abbrev pub account_of : {D : Type 0} → JournalView D → State → Account
account_of journal state = record {
  state = state;
  used = length journal.bytes;
  half = journal.half;
  rides = journal.rides;
  opens = journal.opens;
  identity = journal.identity;
  sectors = journal.sectors;
  broken = journal.broken;
  copy = None;
}

-- with the journal's device, and the copy that runs
abbrev pub store_view : {D : Type 0} → JournalView D → State → Option Target → StoreView D
store_view journal state copy = record { device = journal.device; account = with_copy (account_of journal state) (copy_of copy) }

-- the machine is what the journal's bytes hold, in format 2 or 3, with the journal's seq and the profile of its format
pub record IsHeld {D : Type 0} (disk : Disk) (journal : JournalView D) (state : State) : Type 0 where
  pub kept : IsKept disk journal
  pub version : journal.version ≡ 2
  pub settled : journal.settled ≡ true
  pub seq : journal.seq ≡ state.seq
  pub profile : profile_in journal.rides ≡ state.profile
  pub good : Good state
  pub held : disk.honest → Holds state.profile (version_of_frames journal.rides 2) state.seq journal.bytes state.documents state.marks

-- the same, and the copy that runs holds this state
pub record IsStored {D : Type 0} (disk : Disk) (journal : JournalView D) (state : State) (copy : Option Target) : Type 0 where
  pub held : IsHeld disk journal state
  pub copied : IsCopied disk journal state copy

-- numbers are left for that many commits
abbrev pub LeavesNumbers : {D : Type 0} → JournalView D → ℕ → Type 0
LeavesNumbers journal commits = journal.next + commits ≤ number_end

-- what the frame of a change holds that `left` frames of its transaction follow, by the format
abbrev pub kind_of : Bool → ℕ → Kind
kind_of rides left = if rides && nat_lt 0 left then More else Last

-- the frames of changes of a transaction that `more` frames of it follow
abbrev pub frames_before : Bool → ℕ → ℕ → List Change → List ℕ
frames_before rides more seq [] = []
frames_before rides more seq (c ∷ cs) = frame_as (logged (kind_of rides (length cs + more)) (entry (seq + 1) c)) ++ frames_before rides more (seq + 1) cs

-- ---- one commit

-- a reply that was to be given once the commit was made, as it is given
abbrev pub answered : Fate → Reply → Reply
answered Committed r = r
answered InDoubt (Done seq) = Refused (plain DEVICE)
answered InDoubt r = r
answered NotBegun r = Refused (plain BROKEN)

-- what is given back of these: all, once they are committed
abbrev pub given : {A : Type 0} → Fate → List A → List A
given Committed xs = xs
given _ xs = []

-- the state is good, and so is the one after each of their changes, and after each mark
abbrev pub AreGoodEach : State → List Transaction → Type 0
AreGoodEach s [] = Good s
AreGoodEach s (t ∷ ts) = AreGood s (changes_of t) × AreGoodEach (after_in s t) ts

-- The segment has the frames of these transactions and the number of their changes, which a journal can hold.
pub record HasFrames (rides : Bool) (s : State) (ts : List Transaction) (segment : Segment) : Type 0 where
  pub framed : AreFramedEach s.seq ts
  pub good : AreGoodEach s ts
  pub frames : segment.frames.items ≡ frames_for rides s.seq ts
  pub each : bytes_each segment.each.items ≡ frames_each rides s.seq ts
  pub adds : segment.adds ≡ length (all_changes ts)

-- nothing waits, and nothing is answered
pub record IsEmpty (segment : Segment) : Type 0 where
  pub base : segment.base ≡ Used
  pub frames : segment.frames.items ≡ []
  pub each : segment.each.items ≡ []
  pub adds : segment.adds ≡ 0
  pub replies : segment.replies.items ≡ []

-- The kinds of segments, by what their frames come after: its transactions were judged one after another, and fit beside one
-- another; or one goes after a snapshot; or the snapshot of the documents after one goes in place of its frames; or there is no room for one. It leads to an account, and the others are left.
pub data IsSegment (a : Account) (left : List Transaction) : Base → List Slot → Account → Type 0 where
  together : (slots : List Slot) → AreJudged a slots → IsForced (account_committed a slots) left → IsSegment a left Used slots (account_committed a slots)
  behind : (t : Transaction) (snapshot : Vec ℕ Global) → snapshot.items ≡ snapshot_bytes a.rides a.state.documents a.state.marks → refusal_in a.state t ≡ None → NeedsSnapshot a (size_of t)
      → IsSegment a left (Before snapshot) (waits t ∷ []) (account_committed (account_with_snapshot a) (waits t ∷ []))
  instead : (t : Transaction) (snapshot : Vec ℕ Global) → snapshot.items ≡ snapshot_bytes a.rides (after_in a.state t).documents (after_in a.state t).marks → refusal_in a.state t ≡ None → FitNowhere a (size_of t) → FitsAfter a t
      → IsSegment a left (After snapshot) (waits t ∷ []) (account_with_snapshot (account_after a t))
  full : (t : Transaction) → refusal_in a.state t ≡ None → HasNoRoom a t → IsSegment a left Used (said t (plain FULL) ∷ []) a

-- from an account, the segment answers the transactions that were judged in this way, once those that wait are committed
pub record IsPart (a : Account) (left : List Transaction) (segment : Segment) (slots : List Slot) (b : Account) : Type 0 where
  pub is : IsSegment a left segment.base slots b
  pub has : HasFrames a.rides a.state (waiting slots) segment
  pub replies : segment.replies.items ≡ replies_done a.state.seq slots

-- segments one after another, from an account to an account, and how their transactions were judged
pub data ArePlanned : Account → List Segment → List Slot → Account → Type 0 where
  none_planned : (a : Account) → ArePlanned a [] [] a
  one_planned : (a b d : Account) (segment : Segment) (segments : List Segment) (slots more : List Slot)
      → IsPart a (asked more) segment slots b → ArePlanned b segments more d → ArePlanned a (segment ∷ segments) (slots ++ more) d

-- the bytes of their frames
abbrev pub bytes_in : List Segment → ℕ
bytes_in [] = 0
bytes_in (segment ∷ segments) = length segment.frames.items + bytes_in segments

-- the number of their replies
abbrev pub replies_in : List Segment → ℕ
replies_in [] = 0
replies_in (segment ∷ segments) = length segment.replies.items + replies_in segments

-- of how many transactions they have frames
abbrev pub each_in : List Segment → ℕ
each_in [] = 0
each_in (segment ∷ segments) = length segment.each.items + each_in segments

-- Some part of a batch is answered by the segment, of a store that holds the state.
abbrev pub IsReady : {D : Type 0} → (D → Disk) → JournalView D → Option Target → Segment → Type 0
IsReady disk journal copy segment =
    (s : State) × (left : List Transaction) × (slots : List Slot) × (b : Account) × IsStored (disk journal.device) journal s copy
    × IsPart (with_copy (account_of journal s) (copy_of copy)) left segment slots b

-- ---- what a journal made of a segment

-- it was committed, or the device failed
abbrev pub fate_of : Bool → Fate
fate_of true = Committed
fate_of false = InDoubt

-- a commit that was to make this of a journal ended so; each image meanwhile carries the old bytes or the new
pub record IsTried {D : Type 0} (disk : D → Disk) (old new : JournalView D) (c : Carried) (Outcome : Type 0) : Type 0 where
  pub outcome : Outcome
  pub any_moment : (disk old.device).honest → LeavesOnly (model old.rides (disk old.device)) (model old.rides (disk new.device)) (EitherCarried (carried_of old) c)
  pub kept : IsKept (disk new.device) new
  pub honest : (disk old.device).honest ↔ (disk new.device).honest

-- the frames were appended, or the device failed
abbrev pub IsAppended : {D : Type 0} → (D → Disk) → JournalView D → JournalView D → List ℕ → ℕ → Bool → Type 0
IsAppended disk old new frames adds fine = IsTried disk old new (appended (carried_of old) frames adds)
    ((fine ≡ true → Appended (disk old.device) (disk new.device) old new frames adds)
    × (fine ≡ false → Broke (disk old.device) (disk new.device) (append_calls old.rides (length old.bytes) (length frames)) old new)
    × ((disk old.device).honest → new.copied ≡ old.copied))

-- the target was made to count, and then the frames were appended to it, or the device failed there; or it failed before
abbrev pub IsAppendedBehind : {D : Type 0} → (D → Disk) → JournalView D → JournalView D → List ℕ → List ℕ → ℕ → Bool → Type 0
IsAppendedBehind {D} disk old new target frames adds fine =
    ((mid : JournalView D) × IsTried disk old mid (switched (carried_of old) target) (Switched (disk old.device) (disk mid.device) old mid target (sectors_of (length target) + switch_calls old.rides (length target)))
    × IsAppended disk mid new frames adds fine)
    ⊎ ((fine ≡ false) × IsTried disk old new (switched (carried_of old) target) (Broke (disk old.device) (disk new.device) (sectors_of (length target) + switch_calls old.rides (length target)) old new))

-- the target was made to count with `adds` changes more, or the device failed
abbrev pub IsReplaced : {D : Type 0} → (D → Disk) → JournalView D → JournalView D → List ℕ → ℕ → Bool → Type 0
IsReplaced disk old new target adds fine = IsTried disk old new (replaced (carried_of old) target adds)
    ((fine ≡ true → Replaced (disk old.device) (disk new.device) old new target adds (sectors_of (length target) + switch_calls old.rides (length target)))
    × (fine ≡ false → Broke (disk old.device) (disk new.device) (sectors_of (length target) + switch_calls old.rides (length target)) old new))

-- ---- the part that is done

-- Transactions of a batch were given these replies, and however the others go on as a batch makes one with them; and what of these lasts.
pub record RanPrefix {D : Type 0} (disk : D → Disk) (old new : StoreView D) (cs : List Transaction) (replies : List Reply) (left : List Transaction) : Type 0 where
  pub commits : List Commit
  pub goes : (rs : List Reply) (more : List Commit) (end : Account) → IsBatch new.account left rs more end → IsBatch old.account (cs ++ left) (replies ++ rs) (commits ++ more) end
  pub made : AreMade disk old.device commits new.device
  pub paired : length cs ≡ length replies
  pub lasts : Lasts disk old new (dones_of (changes cs) replies) (hits_of (changes cs) replies)

-- Of transactions that were judged in this way the first were committed. The others a fault of the device hit, or they came after it: there are none while the store works.
pub record FirstCommitted (before after : Bool) (slots : List Slot) : Type 0 where
  pub first : List Slot
  pub lost : List Slot
  pub parts : first ++ lost ≡ slots
  pub none_lost : after ≡ false → lost ≡ []
  pub none_first : before ≡ true → first ≡ []

-- the journal holds the state with the first of them, and went on so
pub record AnswersPart {D : Type 0} (disk : D → Disk) (old : JournalView D) (s : State) (copy : Option Target) (slots : List Slot) (left : List Transaction) (b : Account) (new : JournalView D) (copied : Option Target) (replies : List Reply) : Type 0 where
  pub told : FirstCommitted old.broken new.broken slots
  pub stored : IsStored (disk new.device) new (after_each s (waiting told.first)) copied
  pub account : new.broken ≡ false → with_copy (account_of new (after_each s (waiting told.first))) (copy_of copied) ≡ b
  pub went : RanPrefix disk (store_view old s copy) (store_view new (after_each s (waiting told.first)) copied) (asked slots) replies left

-- Segments were committed, or the device failed in one of them; whatever replies were given already, and frames given back, the others are planned from there.
pub record HasCome {D : Type 0} (disk : D → Disk) (start : JournalView D) (s : State) (copy : Option Target) (slots : List Slot) (end : Account) (now : JournalView D) (copied : Option Target) (rest : List Segment) (replies : List Reply) (frames : List (List ℕ)) : Type 0 where
  pub first : List Slot
  pub left : List Slot
  pub parts : first ++ left ≡ slots
  pub mid : Account
  pub planned : ArePlanned mid rest left end
  pub was : AnswersPart disk start s copy first (asked left) mid now copied replies
  pub given : frames ≡ frames_each start.rides s.seq (dones_of (changes (asked first)) replies)
  pub framed : AreFramedEach s.seq (dones_of (changes (asked first)) replies)

-- the journal, the machine and the copy after a batch that was given these replies
pub record HasCommitted {D : Type 0} (disk : D → Disk) (old : StoreView D) (cs : List Transaction) (replies : List Reply) (now : JournalView D) (machine : State) (copied : Option Target) : Type 0 where
  pub stored : IsStored (disk now.device) now machine copied
  pub batched : Batched disk old (store_view now machine copied) cs replies

-- ---- the plan

-- the states before each change of transactions
abbrev pub befores_each : State → List Transaction → List State
befores_each s [] = []
befores_each s (t ∷ ts) = befores s (changes_of t) ++ befores_each (after_in s t) ts

-- a trial on which these transactions were made
abbrev pub tried_from : State → List Transaction → TrialView
tried_from s ts = record { state = after_each s ts; past = befores_each s ts }

-- From an account transactions were judged in this way: whatever more is planned after the segments from the account in
-- between makes a plan with them; the open segment has those since, and all that are accepted were made on the trial.
pub record IsPlanning (a : Account) (slots : List Slot) (p : Planning) (t : TrialView) : Type 0 where
  pub mid : Account
  pub closed : List Slot
  pub since : List Slot
  pub parts : closed ++ since ≡ slots
  pub goes : (more : List Segment) (xs : List Slot) (end : Account) → ArePlanned mid more xs end → ArePlanned a (p.segments.items ++ more) (closed ++ xs) end
  pub judged : AreJudged mid since
  pub has : HasFrames mid.rides mid.state (waiting since) p.last
  pub base : p.last.base ≡ Used
  pub replies : p.last.replies.items ≡ replies_done mid.state.seq since
  pub room : mid.used + sizes_of (waiting since) + p.left ≡ capacity_of mid.rides mid.sectors
  pub capacity : p.capacity ≡ capacity_of mid.rides mid.sectors
  pub rides : p.rides ≡ mid.rides
  pub state : t.state ≡ after_each mid.state (waiting since)
  pub tried : t ≡ tried_from a.state (waiting slots)
  pub bytes : p.bytes ≡ sizes_of (waiting slots)

-- the open segment is closed, this one comes after it, and nothing waits since
pub record IsClosed (old : Planning) (other : Segment) (new : Planning) : Type 0 where
  pub segments : new.segments.items ≡ (old.segments.items ++ old.last ∷ []) ++ other ∷ []
  pub last : IsEmpty new.last
  pub capacity : new.capacity ≡ old.capacity
  pub rides : new.rides ≡ old.rides

-- that one has these frames and one reply, and after it `used` bytes are used
pub record IsAlone (old : Planning) (base : Base) (used : ℕ) (frames : Vec ℕ Global) (adds seq : ℕ) (new : Planning) : Type 0 where
  pub other : Segment
  pub closed : IsClosed old other new
  pub base_is : other.base ≡ base
  pub frames_are : other.frames.items ≡ frames.items
  pub each_are : bytes_each other.each.items ≡ frames.items ∷ []
  pub adds_is : other.adds ≡ adds
  pub replies : other.replies.items ≡ Done seq ∷ []
  pub left : new.left + used ≡ old.capacity
  pub bytes : new.bytes ≡ old.bytes + length frames.items

-- the snapshot of the documents, if one may go in place of frames and fits
abbrev pub IsInstead : Planning → State → Option (Vec ℕ Global) → Type 0
IsInstead p s None = p.rides ≡ true → p.capacity < length (snapshot_bytes p.rides s.documents s.marks)
IsInstead p s (Some v) = (p.rides ≡ true) × (v.items ≡ snapshot_bytes p.rides s.documents s.marks) × (length v.items ≤ p.capacity)

-- or it only says that there is no room
pub record IsFull (old new : Planning) : Type 0 where
  pub other : Segment
  pub closed : IsClosed old other new
  pub base_is : other.base ≡ Used
  pub frames_are : other.frames.items ≡ []
  pub each_are : other.each.items ≡ []
  pub adds_is : other.adds ≡ 0
  pub replies : other.replies.items ≡ Refused (plain FULL) ∷ []
  pub left : new.left ≡ old.left
  pub bytes : new.bytes ≡ old.bytes

-- one transaction more was judged
abbrev pub PlansOneMore : Account → List Slot → Transaction → Planning → TrialView → Type 0
PlansOneMore a slots t p u = (slot : Slot) × (asked (slot ∷ []) ≡ t ∷ []) × IsPlanning a (slots ++ slot ∷ []) p u

-- All of these transactions are planned.
pub record ArePrepared (a : Account) (cs : List Transaction) (segments : List Segment) (t : TrialView) : Type 0 where
  pub slots : List Slot
  pub all : asked slots ≡ cs
  pub end : Account
  pub planned : ArePlanned a segments slots end
  pub tried : t ≡ tried_from a.state (waiting slots)
