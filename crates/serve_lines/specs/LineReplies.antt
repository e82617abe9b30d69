-- The answers to a request or a line, for private clauses.
use Rattle.std.specs.Prelude.{◌≡◌, ◌⊎◌, ◌<◌, ◌≤◌, List, [], ◌∷◌, ◌++◌, length, ℕ, Option, String, option_map, string_bytes, Result, Err, ⊤}
use Rattle.std.specs.Global.{Global}
use Rattle.sector_device.specs.Disk.{Disk}
use Rattle.doc_tree.specs.Doc.{Doc}
use Rattle.doc_machine.specs.Transaction.{Transaction}
use Rattle.doc_changes.specs.Refusals.{plain}
use Rattle.doc_changes.specs.declared.refusal.Refusal.{Refusal}
use Rattle.refusals.specs.declared.numbers.TheConstants.{MEMORY}
use Rattle.recorded_store.specs.Recorded.{Recorded, RecordedView, recorded_of}
use Rattle.store_commits.specs.Run as store
use Rattle.store_commits.specs.declared.event.Reply.{Reply as StoreReply}
use Rattle.store_commits.specs.declared.event.Reply.TheVariants as store_replies
use Rattle.store_commits.specs.Run.{Event, Ran, reply_of}
use Rattle.store_commits.specs.Copying.{PumpAnswers}
use Rattle.store_commits.specs.declared.pump.Pump.{Pump}
use Rattle.protocol.specs.Request.{Request}
use Rattle.protocol.specs.declared.limits.TheConstants.{LINE_BYTES}
use Rattle.protocol.specs.declared.request.Request.{Request as ReadRequest}
use Rattle.protocol.specs.Reply.{refusal_reply}
use Rattle.protocol.specs.Says.{Says}
use Rattle.protocol.specs.declared.reply.Reply.{Reply}
use Rattle.protocol.specs.declared.reply.Reply.TheVariants.{Changed, Snapshot, Pumped, Sealed, Refused}
use Rattle.serve_lines.specs.Session.{AnswersBatch, ChangesNothing, Does, Follows, HasDone, Replies, WantsStep, alone}
use Rattle.serve_lines.specs.declared.options.Options.{Options}

-- Memory ran out for no line that is too long.
abbrev pub IsWithinIfMemory : List ℕ → Result ReadRequest Refusal → Type 0
IsWithinIfMemory line asked = asked ≡ Err (plain MEMORY) → length line ≤ LINE_BYTES

-- From old, a request was given this reply, or memory ran out, and led to new.
abbrev pub AnswersRequest : Recorded → Request → List Event → List StoreReply → Doc → Recorded → Type 0
AnswersRequest old request events said reply new =
    ((reply ≡ refusal_reply (plain MEMORY)) × ChangesNothing old events said new) ⊎ Replies old request events said reply new

-- The store made a run of these events, or was asked for nothing and hasn't changed.
abbrev pub IsRunFrom : {D : Type 0} → (D → Disk) → RecordedView D → List Event → List StoreReply → RecordedView D → Type 0
IsRunFrom disk old events said new = ((new ≡ old) × (events ≡ []) × (said ≡ [])) ⊎ Ran disk old.store new.store events said

-- A step of a copy was made if one is wanted, and else nothing.
abbrev pub MakesCopyStep : {D : Type 0} → (D → Disk) → Options → RecordedView D → RecordedView D → Type 0
MakesCopyStep disk options old new =
    (WantsStep options old.account × ((outcome : Result Pump Refusal) × PumpAnswers old.account options.pump outcome new.account × (new.history ≡ old.history) × Ran disk old.store new.store (store.pump options.pump ∷ []) (reply_of store_replies.Pumped outcome ∷ [])))
    ⊎ ((WantsStep options old.account → ⊥) × (new ≡ old))

-- The same after these replies, if one of them says that a transaction was done.
abbrev pub FollowsBatch : {D : Type 0} → (D → Disk) → Options → List StoreReply → RecordedView D → RecordedView D → Type 0
FollowsBatch disk options said old new = (HasDone said × MakesCopyStep disk options old new) ⊎ ((HasDone said → ⊥) × (new ≡ old))

-- From old, something was answered by these events of the store, with what follows it, and what the store was asked for both.
pub record Led {D : Type 0} (disk : D → Disk) (options : Options) (Answered : List Event → List StoreReply → Recorded → Type 0) (old new : RecordedView D) : Type 0 where
  pub mid : Recorded
  pub own : List Event
  pub own_said : List StoreReply
  pub answers : Answered own own_said mid
  pub more : List Event
  pub more_said : List StoreReply
  pub follows : Follows options own_said mid more more_said (recorded_of new)
  pub led : IsRunFrom disk old (own ++ more) (own_said ++ more_said) new

-- A request was.
abbrev pub RequestIsAnswered : {D : Type 0} → (D → Disk) → Options → RecordedView D → Request → Doc → RecordedView D → Type 0
RequestIsAnswered disk options old request reply new = Led disk options (λ own said mid. AnswersRequest (recorded_of old) request own said reply mid) old new

-- The same with nothing after it, whatever the options.
abbrev pub IsAnsweredAlone : {D : Type 0} → (D → Disk) → RecordedView D → Request → Doc → RecordedView D → Type 0
IsAnsweredAlone disk old request reply new = (options : Options) → RequestIsAnswered disk options old request reply new

-- What a line by itself led to, with what follows it, and with what the store was asked for both.
pub record LineIsAnswered {D : Type 0} (disk : D → Disk) (options : Options) (old : RecordedView D) (line : List ℕ) (reply : Doc) (new : RecordedView D) : Type 0 where
  pub events : List Event
  pub said : List StoreReply
  pub does : Does options (recorded_of old) (alone line) events said (reply ∷ []) (recorded_of new)
  pub led : IsRunFrom disk old events said new

-- The transactions of one batch were.
abbrev pub BatchIsAnswered : {D : Type 0} → (D → Disk) → Options → RecordedView D → List Transaction → List Doc → RecordedView D → Type 0
BatchIsAnswered disk options old ts replies new = Led disk options (λ own said mid. AnswersBatch (recorded_of old) ts own said replies mid) old new

-- The transactions that waited, if any did, were done as one batch.
abbrev pub EndsBatch : {D : Type 0} → (D → Disk) → Options → RecordedView D → List Transaction → List Doc → RecordedView D → Type 0
EndsBatch disk options old cs replies new = ((cs ≡ []) × (replies ≡ []) × (new ≡ old)) ⊎ ((0 < length cs) × BatchIsAnswered disk options old cs replies new)

-- a reply of the store, as a session's
abbrev pub shown_as : StoreReply → Reply
shown_as (store_replies.Done seq) = Changed seq
shown_as (store_replies.Snapped used) = Snapshot used
shown_as (store_replies.Pumped step) = Pumped step
shown_as store_replies.Sealed = Sealed
shown_as (store_replies.Refused refusal) = Refused refusal

-- the replies say these documents, one each
abbrev pub AllSay : List Reply → List Doc → Type 0
AllSay [] [] = ⊤
AllSay [] (said ∷ docs) = ⊥
AllSay (reply ∷ replies) [] = ⊥
AllSay (reply ∷ replies) (said ∷ docs) = Says reply said × AllSay replies docs

-- the key of a mark, if there is one, without its place in memory
abbrev pub key_in : Option (String Global) → Option (List ℕ)
key_in key = option_map string_bytes key
