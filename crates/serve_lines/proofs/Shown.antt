-- A reply that is shown, or want of memory for it.
use Rattle.std.proofs.Common.{◌≡◌, ◌⊎◌, ◌≤◌, inl, inr, refl, ℕ, List, [], ◌∷◌, ◌++◌, length, Result, Ok, Err}
use Rattle.sector_device.specs.Disk.{Disk}
use Rattle.doc_tree.specs.Doc.{Doc}
use Rattle.doc_changes.specs.Refusals.{plain}
use Rattle.doc_changes.specs.declared.refusal.Refusal.{Refusal}
use Rattle.refusals.specs.declared.numbers.TheConstants.{MEMORY}
use Rattle.recorded_store.specs.Recorded.{Recorded, RecordedView, recorded_of}
use Rattle.store_commits.specs.Snapshot.{SnapshotAnswers}
use Rattle.store_commits.specs.Copying.{PumpAnswers}
use Rattle.store_commits.specs.Sealing.{SealAnswers}
use Rattle.store_commits.specs.declared.pump.Pump.{Pump}
use Rattle.store_commits.specs.Run as store
use Rattle.store_commits.specs.declared.event.Reply.{Reply as StoreReply}
use Rattle.store_commits.specs.Run.{Event, reply_of, Ran}
use Rattle.store_commits.specs.declared.event.Reply.TheVariants.{Snapped, Pumped, Sealed, Refused}
use Rattle.protocol.specs.Request.{Request, Asks, snapshot, pump, seal}
use Rattle.protocol.specs.Reply.{refusal_reply}
use Rattle.protocol.specs.declared.limits.TheConstants.{LINE_BYTES}
use Rattle.serve_lines.specs.Session.{AnswersOther, Follows, HasDone, Replies, shown_reply}
use Rattle.protocol.specs.Says.{Says}
use Rattle.serve_lines.specs.LineReplies.{AnswersRequest, IsAnsweredAlone, LineIsAnswered, RequestIsAnswered}
use Rattle.serve_lines.specs.declared.options.Options.{Options}
use Rattle.protocol.specs.declared.reply.Reply.{Reply}

pub shows : (account : Recorded) (request : Request) (said : Reply) (reply : Doc) → Replies account request [] [] reply account → Says said reply ⊎ Says said (refusal_reply (plain MEMORY))
    → (x : Doc) × Says said x × AnswersRequest account request [] [] x account
shows account request said reply r h = elim h [
  | inl s ↦ (reply, s, inr r)
  | inr s ↦ (refusal_reply (plain MEMORY), s, inl (refl, (refl, refl, refl)))
]

-- no change was done, so nothing follows
not_due : (options : Options) (said : List StoreReply) (a : Recorded) → (HasDone said → ⊥) → Follows options said a [] [] a
not_due options said a none = inr (λ due. none due.0, (refl, refl, refl))

-- a question is answered so, and the store isn't asked
pub asks_nothing : {D : Type 0} (disk : D → Disk) (old : RecordedView D) (request : Request) (said : Reply) → (x : Doc) × Says said x × AnswersRequest (recorded_of old) request [] [] x (recorded_of old)
    → (x : Doc) × Says said x × IsAnsweredAlone disk old request x old
asks_nothing disk old request said h = (
  h.0,
  h.1,
  λ options. record {
    mid = recorded_of old;
    own = [];
    own_said = [];
    answers = h.2;
    more = [];
    more_said = [];
    follows = not_due options [] (recorded_of old) (λ none. absurd (cc none));
    led = inl (refl, refl, refl);
  },
)

-- a line is answered so, and the store isn't asked
pub unasked : {D : Type 0} (disk : D → Disk) (options : Options) (old : RecordedView D) (line : List ℕ) (reply : Doc) → AnswersOther (recorded_of old) line [] [] reply (recorded_of old) → LineIsAnswered disk options old line reply old
unasked disk options old line reply h = record {
  events = [];
  said = [];
  does = record {
    mid = recorded_of old;
    own = [];
    own_said = [];
    answers = (reply, refl, h);
    more = [];
    more_said = [];
    follows = not_due options [] (recorded_of old) (λ none. absurd (cc none));
    events_are = refl;
    said_are = refl;
  };
  led = inl (refl, refl, refl);
}

-- one event of the store that is no change which was done, and nothing behind it
one_event : {D : Type 0} (disk : D → Disk) (options : Options) (old new : RecordedView D) (request : Request) (reply : Doc) (event : Event) (said : StoreReply) → (HasDone (said ∷ []) → ⊥)
    → Replies (recorded_of old) request (event ∷ []) (said ∷ []) reply (recorded_of new) → Ran disk old.store new.store (event ∷ []) (said ∷ []) → RequestIsAnswered disk options old request reply new
one_event disk options old new request reply event said none replies ran = record {
  mid = recorded_of new;
  own = event ∷ [];
  own_said = said ∷ [];
  answers = inr replies;
  more = [];
  more_said = [];
  follows = not_due options (said ∷ []) (recorded_of new) none;
  led = inr ran;
}

-- a snapshot is one event, and nothing follows it
pub is_snapshot_event : {D : Type 0} (disk : D → Disk) (old new : RecordedView D) (outcome : Result ℕ Refusal) → SnapshotAnswers old.account outcome new.account
    → new.history ≡ old.history → Ran disk old.store new.store (store.snapshot ∷ []) (reply_of Snapped outcome ∷ []) → IsAnsweredAlone disk old snapshot (shown_reply (reply_of Snapped outcome)) new
is_snapshot_event disk old new (Ok used) answers kept ran = λ options.
    one_event disk options old new snapshot (shown_reply (reply_of Snapped (Ok used))) store.snapshot (Snapped used) (λ none. absurd (cc none)) (Ok used, answers, kept, refl, refl, refl) ran
is_snapshot_event disk old new (Err refusal) answers kept ran = λ options.
    one_event disk options old new snapshot (shown_reply (reply_of Snapped (Err refusal))) store.snapshot (Refused refusal) (λ none. absurd (cc none)) (Err refusal, answers, kept, refl, refl, refl) ran

-- and so is a step of a copy that was asked for
pub is_pump_event : {D : Type 0} (disk : D → Disk) (old new : RecordedView D) (most : ℕ) (outcome : Result Pump Refusal) → PumpAnswers old.account most outcome new.account
    → new.history ≡ old.history → Ran disk old.store new.store (store.pump most ∷ []) (reply_of Pumped outcome ∷ []) → IsAnsweredAlone disk old (pump most) (shown_reply (reply_of Pumped outcome)) new
is_pump_event disk old new most (Ok step) answers kept ran = λ options.
    one_event disk options old new (pump most) (shown_reply (reply_of Pumped (Ok step))) (store.pump most) (Pumped step) (λ none. absurd (cc none)) (Ok step, answers, kept, refl, refl, refl) ran
is_pump_event disk old new most (Err refusal) answers kept ran = λ options.
    one_event disk options old new (pump most) (shown_reply (reply_of Pumped (Err refusal))) (store.pump most) (Refused refusal) (λ none. absurd (cc none)) (Err refusal, answers, kept, refl, refl, refl) ran

-- and so is a seal
pub is_seal_event : {D : Type 0} (disk : D → Disk) (old new : RecordedView D) (outcome : Result (Unit {0}) Refusal) → SealAnswers old.account outcome new.account
    → new.history ≡ old.history → Ran disk old.store new.store (store.seal ∷ []) (reply_of (λ done. Sealed) outcome ∷ []) → IsAnsweredAlone disk old seal (shown_reply (reply_of (λ done. Sealed) outcome)) new
is_seal_event disk old new (Ok done) answers kept ran = λ options.
    one_event disk options old new seal (shown_reply (reply_of {A = Unit {0}} (λ done. Sealed) (Ok done))) store.seal Sealed (λ none. absurd (cc none)) (Ok done, answers, kept, refl, refl, refl) ran
is_seal_event disk old new (Err refusal) answers kept ran = λ options.
    one_event disk options old new seal (shown_reply (reply_of {A = Unit {0}} (λ done. Sealed) (Err refusal))) store.seal (Refused refusal) (λ none. absurd (cc none)) (Err refusal, answers, kept, refl, refl, refl) ran

-- a line that asks for a request isn't too long
asked_short : (line : List ℕ) (request : Request) → Asks line (Ok request) → length line ≤ LINE_BYTES
asked_short line request (inl long) = absurd (cc long.1)
asked_short line request (inr is) = is.0

-- a line that asks for a request, no change, is answered as the request is
pub asks_so : {D : Type 0} (disk : D → Disk) (options : Options) (old new : RecordedView D) (line : List ℕ) (request : Request) (reply : Doc) → Asks line (Ok request)
    → RequestIsAnswered disk options old request reply new → LineIsAnswered disk options old line reply new
asks_so disk options old new line request reply asks h = record {
  events = h.own ++ h.more;
  said = h.own_said ++ h.more_said;
  does = record {
    mid = h.mid;
    own = h.own;
    own_said = h.own_said;
    answers = (
      reply,
      refl,
      elim h.answers [
        | inl memory ↦ inl (memory.0, asked_short line request asks, memory.1)
        | inr replies ↦ inr (Ok request, asks, replies)
      ],
    );
    more = h.more;
    more_said = h.more_said;
    follows = h.follows;
    events_are = refl;
    said_are = refl;
  };
  led = h.led;
}
