-- The seal at the end of a session.
use Rattle.std.specs.Prelude.{◌≡◌, ◌≢◌, ◌⊎◌, List, [], ◌∷◌, false, Result}
use Rattle.sector_device.specs.Disk.{Disk}
use Rattle.doc_changes.specs.declared.refusal.Refusal.{Refusal}
use Rattle.store_commits.specs.Account.{Account, StoreView}
use Rattle.store_commits.specs.Run.{Event, Ran, reply_of, seal}
use Rattle.store_commits.specs.Sealing.{SealAnswers}
use Rattle.store_commits.specs.declared.event.Reply.{Reply}
use Rattle.store_commits.specs.declared.event.Reply.TheVariants.{Sealed}

-- a store that works has accepted changes since
abbrev pub HasChanged : Account → Account → Type 0
HasChanged old now = (now.broken ≡ false) × (now.state.seq ≢ old.state.seq)

-- A session began with old and left mid: if that works and has accepted changes it is sealed, as one event more, and else nothing is done. A seal that was
-- refused changes nothing, and one that a fault of the device hit breaks the store, which holds all that was answered.
pub record IsSealedAtEnd {D : Type 0} (disk : D → Disk) (old mid new : StoreView D) : Type 0 where
  pub events : List Event
  pub said : List Reply
  pub how : (HasChanged old.account mid.account
      × ((outcome : Result (Unit {0}) Refusal) × SealAnswers mid.account outcome new.account × (events ≡ seal ∷ []) × (said ≡ reply_of (λ done. Sealed) outcome ∷ [])))
      ⊎ ((HasChanged old.account mid.account → ⊥) × (events ≡ []) × (said ≡ []) × (new ≡ mid))
  pub ran : Ran disk mid new events said
