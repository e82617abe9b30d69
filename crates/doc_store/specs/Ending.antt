-- For the clauses within the crate: the part of a life as its events are answered, and the ends of lives, before it is known what the crash kept.
use Rattle.std.specs.Prelude.{◌≡◌, ℕ, ◌-◌, ◌≤◌, List, [], ◌∷◌, true, if◌then◌else◌, Some, ◌+◌, ◌++◌, length, vec_len, vec_capacity}
use Rattle.sector_device.specs.Disk.{Disk, Image}
use Rattle.doc_changes.specs.State.{State}
use Rattle.store_commits.specs.Images.{Stands}
use Rattle.doc_store.specs.Lives.{LivesSo, accepted_of, replies_of}
use Rattle.doc_store.specs.Timed.{IsByClock, Left, left}
use Rattle.doc_store.specs.declared.life.Life.{Life}
use Rattle.doc_store.specs.declared.life.Part.{Part}
use Rattle.store_commits.specs.Account.{StoreView}
use Rattle.store_commits.specs.Events.{done_by, hit_by}
use Rattle.store_commits.specs.Run.{Event, Ran, dones_of, hits_of}
use Rattle.store_commits.specs.declared.event.Reply.{Reply}

-- a part that has what was kept, if the next opened life began with this number of accepted changes, and this one with
-- the number in that place
abbrev pub with_kept : Part → ℕ → Part
with_kept part next = record part { kept = if part.opened then next - part.kept else part.kept }

-- the number that it began with, or, if it was not opened, the next one
abbrev pub began_or : Part → ℕ → ℕ
began_or part next = if part.opened then part.kept else next

-- the same of parts, if the last number is this
abbrev pub next_of : List Part → ℕ → ℕ
next_of [] last = last
next_of (part ∷ parts) last = began_or part (next_of parts last)

abbrev pub all_with_kept : List Part → ℕ → List Part
all_with_kept [] last = []
all_with_kept (part ∷ parts) last = with_kept part (next_of parts last) ∷ all_with_kept parts last

-- a device on which `spent` of `stop` calls were made
pub record HasSpent (stop spent : ℕ) (disk : Disk) : Type 0 where
  pub calls_left : disk.calls_left ≡ Some (stop - spent)
  pub within : spent ≤ stop
  pub unsaturated : disk.failures_saturated → ⊥

-- lives one after another, by the clock if that is so
abbrev pub TimedIf : Type 0 → Left → List Life → List Part → Left → Type 0
TimedIf so = LivesSo (λ l. l.state) (λ l life part accounts t. so → IsByClock l life part accounts t)

-- With such an image the life leaves some state, which the image holds. Its part has what was kept once this state's
-- seq is known.
pub record Leaves (given : Disk) (l : Left) (life : Life) (part : Part) (image : Image) : Type 0 where
  pub state : State
  pub lived : TimedIf (HasSpent life.stop 0 given) l (life ∷ []) (with_kept part state.seq ∷ []) (left state image true)
  pub began : began_or part state.seq ≡ l.state.seq
  pub stands : Stands state image

-- there is room for `n` events more
pub record HasPlaces (n : ℕ) (p : Part) : Type 0 where
  pub replies : vec_len p.replies + n ≤ vec_capacity p.replies
  pub accepted : vec_len p.accepted + n ≤ vec_capacity p.accepted
  pub acknowledged : p.acknowledged + n ≤ vec_capacity p.accepted

-- the part now has the transaction that such a reply accepts, and not the reply itself yet
pub record Grows (e : Event) (r : Reply) (old new : Part) : Type 0 where
  pub replies : new.replies ≡ old.replies
  pub accepted : accepted_of new ≡ (accepted_of old ++ done_by e r) ++ hit_by e r
  pub acknowledged : new.acknowledged ≡ old.acknowledged + length (done_by e r)
  pub room : (n : ℕ) → HasPlaces (n + 1) old → HasPlaces n new

-- The events are a run of the store, and this is their part.
pub record Told {D : Type 0} (disk : D → Disk) (start end : StoreView D) (events : List Event) (p : Part) : Type 0 where
  pub ran : Ran disk start end events (replies_of p)
  pub accepted : accepted_of p ≡ dones_of events (replies_of p) ++ hits_of events (replies_of p)
  pub acknowledged : p.acknowledged ≡ length (dones_of events (replies_of p))
