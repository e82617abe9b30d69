-- What a batch tells its history, and what a call leaves that does no transaction.
use Rattle.std.proofs.Common.{◌≡◌, ℕ, ◌≤◌, Bool, List, [], ◌∷◌, length, sym, ap, subst, ◌∙◌, arith}
use Rattle.change_history.specs.History.{History, newest, with_each}
use Rattle.doc_changes.specs.State.{State}
use Rattle.doc_machine.specs.Transaction.{Transaction, after_in}
use Rattle.store_commits.specs.Account.{StoreView}
use Rattle.store_commits.specs.Batch.{changes}
use Rattle.store_commits.specs.Events.{Event, dones_of}
use Rattle.store_commits.specs.Folds.{after_each}
use Rattle.store_commits.specs.Given.{GivesBack, bytes_each}
use Rattle.store_commits.specs.Run.{Batched, Ran}
use Rattle.store_commits.specs.declared.batch.Committed.{Committed}
use Rattle.store_commits.specs.declared.event.Reply.{Reply}
use Rattle.store_commits.specs.declared.event.Reply.TheVariants.{Done, Snapped, Pumped, Sealed, Refused}
use Rattle.store_commits.proofs.Changes.{seq_after, seq_counts, some_accepted}
use Rattle.store_commits.proofs.Given.{length_each}
use Rattle.store_commits.proofs.Went.{AllAccepted, run_went}
use Rattle.recorded_store.specs.Numbers.{Rise, numbers_each, numbers_in, told_with}
use Rattle.recorded_store.specs.Recorded.{IsRecord, Records}
use Rattle.told_transactions.specs.Told.{told_each}
use Rattle.recorded_store.proofs.Counting.{batch_counts}
use Rattle.told_transactions.proofs.Records.{KeepsSome, keeps_each, newest-each, newest-with_each}
use Rattle.recorded_store.proofs.Telling.{as_many, numbers_are, told_are}
use Rattle.sector_device.specs.Disk.{Disk}

-- ---- how many were done, and their numbers

dones_few : (ts : List Transaction) (rs : List Reply) → length (dones_of (changes ts) rs) ≤ length ts
dones_few [] rs = omega arith
dones_few (t ∷ ts) [] = omega arith
dones_few (t ∷ ts) (Done seq ∷ rs) = let more = dones_few ts rs in omega (arith, more)
dones_few (t ∷ ts) (Refused r ∷ rs) = let more = dones_few ts rs in omega (arith, more)
dones_few (t ∷ ts) (Snapped used ∷ rs) = let more = dones_few ts rs in omega (arith, more)
dones_few (t ∷ ts) (Pumped p ∷ rs) = let more = dones_few ts rs in omega (arith, more)
dones_few (t ∷ ts) (Sealed ∷ rs) = let more = dones_few ts rs in omega (arith, more)

rise_each : (s : State) (ts : List Transaction) → AllAccepted s ts → Rise s.seq (numbers_each s.seq ts)
rise_each s [] are = tt
rise_each s (t ∷ ts) are =
    let some = some_accepted s t are.0 in
    (omega (arith, some), subst (λ (n : ℕ). Rise n (numbers_each n ts)) (seq_after s t) (rise_each (after_in s t) ts are.1))

module _ {D : Type 0} (disk : D → Disk) (old new : StoreView D) (ts : List Transaction) (c : Committed) (batched : Batched disk old new ts c.replies.items) (given : GivesBack old.account ts c) where
  abbrev seq : ℕ
  seq = old.account.state.seq

  abbrev dones : List Transaction
  dones = dones_of (changes ts) c.replies.items

  numbers : numbers_in c.replies.items ≡ numbers_each seq dones
  numbers = numbers_are old.account.state ts c.replies.items (batch_counts old.account new.account ts c.replies.items batched.is.commits batched.is.batch).counts

  pub each : length (numbers_in c.replies.items) ≡ length (bytes_each c.frames.items)
  each = ap length numbers ∙ as_many old.account.rides seq dones ∙ sym (ap length given.given)

  -- no more than were asked
  pub few : length (bytes_each c.frames.items) ≤ length ts
  few =
      let same = ap length given.given in
      let count = length_each old.account.rides seq dones in
      let few = dones_few ts c.replies.items in
      omega (arith, same, count, few)

  module _ (h : History) (is : IsRecord (record { account = old.account; history = h })) where
    pub rise : Rise (newest h.floor h.told) (numbers_in c.replies.items)
    rise = subst (λ (ns : List ℕ). Rise (newest h.floor h.told) ns) (sym numbers)
        (subst (λ (n : ℕ). Rise n (numbers_each seq dones)) (sym is.ends) (rise_each old.account.state dones (run_went old.account new.account (changes ts) c.replies.items batched.ran.commits batched.ran.run).accepted))

    module _ (k : History) (told : k ≡ with_each h (told_with (numbers_in c.replies.items) (bytes_each c.frames.items))) where
      pub records : Records (record { account = old.account; history = h }) (changes ts) c.replies.items (record { account = new.account; history = k })
      records = told ∙ ap (with_each h) ((λ i. told_with (numbers i) (given.given i)) ∙ told_are old.account.rides seq dones)

      keeps : KeepsSome old.account.rides k
      keeps = subst (KeepsSome old.account.rides) (sym records)
          (keeps_each old.account.rides h seq dones is.ends (record { transactions = is.transactions; told = is.told; readable = is.readable }) given.framed)

      ends : newest k.floor k.told ≡ new.account.state.seq
      ends =
          ap (λ (x : History). newest x.floor x.told) records ∙ newest-with_each h (told_each old.account.rides seq dones)
          ∙ ap (λ (n : ℕ). newest n (told_each old.account.rides seq dones)) is.ends ∙ newest-each old.account.rides seq dones
          ∙ sym (ap (λ (s : State). s.seq) batched.ran.lasts.state_is ∙ seq_counts old.account.state dones)

      pub recorded : IsRecord (record { account = new.account; history = k })
      recorded =
          let kept = subst (λ (r : Bool). KeepsSome r k) (sym batched.ran.lasts.rides_is) keeps in
          record { ends = ends; transactions = kept.transactions; told = kept.told; readable = kept.readable }

-- ---- no transaction

-- an account with the same state and in the same format has the same history
pub still : {D : Type 0} (disk : D → Disk) (old new : StoreView D) (events : List Event) (said : List Reply) (h : History) → dones_of events said ≡ [] → Ran disk old new events said
    → IsRecord (record { account = old.account; history = h }) → IsRecord (record { account = new.account; history = h })
still disk old new events said h none ran is =
    let state : new.account.state ≡ old.account.state = ran.lasts.state_is ∙ ap (after_each old.account.state) none in
    let kept = subst (λ (r : Bool). KeepsSome r h) (sym ran.lasts.rides_is) (record { transactions = is.transactions; told = is.told; readable = is.readable }) in
    record { ends = is.ends ∙ ap (λ (s : State). s.seq) (sym state); transactions = kept.transactions; told = kept.told; readable = kept.readable }
