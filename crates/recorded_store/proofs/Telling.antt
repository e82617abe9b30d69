-- What a batch gives back is what a history is told.
use Rattle.std.proofs.Common.{◌≡◌, ◌∙◌, ◌+◌, ◌<◌, ◌≤◌, ◌++◌, ◌∷◌, [], Bool, ℕ, zero, suc, List, add-one, drop, get_or, length, refl, sym, ap, arith}
use Rattle.change_history.specs.History.{Told}
use Rattle.doc_machine.specs.Transaction.{Transaction, after_in, changes_of}
use Rattle.doc_changes.specs.State.{State}
use Rattle.store_commits.specs.Batch.{changes}
use Rattle.store_commits.specs.Events.{dones_of}
use Rattle.store_commits.specs.Folds.{frames_each, frames_of}
use Rattle.store_commits.specs.declared.event.Reply.{Reply}
use Rattle.store_commits.specs.declared.event.Reply.TheVariants.{Done, Snapped, Pumped, Sealed, Refused}
use Rattle.recorded_store.specs.Numbers.{number_in, numbers_each, numbers_in, told_with}
use Rattle.told_transactions.specs.Told.{told_each}
use Rattle.recorded_store.proofs.Counting.{Counts, seq_all}

-- numbers and frames together
pub told_are : (rides : Bool) (seq : ℕ) (ts : List Transaction) → told_with (numbers_each seq ts) (frames_each rides seq ts) ≡ told_each rides seq ts
told_are rides seq [] = refl
told_are rides seq (t ∷ ts) =
    ap (λ (l : List Told). record { last = seq + length (changes_of t); frames = frames_of rides seq t } ∷ l) (told_are rides (seq + length (changes_of t)) ts)

-- the replies have the numbers of those that were done
pub numbers_are : (s : State) (ts : List Transaction) (rs : List Reply) → Counts s ts rs → numbers_in rs ≡ numbers_each s.seq (dones_of (changes ts) rs)
numbers_are s [] [] counts = refl
numbers_are s [] (r ∷ rs) counts = absurd counts
numbers_are s (t ∷ ts) [] counts = absurd counts
numbers_are s (t ∷ ts) (Done seq ∷ rs) counts =
    let same : s.seq + length (changes_of t) ≡ (after_in s t).seq = seq_all s (changes_of t) in
    (λ i. counts.0 i ∷ numbers_are (after_in s t) ts rs counts.1 i)
    ∙ ap (λ (n : ℕ). n ∷ numbers_each n (dones_of (changes ts) rs)) (sym same)
numbers_are s (t ∷ ts) (Refused r ∷ rs) counts = numbers_are s ts rs counts.1
numbers_are s (t ∷ ts) (Snapped used ∷ rs) counts = absurd counts
numbers_are s (t ∷ ts) (Pumped p ∷ rs) counts = absurd counts
numbers_are s (t ∷ ts) (Sealed ∷ rs) counts = absurd counts

-- each of them has a number, and frames
pub as_many : (rides : Bool) (seq : ℕ) (ts : List Transaction) → length (numbers_each seq ts) ≡ length (frames_each rides seq ts)
as_many rides seq [] = refl
as_many rides seq (t ∷ ts) = ap suc (as_many rides (seq + length (changes_of t)) ts)

-- ---- a reply more

-- what a reply says was done comes before what the others say
step_by : (rs : List Reply) (i : ℕ) (r : Reply) (d : Reply) → i < length rs → get_or rs i d ≡ r → numbers_in (drop i rs) ≡ number_in r ++ numbers_in (drop (suc i) rs)
step_by [] i r d lt is = absurd (omega (arith, lt))
step_by (x ∷ rs) zero r d lt is = ap (λ (y : Reply). number_in y ++ numbers_in rs) is
step_by (x ∷ rs) (suc i) r d lt is = step_by rs i r d (omega (arith, lt)) is

pub numbers_step : (rs : List Reply) (i : ℕ) (r : Reply) (d : Reply) → i < length rs → get_or rs i d ≡ r → numbers_in (drop i rs) ≡ number_in r ++ numbers_in (drop (i + 1) rs)
numbers_step rs i r d lt is = rw add-one (step_by rs i r d lt is)

-- none comes after the last one
pub numbers_past : (rs : List Reply) (i : ℕ) → length rs ≤ i → numbers_in (drop i rs) ≡ []
numbers_past [] zero past = refl
numbers_past [] (suc i) past = refl
numbers_past (x ∷ rs) zero past = absurd (omega (arith, past))
numbers_past (x ∷ rs) (suc i) past = numbers_past rs i (omega (arith, past))

pub not_done : (r : Reply) → ((n : ℕ) → r ≡ Done n → ⊥) → number_in r ≡ []
not_done (Done n) other = absurd (other n refl)
not_done (Refused r) other = refl
not_done (Snapped used) other = refl
not_done (Pumped p) other = refl
not_done Sealed other = refl
