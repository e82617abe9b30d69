-- Slots behind slots, and the replies to them.
use Rattle.std.proofs.Common.{◌≡◌, ◌⊎◌, inl, inr, ℕ, ◌+◌, List, [], ◌∷◌, ◌++◌, length, length-append, refl, sym, ◌∙◌, ap, arith, Bool, true, false, suc}
use Rattle.std.proofs.lemmas.Bool.{ne_eqb}
use Rattle.std.proofs.lemmas.List.{append_assoc, append-nil}
use Rattle.doc_machine.proofs.Transactions.{own_refuses}
use Rattle.doc_machine.specs.Transaction.{Transaction, changes_of}
use Rattle.refusals.specs.declared.numbers.TheConstants.{DEVICE}
use Rattle.store_commits.specs.Account.{Account}
use Rattle.store_commits.specs.Batch.{Slot, waits, said, asked, waiting, account_behind, account_committed, AreJudged, changes, replies_done, replies_in_doubt}
use Rattle.store_commits.specs.Events.{dones_of, hits_of}
use Rattle.store_commits.specs.Folds.{all_changes}
use Rattle.store_commits.specs.Run.{Done, Refused, Reply}
use Rattle.store_commits.specs.Inside.{FirstCommitted}

pub asked_append : (xs ys : List Slot) → asked (xs ++ ys) ≡ asked xs ++ asked ys
asked_append [] ys = refl
asked_append (waits t ∷ xs) ys = ap (λ (l : List Transaction). t ∷ l) (asked_append xs ys)
asked_append (said t r ∷ xs) ys = ap (λ (l : List Transaction). t ∷ l) (asked_append xs ys)

pub waiting_append : (xs ys : List Slot) → waiting (xs ++ ys) ≡ waiting xs ++ waiting ys
waiting_append [] ys = refl
waiting_append (waits t ∷ xs) ys = ap (λ (l : List Transaction). t ∷ l) (waiting_append xs ys)
waiting_append (said t r ∷ xs) ys = waiting_append xs ys

pub judged_append : (a : Account) (xs ys : List Slot) → AreJudged a xs → AreJudged (account_committed a xs) ys → AreJudged a (xs ++ ys)
judged_append a [] ys first second = second
judged_append a (waits t ∷ xs) ys first second = (first.0, first.1, judged_append (account_behind a t) xs ys first.2 second)
judged_append a (said t r ∷ xs) ys first second = (first.0, judged_append a xs ys first.1 second)

pub replies_append : (seq : ℕ) (xs ys : List Slot) → replies_done seq (xs ++ ys) ≡ replies_done seq xs ++ replies_done (seq + length (all_changes (waiting xs))) ys
replies_append seq [] ys = let none : seq ≡ seq + 0 = omega arith in ap (λ (n : ℕ). replies_done n ys) none
replies_append seq (waits t ∷ xs) ys =
    let then = seq + length (changes_of t) in
    let both = length-append (changes_of t) (all_changes (waiting xs)) in
    let sum : then + length (all_changes (waiting xs)) ≡ seq + length (all_changes (t ∷ waiting xs)) = omega (arith, both) in
    ap (λ (l : List Reply). Done then ∷ l) (replies_append then xs ys ∙ ap (λ (n : ℕ). replies_done then xs ++ replies_done n ys) sum)
replies_append seq (said t r ∷ xs) ys = ap (λ (l : List Reply). Refused r ∷ l) (replies_append seq xs ys)

pub length_replies : (seq : ℕ) (slots : List Slot) → length (replies_done seq slots) ≡ length (asked slots)
length_replies seq [] = refl
length_replies seq (waits t ∷ slots) = ap suc (length_replies (seq + length (changes_of t)) slots)
length_replies seq (said t r ∷ slots) = ap suc (length_replies seq slots)

-- what replies tell of transactions: one each, those that were done, and those in doubt
pub record Tells (ts : List Transaction) (rs : List Reply) (dones in_doubt : List Transaction) : Type 0 where
  pub paired : length ts ≡ length rs
  pub dones_are : dones ≡ dones_of (changes ts) rs
  pub hits_are : in_doubt ≡ hits_of (changes ts) rs

-- the transactions of one commit, done
pub slots_done : (a : Account) (seq : ℕ) (slots : List Slot) → AreJudged a slots → Tells (asked slots) (replies_done seq slots) (waiting slots) []
slots_done a seq [] judged = record { paired = refl; dones_are = refl; hits_are = refl }
slots_done a seq (waits t ∷ slots) judged =
    let more = slots_done (account_behind a t) (seq + length (changes_of t)) slots judged.2 in
    record { paired = ap suc more.paired; dones_are = ap (λ (l : List Transaction). t ∷ l) more.dones_are; hits_are = more.hits_are }
slots_done a seq (said t r ∷ slots) judged =
    let more = slots_done a seq slots judged.1 in record {
      paired = ap suc more.paired;
      dones_are = more.dones_are;
      hits_are = rw (ne_eqb r.number DEVICE (own_refuses a.state t r judged.0).1) more.hits_are;
    }

-- and hit
pub slots_in_doubt : (a : Account) (slots : List Slot) → AreJudged a slots → Tells (asked slots) (replies_in_doubt slots) [] (waiting slots)
slots_in_doubt a [] judged = record { paired = refl; dones_are = refl; hits_are = refl }
slots_in_doubt a (waits t ∷ slots) judged =
    let more = slots_in_doubt (account_behind a t) slots judged.2 in
    record { paired = ap suc more.paired; dones_are = more.dones_are; hits_are = ap (λ (l : List Transaction). t ∷ l) more.hits_are }
slots_in_doubt a (said t r ∷ slots) judged =
    let more = slots_in_doubt a slots judged.1 in record {
      paired = ap suc more.paired;
      dones_are = more.dones_are;
      hits_are = rw (ne_eqb r.number DEVICE (own_refuses a.state t r judged.0).1) more.hits_are;
    }

-- the middle of four lists, of which one is none
pub swap : {X : Type 0} (a b c d : List X) → (b ≡ []) ⊎ (c ≡ []) → (a ++ c) ++ (b ++ d) ≡ (a ++ b) ++ (c ++ d)
swap {X} a b c d (inl none) =
    ap (λ (l : List X). (a ++ c) ++ (l ++ d)) none ∙ append_assoc a c d ∙ ap (λ (l : List X). l ++ (c ++ d)) (sym (append-nil a) ∙ ap (λ (l : List X). a ++ l) (sym none))
swap {X} a b c d (inr none) =
    ap (λ (l : List X). (a ++ l) ++ (b ++ d)) none ∙ ap (λ (l : List X). l ++ (b ++ d)) (append-nil a) ∙ sym (append_assoc a b d) ∙ ap (λ (l : List X). (a ++ b) ++ (l ++ d)) (sym none)

module _ (a b c : Bool) (slots more : List Slot) (first : FirstCommitted a b slots) (second : FirstCommitted b c more) where
  -- all of these were committed, or none of those
  pub apart : (broken : Bool) → b ≡ broken → (first.lost ≡ []) ⊎ (second.first ≡ [])
  apart true is = inr (second.none_first is)
  apart false is = inl (first.none_lost is)

  -- a store that works did so before
  pub worked : (broken : Bool) → b ≡ broken → (b ≡ true → c ≡ true) → c ≡ false → b ≡ false
  worked true is stays fine = let no = sym fine ∙ stays is in absurd (cc no)
  worked false is stays fine = is

  -- these and those
  abbrev pub both_committed : (a ≡ true → b ≡ true) → (b ≡ true → c ≡ true) → FirstCommitted a c (slots ++ more)
  both_committed stayed stays = record {
    first = first.first ++ second.first;
    lost = first.lost ++ second.lost;
    parts = swap first.first first.lost second.first second.lost (apart b refl) ∙ (λ i. first.parts i ++ second.parts i);
    none_lost = λ fine. (λ i. first.none_lost (worked b refl stays fine) i ++ second.none_lost fine i);
    none_first = λ fails. (λ i. first.none_first fails i ++ second.none_first (stayed fails) i);
  }
