-- What a history keeps of transactions that it is told of one after another, and what it tells of them.
use Rattle.std.proofs.Common.{◌≡◌, ℕ, ◌+◌, ◌-◌, Bool, true, false, if◌then◌else◌, nat_eq, nat_lt, nat_le, List, [], ◌∷◌, ◌++◌, length, length-append, Option, Some, None, refl, sym, ap, subst, ◌∙◌, arith}
use Rattle.std.proofs.lemmas.Bool.{eqb-true}
use Rattle.std.specs.Prelude.{IfSome}
use Rattle.std.specs.Option.{option_map}
use Rattle.change_history.specs.History.{History, Told, bytes_of, first_within, newest, since, trimmed, with_each, with_told, within}
use Rattle.change_history.proofs.Trimmed.{newest-told}
use Rattle.doc_machine.specs.Transaction.{Transaction, changes_of}
use Rattle.store_commits.specs.Folds.{all_changes, frames_of}
use Rattle.store_commits.proofs.Changes.{framed_append}
use Rattle.told_transactions.specs.Told.{AreFrom, AreReadable, none_from, told_each}

-- ---- transactions as a history keeps them

-- one that was accepted after the change of that number
abbrev pub told_one : Bool → ℕ → Transaction → Told
told_one rides seq t = record { last = seq + length (changes_of t); frames = frames_of rides seq t }

-- the number of the last change of all
pub newest-each : (rides : Bool) (seq : ℕ) (ts : List Transaction) → newest seq (told_each rides seq ts) ≡ seq + length (all_changes ts)
newest-each rides seq [] = omega arith
newest-each rides seq (t ∷ ts) =
    let sum = length-append (changes_of t) (all_changes ts) in
    newest-each rides (seq + length (changes_of t)) ts ∙ omega (arith, sum)

pub told_each-append : (rides : Bool) (seq : ℕ) (ts us : List Transaction) → told_each rides seq (ts ++ us) ≡ told_each rides seq ts ++ told_each rides (seq + length (all_changes ts)) us
told_each-append rides seq [] us = let none : seq ≡ seq + 0 = omega arith in ap (λ (n : ℕ). told_each rides n us) none
told_each-append rides seq (t ∷ ts) us =
    let count = length-append (changes_of t) (all_changes ts) in
    let sum : (seq + length (changes_of t)) + length (all_changes ts) ≡ seq + length (all_changes (t ∷ ts)) = omega (arith, count) in
    ap (λ (l : List Told). told_one rides seq t ∷ l)
    (told_each-append rides (seq + length (changes_of t)) ts us ∙ ap (λ (n : ℕ). told_each rides (seq + length (changes_of t)) ts ++ told_each rides n us) sum)

-- what a history keeps are transactions, whose frames can be read
pub record KeepsSome (rides : Bool) (h : History) : Type 0 where
  pub transactions : List Transaction
  pub told : h.told ≡ told_each rides h.floor transactions
  pub readable : AreReadable h.floor transactions

pub keeps_none : (rides : Bool) (limit floor : ℕ) → KeepsSome rides (none_from limit floor)
keeps_none rides limit floor = record { transactions = []; told = refl; readable = tt }

-- also once the oldest went
trimmed_by : (b rides : Bool) (limit floor : ℕ) (t : Transaction) (ts : List Transaction) → AreReadable floor (t ∷ ts)
    → KeepsSome rides (trimmed limit (floor + length (changes_of t)) (told_each rides (floor + length (changes_of t)) ts))
    → KeepsSome rides (if b then trimmed limit (floor + length (changes_of t)) (told_each rides (floor + length (changes_of t)) ts) else record { limit = limit; floor = floor; told = told_each rides floor (t ∷ ts) })
trimmed_by true rides limit floor t ts are rest = rest
trimmed_by false rides limit floor t ts are rest = record { transactions = t ∷ ts; told = refl; readable = are }

trimmed_some : (rides : Bool) (limit floor : ℕ) (ts : List Transaction) → AreReadable floor ts → KeepsSome rides (trimmed limit floor (told_each rides floor ts))
trimmed_some rides limit floor [] are = keeps_none rides limit floor
trimmed_some rides limit floor (t ∷ ts) are =
    trimmed_by (nat_lt limit (bytes_of (told_each rides floor (t ∷ ts)))) rides limit floor t ts are (trimmed_some rides limit (floor + length (changes_of t)) ts are.2)

-- ---- one after another

-- the next one
told_next : (rides : Bool) (h : History) (n : ℕ) (t : Transaction) → newest h.floor h.told ≡ n → (keeps : KeepsSome rides h) → h.told ++ told_one rides n t ∷ [] ≡ told_each rides h.floor (keeps.transactions ++ t ∷ [])
told_next rides h n t ends keeps =
    let us = keeps.transactions in
    let last : n ≡ h.floor + length (all_changes us) = sym ends ∙ ap (newest h.floor) keeps.told ∙ newest-each rides h.floor us in
    (λ i. keeps.told i ++ told_one rides (last i) t ∷ []) ∙ sym (told_each-append rides h.floor us (t ∷ []))

keeps_next : (rides : Bool) (h : History) (n : ℕ) (t : Transaction) → newest h.floor h.told ≡ n → KeepsSome rides h → AreReadable n (t ∷ []) → KeepsSome rides (with_told h (told_one rides n t))
keeps_next rides h n t ends keeps are =
    let us = keeps.transactions in
    let last : n ≡ h.floor + length (all_changes us) = sym ends ∙ ap (newest h.floor) keeps.told ∙ newest-each rides h.floor us in
    let all = framed_append h.floor us (t ∷ []) keeps.readable (subst (λ (k : ℕ). AreReadable k (t ∷ [])) last are) in
    subst (λ (l : List Told). KeepsSome rides (trimmed h.limit h.floor l)) (sym (told_next rides h n t ends keeps)) (trimmed_some rides h.limit h.floor (us ++ t ∷ []) all)

pub keeps_each : (rides : Bool) (h : History) (n : ℕ) (ts : List Transaction) → newest h.floor h.told ≡ n → KeepsSome rides h → AreReadable n ts → KeepsSome rides (with_each h (told_each rides n ts))
keeps_each rides h n [] ends keeps are = keeps
keeps_each rides h n (t ∷ ts) ends keeps are =
    keeps_each rides (with_told h (told_one rides n t)) (n + length (changes_of t)) ts (newest-told h (told_one rides n t)) (keeps_next rides h n t ends keeps (are.0, are.1, tt)) are.2

-- the number of the last change that it knows of
pub newest-with_each : (h : History) (told : List Told) → newest (with_each h told).floor (with_each h told).told ≡ newest (newest h.floor h.told) told
newest-with_each h [] = refl
newest-with_each h (t ∷ ts) = newest-with_each (with_told h t) ts ∙ ap (λ (n : ℕ). newest n ts) (newest-told h t)

-- one more at the end
pub with_each-push : (h : History) (ts : List Told) (t : Told) → with_each h (ts ++ t ∷ []) ≡ with_told (with_each h ts) t
with_each-push h [] t = refl
with_each-push h (s ∷ ts) t = with_each-push (with_told h s) ts t

-- ---- what it tells

since_by : (b rides : Bool) (floor from : ℕ) (t : Transaction) (ts : List Transaction) (rest : List Told) → nat_eq from floor ≡ b → AreReadable floor (t ∷ ts)
    → (if b then Some (told_each rides floor (t ∷ ts)) else since (floor + length (changes_of t)) (told_each rides (floor + length (changes_of t)) ts) from) ≡ Some rest
    → (since (floor + length (changes_of t)) (told_each rides (floor + length (changes_of t)) ts) from ≡ Some rest → AreFrom rides from rest) → AreFrom rides from rest
since_by true rides floor from t ts rest e are is later =
    let here = sym (eqb-true from floor e) in
    let same : told_each rides floor (t ∷ ts) ≡ rest = cc is in
    (t ∷ ts, sym same ∙ ap (λ (n : ℕ). told_each rides n (t ∷ ts)) here, subst (λ (n : ℕ). AreReadable n (t ∷ ts)) here are)
since_by false rides floor from t ts rest e are is later = later is

since_none : (b rides : Bool) (floor from : ℕ) (rest : List Told) → (if b then Some [] else None) ≡ Some rest → AreFrom rides from rest
since_none true rides floor from rest is = ([], sym (let same : [] ≡ rest = cc is in same), tt)
since_none false rides floor from rest is = absurd (cc)

pub since_each : (rides : Bool) (floor : ℕ) (ts : List Transaction) (from : ℕ) (rest : List Told) → AreReadable floor ts → since floor (told_each rides floor ts) from ≡ Some rest → AreFrom rides from rest
since_each rides floor [] from rest are is = since_none (nat_eq from floor) rides floor from rest is
since_each rides floor (t ∷ ts) from rest are is =
    since_by (nat_eq from floor) rides floor from t ts rest refl are is (since_each rides (floor + length (changes_of t)) ts from rest are.2)

-- the first ones of them
within_by : (b rides : Bool) (from : ℕ) (t : Transaction) (ts : List Transaction) (rest : List Told) → AreReadable from (t ∷ ts) → AreFrom rides (from + length (changes_of t)) rest
    → AreFrom rides from (if b then told_one rides from t ∷ rest else [])
within_by true rides from t ts rest are more =
    (t ∷ more.0, ap (λ (l : List Told). told_one rides from t ∷ l) more.1, (are.0, are.1, more.2))
within_by false rides from t ts rest are more = ([], refl, tt)

within_each : (rides : Bool) (most from : ℕ) (ts : List Transaction) → AreReadable from ts → AreFrom rides from (within most (told_each rides from ts))
within_each rides most from [] are = ([], refl, tt)
within_each rides most from (t ∷ ts) are =
    let one = frames_of rides from t in
    within_by (nat_le (length one) most) rides from t ts (within (most - length one) (told_each rides (from + length (changes_of t)) ts)) are
    (within_each rides (most - length one) (from + length (changes_of t)) ts are.2)

pub first_each : (rides : Bool) (most from : ℕ) (told : List Told) → AreFrom rides from told → AreFrom rides from (first_within most told)
first_each rides most from told after = subst (λ (l : List Told). AreFrom rides from (first_within most l)) (sym after.1) (by after.0 after.2)
  where
    by : (ts : List Transaction) → AreReadable from ts → AreFrom rides from (first_within most (told_each rides from ts))
    by [] are = ([], refl, tt)
    by (t ∷ ts) are =
        let one = frames_of rides from t in
        within_by true rides from t ts (within (most - length one) (told_each rides (from + length (changes_of t)) ts)) are (within_each rides (most - length one) (from + length (changes_of t)) ts are.2)

-- what is answered of them
pub told_of_those : {I : Type 0} (rides : Bool) (most from : ℕ) (rest : I → List Told) (r : Option I) (those : Option (List Told)) → option_map rest r ≡ option_map (first_within most) those
    → ((all : List Told) → those ≡ Some all → AreFrom rides from all) → IfSome r (λ i. AreFrom rides from (rest i))
told_of_those rides most from rest None those is are = tt
told_of_those rides most from rest (Some i) None is are = absurd (cc is)
told_of_those rides most from rest (Some i) (Some all) is are =
    let same : first_within most all ≡ rest i = cc is in
    subst (AreFrom rides from) same (first_each rides most from all (are all refl))
