-- Changes one after another, and transactions.
use Rattle.std.proofs.Common.{◌≡◌, ℕ, suc, ◌+◌, List, [], ◌∷◌, ◌++◌, length, length-append, refl, sym, ◌∙◌, ap, subst, arith, take, inl, inr, Option, None, Some, drop, if◌then◌else◌, Bool, true, false, min, nat_eq, nat_lt, ◌||◌, not, ◌≤◌, ◌<◌, ◌⊎◌, Result, Ok, Err, OnOk, IfOk}
use Rattle.std.proofs.Math.Seq.{take-append_seam}
use Rattle.std.specs.Option.{option_or}
use Rattle.std.specs.Str.{IsUtf8}
use Rattle.std.proofs.lemmas.Bool.Decides.{nat_tests}
use Rattle.std.proofs.lemmas.List.{append_assoc, append-nil}
use Rattle.record_text.specs.Change.{Change, create, delete, patch, set_schema}
use Rattle.record_text.specs.Frame.{IsFramed}
use Rattle.refusals.specs.declared.numbers.TheConstants.{COMMAND, MARK, MEMORY, SCHEMA_SIZE, SEQ_END, TRANSACTION_LARGE}
use Rattle.doc_patch.specs.Held.{capped}
use Rattle.doc_changes.specs.Held.{held_in}
use Rattle.doc_changes.specs.Refusals.{at_change, plain, refused_if}
use Rattle.doc_changes.specs.declared.refusal.Refusal.{Refusal}
use Rattle.doc_changes.specs.Marks.{mark_of, mark_refusal}
use Rattle.doc_changes.specs.State.{State, Good, noted}
use Rattle.doc_changes.specs.Step.{Denies, IsOwn, MayBringLargePatterns, SaysLargePatterns, refusal_of, after}
use Rattle.doc_machine.specs.Transaction.{AreAccepted, AreFramed, AreGood, AreMade, Changes, IsTransacted, RefusesTransaction, SaysOfChanges, SaysOfOne, SaysOfTransaction, StopsAt, Transaction, after_all, all_of, alone, befores, changes_refusal, first_refused, is_countable, kept_by, kept_by_all, large_refusal, last_seq, marked, refusal_in, refused_at, refused_or, ruled_by, several, several_refusal, single, together}
use Rattle.doc_machine.specs.Marking.{Marking, is_as_asked, mark_at_seq, marking_refusal, other_mark}
use Rattle.doc_machine.specs.Trial.{TrialView, first_or, state_at}
use Rattle.doc_changes.proofs.Known.{own_memory, own_refusal}
use Rattle.doc_changes.proofs.Marked.{is_mark, own_mark}

-- ---- one change more

pub framed_push : (cs : List Change) (c : Change) → AreFramed cs → IsFramed c → AreFramed (cs ++ c ∷ [])
framed_push [] c are is = (is, tt)
framed_push (e ∷ cs) c are is = (are.0, framed_push cs c are.1 is)

pub after_push : (s : State) (cs : List Change) (c : Change) → after_all s (cs ++ c ∷ []) ≡ after (after_all s cs) c
after_push s [] c = refl
after_push s (e ∷ cs) c = after_push (after s e) cs c

pub good_push : (s : State) (cs : List Change) (c : Change) → AreGood s cs → Good (after (after_all s cs) c) → AreGood s (cs ++ c ∷ [])
good_push s [] c are is = (are, is)
good_push s (e ∷ cs) c are is = (are.0, good_push (after s e) cs c are.1 is)

pub befores_push : (s : State) (cs : List Change) (c : Change) → befores s (cs ++ c ∷ []) ≡ befores s cs ++ after_all s cs ∷ []
befores_push s [] c = refl
befores_push s (d ∷ cs) c = ap (λ (l : List State). s ∷ l) (befores_push (after s d) cs c)

-- the last of them
pub good_last : (s : State) (cs : List Change) → AreGood s cs → Good (after_all s cs)
good_last s [] are = are
good_last s (c ∷ cs) are = good_last (after s c) cs are.1

-- ---- what is refused

-- what changes keep, and one more
pub kept_push : (s : State) (cs : List Change) (c : Change) → kept_by_all s (cs ++ c ∷ []) ≡ kept_by_all s cs + kept_by (after_all s cs) c
kept_push s [] c = omega arith
kept_push s (e ∷ cs) c = let rest = kept_push (after s e) cs c in omega (arith, rest)

-- changes that are accepted leave the refusal to those behind them
pub first_behind : (place kept : ℕ) (s : State) (c : Change) (cs : List Change) → large_refusal (kept + kept_by s c) ≡ None → refusal_of s c ≡ None
    → first_refused place kept s (c ∷ cs) ≡ first_refused (place + 1) (kept + kept_by s c) (after s c) cs
first_behind place kept s c cs within accepted = λ i. refused_or place (accepted i) (option_or (within i) (first_refused (place + 1) (kept + kept_by s c) (after s c) cs))

pub refused_here : (place kept : ℕ) (s : State) (c : Change) (cs : List Change) (r : Refusal) → refusal_of s c ≡ Some r → first_refused place kept s (c ∷ cs) ≡ Some (refused_at place r)
refused_here place kept s c cs r refuses = λ i. refused_or place (refuses i) (option_or (large_refusal (kept + kept_by s c)) (first_refused (place + 1) (kept + kept_by s c) (after s c) cs))

pub large_here : (place kept : ℕ) (s : State) (c : Change) (cs : List Change) (r : Refusal) → refusal_of s c ≡ None → large_refusal (kept + kept_by s c) ≡ Some r
    → first_refused place kept s (c ∷ cs) ≡ Some r
large_here place kept s c cs r accepted large = λ i. refused_or place (accepted i) (option_or (large i) (first_refused (place + 1) (kept + kept_by s c) (after s c) cs))

-- ---- the numbers of the code

kept_is : (s : State) (c : Change) → held_in s.documents c + ruled_by s c ≡ kept_by s c
kept_is s (create name schema doc) = refl
kept_is s (patch name ops if_rev) = omega arith
kept_is s (set_schema name schema) = omega arith
kept_is s (delete name) = refl

sum_capped : (held ruled a b bytes : ℕ) → a ≡ held → b ≡ ruled → bytes ≡ min (a + b) 0xffff_ffff_ffff_ffff → bytes ≡ capped (held + ruled)
sum_capped held ruled a b bytes is same sum = omega (arith, is, same, sum)

-- those of a change, as the code adds them
pub bytes_are : (s : State) (c : Change) (held ruled bytes : ℕ) → held ≡ held_in s.documents c → ruled ≡ ruled_by s c → bytes ≡ min (held + ruled) 0xffff_ffff_ffff_ffff → bytes ≡ capped (kept_by s c)
bytes_are s c held ruled bytes is same sum = sum_capped (held_in s.documents c) (ruled_by s c) held ruled bytes is same sum ∙ ap capped (kept_is s c)

large_same : (kept n bytes : ℕ) → bytes ≡ capped n → nat_lt 33_554_432 (kept + bytes) ≡ nat_lt 33_554_432 (kept + n)
large_same kept n bytes is = grind (arith, nat_tests)

pub large_is : (kept n bytes : ℕ) → bytes ≡ capped n → large_refusal (kept + bytes) ≡ large_refusal (kept + n)
large_is kept n bytes is = ap (λ b. refused_if b TRANSACTION_LARGE) (large_same kept n bytes is)

pub together_is : (kept n bytes : ℕ) → bytes ≡ capped n → large_refusal (kept + bytes) ≡ None → kept + bytes ≡ kept + n
together_is kept n bytes is within = by (nat_lt 33_554_432 (kept + bytes)) refl within
  where
    by : (b : Bool) → nat_lt 33_554_432 (kept + bytes) ≡ b → refused_if b TRANSACTION_LARGE ≡ None → kept + bytes ≡ kept + n
    by true large none = absurd (cc none)
    by false small none = grind (arith, nat_tests)

-- the profile stays
profile_kept : (s : State) (cs : List Change) → (after_all s cs).profile ≡ s.profile
profile_kept s [] = refl
profile_kept s (c ∷ cs) = profile_kept (after s c) cs

-- changes were made so far, and the next one comes
module _ (old mid : TrialView) (made_first : List Change) (next : Change) (behind all : List Change) (place kept : ℕ) (parts : made_first ++ next ∷ behind ≡ all)
    (made : AreMade old made_first mid) (keep : kept ≡ kept_by_all old.state made_first) (left : first_refused 0 0 old.state (made_first ++ next ∷ behind) ≡ first_refused place kept mid.state (next ∷ behind)) where
  left_all : first_refused 0 0 old.state all ≡ first_refused place kept mid.state (next ∷ behind)
  left_all = ap (first_refused 0 0 old.state) (sym parts) ∙ left

  pub stops_large : (r : Refusal) (new : TrialView) → AreMade old (made_first ++ next ∷ []) new → refusal_of mid.state next ≡ None → large_refusal (kept + kept_by mid.state next) ≡ Some r → StopsAt old all r new
  stops_large r new made_next accepted large = record {
    made_first = made_first ++ next ∷ [];
    behind = behind;
    parts = append_assoc made_first (next ∷ []) behind ∙ parts;
    made = made_next;
    why = inr (inl (left_all ∙ large_here place kept mid.state next behind r accepted large));
  }

  -- those made are accepted
  accepted_first : first_refused 0 0 old.state (made_first ++ []) ≡ None → first_refused 0 0 old.state made_first ≡ None
  accepted_first none = ap (first_refused 0 0 old.state) (sym (append-nil made_first)) ∙ none

  stops_large_patterns : (r : Refusal) → place ≡ length made_first → first_refused 0 0 old.state (made_first ++ []) ≡ None → SaysLargePatterns mid.state next r → SaysOfOne old.state all (refused_at place r)
  stops_large_patterns r count none tells = record {
    made_first = made_first;
    next = next;
    behind = behind;
    parts = parts;
    accepted = accepted_first none;
    brings = subst (λ (s : State). MayBringLargePatterns old.state.profile s.documents next) made.state
        (subst (λ p. MayBringLargePatterns p mid.state.documents next) (ap (λ (s : State). s.profile) made.state ∙ profile_kept old.state made_first) tells.1);
    r_is = ap (refused_at place) tells.0 ∙ ap (λ n. at_change n (plain SCHEMA_SIZE)) count;
  }

  pub stops_refused : (r : Refusal) → large_refusal kept ≡ None → place ≡ length made_first → first_refused 0 0 old.state (made_first ++ []) ≡ None → Denies mid.state next r → StopsAt old all (refused_at place r) mid
  stops_refused r within count none denies = record {
    made_first = made_first;
    behind = next ∷ behind;
    parts = parts;
    made = made;
    why = elim denies [
      | inl memory ↦ inl (ap (refused_at place) memory, ap large_refusal (sym keep) ∙ within)
      | inr (inl own) ↦ inr (inl (left_all ∙ refused_here place kept mid.state next behind r own))
      | inr (inr tells) ↦ inr (inr (stops_large_patterns r count none tells))
    ];
  }

-- where none is refused, each is accepted
pub all_accepted : (place kept : ℕ) (s : State) (cs : List Change) → first_refused place kept s cs ≡ None → AreAccepted s cs
all_accepted place kept s [] none = tt
all_accepted place kept s (c ∷ cs) none = by (large_refusal more) (refusal_of s c) refl none (all_accepted (place + 1) more (after s c) cs)
  where
    more : ℕ
    more = kept + kept_by s c

    by : (large o : Option Refusal) → refusal_of s c ≡ o → refused_or place o (option_or large (first_refused (place + 1) more (after s c) cs)) ≡ None
        → (first_refused (place + 1) more (after s c) cs ≡ None → AreAccepted (after s c) cs) → (refusal_of s c ≡ None) × AreAccepted (after s c) cs
    by large (Some r) is none rest = absurd (cc none)
    by None None is none rest = (is, rest none)
    by (Some l) None is none rest = absurd (cc none)

-- ---- each refusal is the machine's own

own_at : (place : ℕ) (r : Refusal) → IsOwn r → IsOwn (refused_at place r)
own_at place r is = by (nat_eq r.number SEQ_END || nat_eq r.number MEMORY)
  where
    by : (b : Bool) → IsOwn (if b then r else at_change place r)
    by true = is
    by false = is

pub own_large : (kept : ℕ) (r : Refusal) → large_refusal kept ≡ Some r → IsOwn r
own_large kept r is = by (nat_lt 33_554_432 kept) is
  where
    by : (b : Bool) → refused_if b TRANSACTION_LARGE ≡ Some r → IsOwn r
    by true is = let same : plain TRANSACTION_LARGE ≡ r = cc is in subst IsOwn same ((λ e. omega (arith, e)), (λ e. omega (arith, e)), (λ e. omega (arith, e)))
    by false is = absurd (cc is)

own_first : (place kept : ℕ) (s : State) (cs : List Change) (r : Refusal) → first_refused place kept s cs ≡ Some r → IsOwn r
own_first place kept s [] r is = absurd (cc is)
own_first place kept s (c ∷ cs) r is = by (large_refusal more) (refusal_of s c) refl refl is (own_first (place + 1) more (after s c) cs r)
  where
    more : ℕ
    more = kept + kept_by s c

    by : (large o : Option Refusal) → large_refusal more ≡ large → refusal_of s c ≡ o → refused_or place o (option_or large (first_refused (place + 1) more (after s c) cs)) ≡ Some r
        → (first_refused (place + 1) more (after s c) cs ≡ Some r → IsOwn r) → IsOwn r
    by (Some l) None large none is rest = own_large more r (large ∙ is)
    by None None large none is rest = rest is
    by large_too (Some q) large refuses is rest = let same : refused_at place q ≡ r = cc is in subst IsOwn same (own_at place q (own_refusal s c q refuses))

pub own_command : IsOwn (plain COMMAND)
own_command = ((λ e. omega (arith, e)), (λ e. omega (arith, e)), (λ e. omega (arith, e)))

own_several : (s : State) (cs : List Change) (r : Refusal) → several_refusal s cs ≡ Some r → IsOwn r
own_several s cs r is = by (is_countable cs) is
  where
    by : (b : Bool) → (if b then first_refused 0 0 s cs else Some (plain COMMAND)) ≡ Some r → IsOwn r
    by true is = own_first 0 0 s cs r is
    by false is = let same : plain COMMAND ≡ r = cc is in subst IsOwn same own_command

own_changes : (s : State) (cs : Changes) (r : Refusal) → changes_refusal s cs ≡ Some r → IsOwn r
own_changes s (alone c) r is = own_refusal s c r is
own_changes s (together cs) r is = own_several s cs r is

own_other : (b : Bool) (q : Refusal) → refused_if b MARK ≡ Some q → IsOwn q
own_other true q is = let same : plain MARK ≡ q = cc is in subst IsOwn same ((λ e. omega (arith, e)), (λ e. omega (arith, e)), (λ e. omega (arith, e)))
own_other false q is = absurd (cc is)

-- what is said of marks
pub own_marking : (s : State) (m : Marking) (r : Refusal) → marking_refusal s m ≡ Some r → IsOwn r
own_marking s m r is = by (mark_refusal s.profile m.key m.value) (other_mark s.marks m) refl refl is
  where
    by : (o p : Option Refusal) → mark_refusal s.profile m.key m.value ≡ o → other_mark s.marks m ≡ p → option_or o (option_or p None) ≡ Some r → IsOwn r
    by (Some q) p some other is = let same : q ≡ r = cc is in subst IsOwn same (own_mark s.profile m.key m.value q some)
    by None (Some q) none other is = let same : q ≡ r = cc is in subst IsOwn same (own_other (not (is_as_asked m.asked (mark_of m.key s.marks))) q other)
    by None None none other is = absurd (cc is)

-- of a transaction too
pub own_transaction : (s : State) (t : Transaction) (r : Refusal) → refusal_in s t ≡ Some r → IsOwn r
own_transaction s (single c) r is = own_refusal s c r is
own_transaction s (several cs) r is = own_several s cs r is
own_transaction s (marked m cs) r is = by (marking_refusal s m) refl is
  where
    by : (o : Option Refusal) → marking_refusal s m ≡ o → option_or o (changes_refusal s cs) ≡ Some r → IsOwn r
    by None none is = own_changes s cs r is
    by (Some q) some is = let same : q ≡ r = cc is in subst IsOwn same (own_marking s m q some)

own_size : IsOwn (plain SCHEMA_SIZE)
own_size = ((λ e. omega (arith, e)), (λ e. omega (arith, e)), (λ e. omega (arith, e)))

own_tells : (s : State) (t : Transaction) (r : Refusal) → SaysOfTransaction s t r → IsOwn r
own_tells s (single c) r tells = subst IsOwn (sym tells.0) own_size
own_tells s (several cs) r tells = subst IsOwn (sym tells.1.r_is) own_size
own_tells s (marked m (alone c)) r tells = subst IsOwn (sym tells.1.0) own_size
own_tells s (marked m (together cs)) r tells = subst IsOwn (sym tells.1.1.r_is) own_size

-- whatever refuses it
pub own_refuses : (s : State) (t : Transaction) (r : Refusal) → RefusesTransaction s t r → IsOwn r
own_refuses s t r (inl memory) = own_memory r memory
own_refuses s t r (inr (inl is)) = own_transaction s t r is
own_refuses s t r (inr (inr tells)) = own_tells s t r tells

-- ---- what was made can be taken back

-- the state before all of them
pub first_before : (s : State) (past : List State) (cs : List Change) → first_or (after_all s cs) (drop (length past) (past ++ befores s cs)) ≡ s
first_before s [] [] = refl
first_before s [] (c ∷ cs) = refl
first_before s (p ∷ past) cs = first_before s past cs

-- changes that were made on a trial, and one more
pub made_push : (a b d : TrialView) (cs : List Change) (c : Change) → AreMade a cs b → AreMade b (c ∷ []) d → AreMade a (cs ++ c ∷ []) d
made_push a b d cs c first second = record {
  state = second.state ∙ ap (λ (s : State). after s c) first.state ∙ sym (after_push a.state cs c);
  past = second.past ∙ (λ i. first.past i ++ first.state i ∷ []) ∙ append_assoc a.past (befores a.state cs) (after_all a.state cs ∷ []) ∙ ap (λ (l : List State). a.past ++ l) (sym (befores_push a.state cs c));
  framed = framed_push cs c first.framed second.framed.0;
  good = good_push a.state cs c first.good (subst Good (ap (λ (s : State). after s c) first.state) second.good.1);
}

-- all of them are taken back
pub taken_back : (old made new : TrialView) (cs : List Change) (n : ℕ) → AreMade old cs made → n ≡ length old.past → new.state ≡ state_at n made → new.past ≡ take n made.past → new ≡ old
taken_back old made new cs n are count state past =
    let state_is : new.state ≡ old.state = state ∙ (λ i. first_or (are.state i) (drop (count i) (are.past i))) ∙ first_before old.state old.past cs in
    let past_is : new.past ≡ old.past = past ∙ (λ i. take (count i) (are.past i)) ∙ take-append_seam old.past (befores old.state cs) in
    λ i. record { state = state_is i; past = past_is i }

-- ---- a mark beside changes

-- changes that were made are a transaction without a mark
pub transacted_single : (old : TrialView) (c : Change) (new : TrialView) (r : Result ℕ Refusal) → OnOk r (refusal_of old.state c ≡ None) → OnOk r (AreMade old (c ∷ []) new) → IfOk r (λ seq. seq ≡ new.state.seq)
    → IfOk r (λ seq. IsTransacted old (single c) seq new)
transacted_single old c new (Ok seq) accepted made seq_is =
    record { accepted = accepted; made = record { state = made.state; past = made.past; framed = made.framed; good = made.good; noted = tt }; seq_is = seq_is }
transacted_single old c new (Err r) accepted made seq_is = tt

pub transacted_several : (old : TrialView) (cs : List Change) (new : TrialView) (r : Result ℕ Refusal) → OnOk r (several_refusal old.state cs ≡ None) → OnOk r (AreMade old cs new) → IfOk r (λ seq. seq ≡ new.state.seq)
    → IfOk r (λ seq. IsTransacted old (several cs) seq new)
transacted_several old cs new (Ok seq) accepted made seq_is =
    record { accepted = accepted; made = record { state = made.state; past = made.past; framed = made.framed; good = made.good; noted = tt }; seq_is = seq_is }
transacted_several old cs new (Err r) accepted made seq_is = tt

-- a transaction that is accepted has changes
some_several : (s : State) (cs : List Change) → several_refusal s cs ≡ None → 1 ≤ length cs
some_several s [] none = absurd (cc none)
some_several s (c ∷ cs) none = omega arith

some_changes : (s : State) (cs : Changes) → changes_refusal s cs ≡ None → 1 ≤ length (all_of cs)
some_changes s (alone c) none = omega arith
some_changes s (together cs) none = some_several s cs none

-- each change is counted
seq_after : (s : State) (cs : List Change) → (after_all s cs).seq ≡ s.seq + length cs
seq_after s [] = omega arith
seq_after s (c ∷ cs) = let rest = seq_after (after s c) cs in omega (arith, rest)

length-befores : (s : State) (cs : List Change) → length (befores s cs) ≡ length cs
length-befores s [] = refl
length-befores s (c ∷ cs) = ap suc (length-befores (after s c) cs)

-- the first reason of two is none
first_none : (o p : Option Refusal) → option_or o (option_or p None) ≡ None → o ≡ None
first_none None p none = refl
first_none (Some r) p none = absurd (cc none)

mark_none : (s : State) (m : Marking) → marking_refusal s m ≡ None → mark_refusal s.profile m.key m.value ≡ None
mark_none s m none = first_none (mark_refusal s.profile m.key m.value) (other_mark s.marks m) none

-- changes beside a mark were made
module _ (old mid : TrialView) (m : Marking) (cs : Changes) (asked : marking_refusal old.state m ≡ None) (accepted : changes_refusal old.state cs ≡ None) (made : AreMade old (all_of cs) mid) where
  -- there is a newest one
  pub tried_some : 0 < length mid.past
  tried_some =
      let size = ap length made.past in
      let some = some_changes old.state cs accepted in
      omega (arith, size, some, length-append old.past (befores old.state (all_of cs)), length-befores old.state (all_of cs))

  -- and the mark may be set, since the profile stays
  pub mark_stays : mark_refusal mid.state.profile m.key m.value ≡ None
  mark_stays = ap (λ p. mark_refusal p m.key m.value) (ap (λ (s : State). s.profile) made.state ∙ profile_kept old.state (all_of cs)) ∙ mark_none old.state m asked

  -- the number after the changes is the one of the last
  seq_last : mid.state.seq ≡ last_seq old.state (marked m cs)
  seq_last = ap (λ (s : State). s.seq) made.state ∙ seq_after old.state (all_of cs)

  -- it was set, with that number
  pub transacted_marked : (new : TrialView) (seq : ℕ) → IsUtf8 m.value → seq ≡ mid.state.seq → new.state ≡ noted (mark_at_seq seq m) mid.state → new.past ≡ mid.past → IsTransacted old (marked m cs) seq new
  transacted_marked new seq text seq_is state past = record {
    accepted = (λ i. option_or (asked i) (changes_refusal old.state cs)) ∙ accepted;
    made = record {
      state = state ∙ (λ i. noted (mark_at_seq ((seq_is ∙ seq_last) i) m) (made.state i));
      past = past ∙ made.past;
      framed = made.framed;
      good = made.good;
      noted = is_mark old.state.profile (mark_at_seq (last_seq old.state (marked m cs)) m) (mark_none old.state m asked) text;
    };
    seq_is = seq_is ∙ sym (ap (λ (s : State). s.seq) state);
  }

-- what refuses the changes refuses the transaction
pub refuses_changes : (s : State) (m : Marking) (cs : Changes) (r : Refusal) → marking_refusal s m ≡ None → (r ≡ plain MEMORY) ⊎ (changes_refusal s cs ≡ Some r) ⊎ SaysOfChanges s cs r → RefusesTransaction s (marked m cs) r
refuses_changes s m cs r asked (inl memory) = inl memory
refuses_changes s m cs r asked (inr (inl is)) = inr (inl ((λ i. option_or (asked i) (changes_refusal s cs)) ∙ is))
refuses_changes s m cs r asked (inr (inr tells)) = inr (inr (asked, tells))

-- and what refuses what is said of marks
pub refuses_marking : (s : State) (m : Marking) (cs : Changes) (r : Refusal) → marking_refusal s m ≡ Some r → RefusesTransaction s (marked m cs) r
refuses_marking s m cs r is = inr (inl (λ i. option_or (is i) (changes_refusal s cs)))
