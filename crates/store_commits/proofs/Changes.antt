-- Changes and transactions one after another, and the bytes that hold them.
use Rattle.std.proofs.Common.{◌≡◌, ℕ, ◌+◌, ◌≤◌, ◌<◌, ◌^◌, List, [], ◌∷◌, ◌++◌, length, refl, sym, ◌∙◌, ap, subst, arith, length-append, drop, Bool, true, false, if◌then◌else◌, Option, None, Some, option_map, nat_le, ◌&&◌, map, suc}
use Rattle.std.specs.Prelude.{⊤}
use Rattle.std.specs.Option.{option_or}
use Rattle.std.proofs.lemmas.Bool.{leb-true, lt-ltb}
use Rattle.std.proofs.lemmas.List.{append_assoc, append-nil, length-drop, length-map}
use Rattle.record_text.specs.Change.{Change}
use Rattle.record_text.specs.Frame.{AreEntries, Entry, IsFramed, body_of, entry, frame_of, frames_in}
use Rattle.log_frames.specs.Kinds.{frame_as, frames_as, logged, note}
use Rattle.log_frames.specs.Log.{HasChange, entries_in, entries_of, logged_each, logged_transacted, logged_with, note_in, notes_in, notes_of, transacted, with_transactions}
use Rattle.log_frames.specs.declared.kind.Kind.{Kind}
use Rattle.log_frames.specs.declared.kind.Kind.TheVariants.{Last, More, Noted}
use Rattle.schema_rules.specs.declared.profile.Profile.{Profile}
use Rattle.schema_rules.specs.declared.profile.Profile.TheVariants.{Two}
use Rattle.doc_changes.specs.Marks.{AreNumbered, Mark, mark_refusal}
use Rattle.doc_changes.specs.State.{Document, State, Good}
use Rattle.doc_changes.specs.Step.{after, refusal_of}
use Rattle.doc_machine.specs.Marking.{Marking, mark_at_seq, marking_refusal, other_mark}
use Rattle.doc_machine.specs.Transaction.{AreAccepted, AreFramed, AreGood, Changes, IsNoted, Transaction, after_all, after_in, all_of, alone, befores, changes_of, changes_refusal, first_refused, is_countable, marked, marks_after, refusal_in, several, several_refusal, single, together}
use Rattle.doc_machine.specs.Trial.{first_or}
use Rattle.doc_changes.specs.Refusals.{plain}
use Rattle.doc_changes.specs.declared.refusal.Refusal.{Refusal}
use Rattle.refusals.specs.declared.numbers.TheConstants.{COMMAND}
use Rattle.doc_changes.proofs.Reasons.{none_first}
use Rattle.doc_machine.proofs.Transactions.{all_accepted}
use Rattle.store_commits.specs.Images.{Holds, profile_in, version_of_frames}
use Rattle.store_commits.specs.Notes.{AreNoted, noted_entry, with_marks}
use Rattle.record_text.proofs.Frames.{frames_in-append}
use Rattle.log_frames.proofs.Frames.{frames_as-append}
use Rattle.log_frames.proofs.Logs.{AreEntries-parts, IsLog-more, bytes-more, entries-more, notes-more}
use Rattle.store_commits.proofs.Logs.{entries_2, entries_3, of_2, spelled_2, spelled_3}
use Rattle.store_commits.proofs.More.{Makes, makes_all, makes_more}
use Rattle.store_commits.proofs.Notes.{entries_of_marks, marks_append, noted_append, noted_later, notes_framed}
use Rattle.store_commits.specs.Batch.{frame_sizes, size_of, sizes_of}
use Rattle.store_commits.specs.Folds.{AreFramedEach, after_each, all_changes, entries_from, frames_each, frames_for, frames_of, frames_together, frames_with, mark_after}
use Rattle.store_commits.specs.Inside.{AreGoodEach, befores_each, frames_before, kind_of}

-- ---- changes one after another

-- the last of them
pub good_last : (s : State) (cs : List Change) → AreGood s cs → Good (after_all s cs)
good_last s [] are = are
good_last s (c ∷ cs) are = good_last (after s c) cs are.1

-- the first of them
pub good_first : (s : State) (cs : List Change) → AreGood s cs → Good s
good_first s [] are = are
good_first s (c ∷ cs) are = are.0

pub changes_count : (s : State) (cs : List Change) → (after_all s cs).seq ≡ s.seq + length cs
changes_count s [] = omega arith
changes_count s (c ∷ cs) = let h = changes_count (after s c) cs in omega (arith, h)

pub marks_all : (s : State) (cs : List Change) → (after_all s cs).marks ≡ s.marks
marks_all s [] = refl
marks_all s (c ∷ cs) = marks_all (after s c) cs

pub profile_all : (s : State) (cs : List Change) → (after_all s cs).profile ≡ s.profile
profile_all s [] = refl
profile_all s (c ∷ cs) = profile_all (after s c) cs

-- ---- how long frames are

frame_size : (kind : Kind) (seq : ℕ) (c : Change) → length (frame_as (logged kind (entry seq c))) ≡ frame_sizes (c ∷ [])
frame_size kind seq c = omega arith

frame_size_2 : (seq : ℕ) (c : Change) → length (frame_of (entry seq c)) ≡ frame_sizes (c ∷ [])
frame_size_2 seq c = omega arith

-- in each format a frame is as long
pub frames_size : (rides : Bool) (seq : ℕ) (cs : List Change) → length (frames_together rides seq cs) ≡ frame_sizes cs
frames_size false seq [] = refl
frames_size false seq (c ∷ cs) =
    let one = frame_size_2 (seq + 1) c in
    let rest = frames_size false (seq + 1) cs in
    omega (arith, one, rest, length-append (frame_of (entry (seq + 1) c)) (frames_together false (seq + 1) cs))
frames_size true seq [] = refl
frames_size true seq (c ∷ []) =
    let one = frame_size Last (seq + 1) c in
    omega (arith, one, length-append (frame_as (logged Last (entry (seq + 1) c))) [])
frames_size true seq (c ∷ d ∷ cs) =
    let one = frame_size More (seq + 1) c in
    let rest = frames_size true (seq + 1) (d ∷ cs) in
    omega (arith, one, rest, length-append (frame_as (logged More (entry (seq + 1) c))) (frames_together true (seq + 1) (d ∷ cs)))

frames_more_size : (seq : ℕ) (cs : List Change) → length (frames_as (map (logged More) (entries_from seq cs))) ≡ frame_sizes cs
frames_more_size seq [] = refl
frames_more_size seq (c ∷ cs) =
    let one = frame_size More (seq + 1) c in
    let rest = frames_more_size (seq + 1) cs in
    omega (arith, one, rest, length-append (frame_as (logged More (entry (seq + 1) c))) (frames_as (map (logged More) (entries_from (seq + 1) cs))))

-- the frames of changes, and that of their mark behind them
pub marked_frames : (seq : ℕ) (cs : List Change) (e : Entry) → frames_as (logged_with (entries_from seq cs) (Some e)) ≡ frames_as (map (logged More) (entries_from seq cs)) ++ frame_as (logged Noted e)
marked_frames seq cs e =
    frames_as-append (map (logged More) (entries_from seq cs)) (logged Noted e ∷ []) ∙ ap (λ (l : List ℕ). frames_as (map (logged More) (entries_from seq cs)) ++ l) (append-nil (frame_as (logged Noted e)))

note_size : (m : Mark) → length (frame_as (logged Noted (noted_entry m))) ≡ 12 + length (body_of (note m.key m.value))
note_size m = omega arith

marked_size : (rides : Bool) (seq : ℕ) (cs : List Change) (m : Mark) → length (frames_with rides seq cs (Some m)) ≡ frame_sizes cs + (12 + length (body_of (note m.key m.value)))
marked_size rides seq cs m =
    let whole = ap length (marked_frames seq cs (noted_entry m)) in
    let changes = frames_more_size seq cs in
    let mark = note_size m in
    omega (arith, whole, changes, mark, length-append (frames_as (map (logged More) (entries_from seq cs))) (frame_as (logged Noted (noted_entry m))))

-- those of a transaction
pub size_is : (rides : Bool) (seq : ℕ) (t : Transaction) → length (frames_of rides seq t) ≡ size_of t
size_is rides seq (single c) = let one = frames_size rides seq (c ∷ []) in omega (arith, one)
size_is rides seq (several cs) = let all = frames_size rides seq cs in omega (arith, all)
size_is rides seq (marked m cs) = marked_size rides seq (all_of cs) (mark_at_seq (seq + length (all_of cs)) m)

-- those of transactions
pub sizes_are : (rides : Bool) (seq : ℕ) (ts : List Transaction) → length (frames_for rides seq ts) ≡ sizes_of ts
sizes_are rides seq [] = refl
sizes_are rides seq (t ∷ ts) =
    let one = size_is rides seq t in
    let rest = sizes_are rides (seq + length (changes_of t)) ts in
    omega (arith, one, rest, length-append (frames_of rides seq t) (frames_for rides (seq + length (changes_of t)) ts))

-- ---- frames behind frames

pub frames_append : (rides : Bool) (seq : ℕ) (ts us : List Transaction) → frames_for rides seq (ts ++ us) ≡ frames_for rides seq ts ++ frames_for rides (seq + length (all_changes ts)) us
frames_append rides seq [] us = let none : seq ≡ seq + 0 = omega arith in ap (λ (n : ℕ). frames_for rides n us) none
frames_append rides seq (t ∷ ts) us =
    let count = length-append (changes_of t) (all_changes ts) in
    let sum : (seq + length (changes_of t)) + length (all_changes ts) ≡ seq + length (all_changes (t ∷ ts)) = omega (arith, count) in
    ap (λ (l : List ℕ). frames_of rides seq t ++ l)
    (frames_append rides (seq + length (changes_of t)) ts us ∙ ap (λ (n : ℕ). frames_for rides (seq + length (changes_of t)) ts ++ frames_for rides n us) sum)
    ∙ sym (append_assoc (frames_of rides seq t) (frames_for rides (seq + length (changes_of t)) ts) (frames_for rides (seq + length (all_changes (t ∷ ts))) us))

-- those of each by themselves
pub each_append : (rides : Bool) (seq : ℕ) (ts us : List Transaction) → frames_each rides seq (ts ++ us) ≡ frames_each rides seq ts ++ frames_each rides (seq + length (all_changes ts)) us
each_append rides seq [] us = let none : seq ≡ seq + 0 = omega arith in ap (λ (n : ℕ). frames_each rides n us) none
each_append rides seq (t ∷ ts) us =
    let count = length-append (changes_of t) (all_changes ts) in
    let sum : (seq + length (changes_of t)) + length (all_changes ts) ≡ seq + length (all_changes (t ∷ ts)) = omega (arith, count) in
    ap (λ (ls : List (List ℕ)). frames_of rides seq t ∷ ls)
    (each_append rides (seq + length (changes_of t)) ts us ∙ ap (λ (n : ℕ). frames_each rides (seq + length (changes_of t)) ts ++ frames_each rides n us) sum)

-- of one transaction
pub frames_one : (rides : Bool) (seq : ℕ) (t : Transaction) → frames_for rides seq (t ∷ []) ≡ frames_of rides seq t
frames_one rides seq t = append-nil (frames_of rides seq t)

-- the frame of the last change of a transaction is that of format 2
abbrev pub LastIsPlain : Type 0
LastIsPlain = (e : Entry) → frame_as (logged Last e) ≡ frame_of e

-- so is that of one change in both
one_frame : LastIsPlain → (rides : Bool) (seq : ℕ) (c : Change) → frames_together rides seq (c ∷ []) ≡ frame_of (entry (seq + 1) c)
one_frame plain false seq c = append-nil (frame_of (entry (seq + 1) c))
one_frame plain true seq c = append-nil (frame_as (logged Last (entry (seq + 1) c))) ∙ plain (entry (seq + 1) c)

-- of changes that are left the first has this frame
more_follow : (n : ℕ) → 1 ≤ n → kind_of true n ≡ More
more_follow n some = ap (λ b. if b then More else Last) (lt-ltb 0 n (omega (arith, some)))

frames_go : LastIsPlain → (rides : Bool) (seq : ℕ) (c : Change) (cs : List Change)
    → frames_together rides seq (c ∷ cs) ≡ frame_as (logged (kind_of rides (length cs)) (entry (seq + 1) c)) ++ frames_together rides (seq + 1) cs
frames_go plain false seq c cs = ap (λ (l : List ℕ). l ++ frames_together false (seq + 1) cs) (sym (plain (entry (seq + 1) c)))
frames_go plain true seq c [] = refl
frames_go plain true seq c (d ∷ cs) =
    ap (λ (k : Kind). frame_as (logged k (entry (seq + 1) c)) ++ frames_together true (seq + 1) (d ∷ cs)) (sym (more_follow (length (d ∷ cs)) (omega arith)))

-- frames that no other follows are those of a whole transaction
pub before_none : LastIsPlain → (rides : Bool) (seq : ℕ) (cs : List Change) → frames_before rides 0 seq cs ≡ frames_together rides seq cs
before_none plain false seq [] = refl
before_none plain true seq [] = refl
before_none plain rides seq (c ∷ cs) =
    let none : length cs + 0 ≡ length cs = omega arith in
    (λ i. frame_as (logged (kind_of rides (none i)) (entry (seq + 1) c)) ++ before_none plain rides (seq + 1) cs i) ∙ sym (frames_go plain rides seq c cs)

-- if one follows, each says so
pub before_one : (seq : ℕ) (cs : List Change) → frames_before true 1 seq cs ≡ frames_as (map (logged More) (entries_from seq cs))
before_one seq [] = refl
before_one seq (c ∷ cs) = (λ i. frame_as (logged (more_follow (length cs + 1) (omega arith) i) (entry (seq + 1) c)) ++ before_one (seq + 1) cs i)

-- the frame of the first of the commands that are left, with as many after it as are counted
pub frames_step : {A : Type 0} → (rides : Bool) (more : ℕ) (f : A → Change) (items : List A) (index left last : ℕ) (item : A)
    → drop index items ≡ item ∷ drop (suc index) items → left + suc index ≡ length items + more
    → frame_as (logged (kind_of rides left) (entry (last + 1) (f item))) ++ frames_before rides more (last + 1) (map f (drop (suc index) items)) ≡ frames_before rides more last (map f (drop index items))
frames_step {A} rides more f items index left last item is count =
    let rest = drop (suc index) items in
    let mapped = length-map rest f in
    let dropped = length-drop (suc index) items in
    let size = ap length is in
    let whole = length-drop index items in
    let many : left ≡ length (map f rest) + more = omega (arith, mapped, dropped, count, size, whole) in
    ap (λ (n : ℕ). frame_as (logged (kind_of rides n) (entry (last + 1) (f item))) ++ frames_before rides more (last + 1) (map f rest)) many
    ∙ ap (λ (l : List A). frames_before rides more last (map f l)) (sym is)

-- ---- transactions

left_true : (x y : Bool) → (x && y) ≡ true → x ≡ true
left_true true y both = refl
left_true false y both = both

-- the first of two refusals
none_both : (o p : Option Refusal) → option_or o p ≡ None → (o ≡ None) × (p ≡ None)
none_both None p none = (refl, none)
none_both (Some r) p none = absurd (cc none)

-- what is said of marks isn't refused, and the changes aren't
pub parts_accepted : (s : State) (m : Marking) (cs : Changes) → refusal_in s (marked m cs) ≡ None → (mark_refusal s.profile m.key m.value ≡ None) × (changes_refusal s cs ≡ None)
parts_accepted s m cs accepted =
    let both = none_both (marking_refusal s m) (changes_refusal s cs) accepted in
    ((none_first (mark_refusal s.profile m.key m.value ∷ other_mark s.marks m ∷ []) both.0).0, both.1)

some_several : (s : State) (cs : List Change) → several_refusal s cs ≡ None → 1 ≤ length cs
some_several s cs accepted = by (is_countable cs) refl accepted
  where
    by : (b : Bool) → is_countable cs ≡ b → (if b then first_refused 0 0 s cs else Some (plain COMMAND)) ≡ None → 1 ≤ length cs
    by true is none = leb-true 1 (length cs) (left_true (nat_le 1 (length cs)) (nat_le (length cs) 1_024) is)
    by false is none = absurd (cc none)

several_accepted : (s : State) (cs : List Change) → several_refusal s cs ≡ None → AreAccepted s cs
several_accepted s cs accepted = by (is_countable cs) accepted
  where
    by : (b : Bool) → (if b then first_refused 0 0 s cs else Some (plain COMMAND)) ≡ None → AreAccepted s cs
    by true none = all_accepted 0 0 s cs none
    by false none = absurd (cc none)

some_beside : (s : State) (cs : Changes) → changes_refusal s cs ≡ None → 1 ≤ length (all_of cs)
some_beside s (alone c) accepted = omega arith
some_beside s (together cs) accepted = some_several s cs accepted

accepted_beside : (s : State) (cs : Changes) → changes_refusal s cs ≡ None → AreAccepted s (all_of cs)
accepted_beside s (alone c) accepted = (accepted, tt)
accepted_beside s (together cs) accepted = several_accepted s cs accepted

-- a transaction that is accepted has a change at least, and each of its changes is accepted
pub some_accepted : (s : State) (t : Transaction) → refusal_in s t ≡ None → 1 ≤ length (changes_of t)
some_accepted s (single c) accepted = omega arith
some_accepted s (several cs) accepted = some_several s cs accepted
some_accepted s (marked m cs) accepted = some_beside s cs (parts_accepted s m cs accepted).1

pub accepted_in : (s : State) (t : Transaction) → refusal_in s t ≡ None → AreAccepted s (changes_of t)
accepted_in s (single c) accepted = (accepted, tt)
accepted_in s (several cs) accepted = several_accepted s cs accepted
accepted_in s (marked m cs) accepted = accepted_beside s cs (parts_accepted s m cs accepted).1

-- each of them is accepted after those before it
abbrev pub AcceptedEach : State → List Transaction → Type 0
AcceptedEach s [] = ⊤
AcceptedEach s (t ∷ ts) = (refusal_in s t ≡ None) × AcceptedEach (after_in s t) ts

-- ---- the mark of a transaction

-- as the marks that are set
abbrev set_by : Option Mark → List Mark
set_by None = []
set_by (Some m) = m ∷ []

set_is : (o : Option Mark) (ms : List Mark) → with_marks ms (set_by o) ≡ marks_after o ms
set_is None ms = refl
set_is (Some m) ms = refl

note_is : (o : Option Mark) → note_in (option_map noted_entry o) ≡ map noted_entry (set_by o)
note_is None = refl
note_is (Some m) = refl

-- a journal can hold it
set_framed : (o : Option Mark) (seq : ℕ) → seq < 2 ^ 64 → IsNoted o → AreNumbered seq (set_by o) → AreEntries 2 (map noted_entry (set_by o))
set_framed None seq fits is low = tt
set_framed (Some m) seq fits is low = notes_framed seq fits (m ∷ []) (is, tt) low

set_numbered : (seq : ℕ) (t : Transaction) → AreNumbered (seq + length (changes_of t)) (set_by (mark_after seq t))
set_numbered seq (single c) = tt
set_numbered seq (several cs) = tt
set_numbered seq (marked m cs) = (omega arith, tt)

set_taken : (s : State) (t : Transaction) → refusal_in s t ≡ None → AreNoted s.profile (s.seq + length (changes_of t)) (set_by (mark_after s.seq t))
set_taken s (single c) accepted = tt
set_taken s (several cs) accepted = tt
set_taken s (marked m cs) accepted = (record { not_ahead = omega arith; accepted = (parts_accepted s m cs accepted).0 }, tt)

-- in profile 2 there is none
none_marked : (s : State) (t : Transaction) → s.profile ≡ Two → refusal_in s t ≡ None → mark_after s.seq t ≡ None
none_marked s (single c) two accepted = refl
none_marked s (several cs) two accepted = refl
none_marked s (marked m cs) two accepted =
    let none = subst (λ (p : Profile). mark_refusal p m.key m.value ≡ None) two (parts_accepted s m cs accepted).0 in absurd (cc none)

-- ---- what bytes hold

marked_is : (seq : ℕ) (cs : List Change) (o : Option Mark) → frames_with true seq cs o ≡ frames_as (logged_with (entries_from seq cs) (option_map noted_entry o))
marked_is seq cs None = refl
marked_is seq cs (Some m) = refl

has_change : (seq : ℕ) (cs : List Change) → 1 ≤ length cs → HasChange (entries_from seq cs)
has_change seq [] some = absurd (omega (arith, some))
has_change seq (c ∷ cs) some = tt

-- the frames of a transaction behind bytes that hold a state hold what their entries make with those before, and its mark
holds_behind : (rides : Bool) (bytes : List ℕ) (s : State) (cs : List Change) (o : Option Mark) → 1 ≤ length cs → (rides ≡ false → o ≡ None) → (holds : Holds s.profile (version_of_frames rides 2) s.seq bytes s.documents s.marks)
    → (profile : Profile) (seq : ℕ) (documents : List Document) → Makes profile seq (holds.entries ++ entries_from s.seq cs) documents → AreNoted profile seq (holds.notes ++ set_by o) → AreEntries 2 (map noted_entry (set_by o))
    → Holds profile (version_of_frames rides 2) seq (bytes ++ frames_with rides s.seq cs o) documents (marks_after o s.marks)
holds_behind false bytes s cs (Some m) some unmarked holds profile seq documents makes noted framed = let none = unmarked refl in absurd (cc none)
holds_behind false bytes s cs None some unmarked holds profile seq documents makes noted framed =
    let es = entries_from s.seq cs in
    let was = of_2 holds.entries holds.notes bytes holds.spelled in
    record {
      entries = holds.entries ++ es;
      notes = [];
      framed = makes.framed;
      dated = λ old. absurd (omega (arith, old));
      spelled = spelled_2 (holds.entries ++ es) (bytes ++ frames_in 2 es) (frames_in-append 2 holds.entries es ∙ ap (λ (l : List ℕ). l ++ frames_in 2 es) was.0);
      taken = makes.taken;
      documents_are = makes.documents_are;
      noted = tt;
      marks_are = sym (ap (with_marks []) was.1) ∙ holds.marks_are;
    }
holds_behind true bytes s cs o some unmarked holds profile seq documents makes noted framed =
    let es = entries_from s.seq cs in
    let t = transacted es (option_map noted_entry o) in
    let ts = t ∷ [] in
    let was = holds.spelled.logged refl in
    let entries_is : entries_in ts ≡ es = append-nil es in
    let notes_is : notes_in ts ≡ map noted_entry (set_by o) = append-nil (note_in t.mark) ∙ note_is o in
    let entries_are : entries_of (with_transactions was.log ts) ≡ holds.entries ++ es = entries-more was.log ts ∙ (λ i. was.entries_are i ++ entries_is i) in
    let notes_are : notes_of (with_transactions was.log ts) ≡ map noted_entry (holds.notes ++ set_by o) =
    notes-more was.log ts ∙ (λ i. was.notes_are i ++ notes_is i) ∙ sym (entries_of_marks holds.notes (set_by o)) in
    let one : frames_as (logged_each ts) ≡ frames_with true s.seq cs o = ap frames_as (append-nil (logged_transacted t)) ∙ sym (marked_is s.seq cs o) in
    let is = IsLog-more was.log ts was.is_log (subst (AreEntries 2) (sym entries_is) (AreEntries-parts holds.entries es makes.framed).1) (subst (AreEntries 2) (sym notes_is) framed) (has_change s.seq cs some, tt) in
    record {
      entries = holds.entries ++ es;
      notes = holds.notes ++ set_by o;
      framed = entries_3 (holds.entries ++ es) makes.framed;
      dated = λ old. absurd (omega (arith, old));
      spelled = spelled_3 (holds.entries ++ es) (holds.notes ++ set_by o) (bytes ++ frames_with true s.seq cs o) (with_transactions was.log ts) is entries_are notes_are
          (bytes-more was.log ts ∙ (λ i. was.bytes_are i ++ one i));
      taken = makes.taken;
      documents_are = makes.documents_are;
      noted = noted;
      marks_are = marks_append [] holds.notes (set_by o) ∙ ap (λ (ms : List Mark). with_marks ms (set_by o)) holds.marks_are ∙ set_is o s.marks;
    }

-- the entries of bytes that hold a state make it
makes_of : (rides : Bool) (bytes : List ℕ) (s : State) → (holds : Holds s.profile (version_of_frames rides 2) s.seq bytes s.documents s.marks) → Makes s.profile s.seq holds.entries s.documents
makes_of false bytes s holds = record { framed = holds.framed; taken = holds.taken; documents_are = holds.documents_are }
makes_of true bytes s holds = record { framed = entries_2 holds.entries holds.framed; taken = holds.taken; documents_are = holds.documents_are }

-- that of an accepted change
pub holds_more : LastIsPlain → (rides : Bool) (s : State) (bytes : List ℕ) (c : Change) → Good s → Holds s.profile (version_of_frames rides 2) s.seq bytes s.documents s.marks → refusal_of s c ≡ None → IsFramed c
    → Holds s.profile (version_of_frames rides 2) (s.seq + 1) (bytes ++ frame_of (entry (s.seq + 1) c)) (after s c).documents s.marks
holds_more plain rides s bytes c good holds accepted framed =
    subst (λ (l : List ℕ). Holds s.profile (version_of_frames rides 2) (s.seq + 1) (bytes ++ l) (after s c).documents s.marks) (one_frame plain rides s.seq c)
    (holds_behind rides bytes s (c ∷ []) None (omega arith) (λ _. refl) holds s.profile (s.seq + 1) (after s c).documents (makes_more s holds.entries c good (makes_of rides bytes s holds) accepted framed)
    (noted_append s.profile (s.seq + 1) holds.notes [] (noted_later s.profile s.seq (s.seq + 1) holds.notes (omega arith) holds.noted) tt) tt)

-- those of an accepted transaction, in the format of the state's profile
pub holds_transaction : (rides : Bool) (s : State) (bytes : List ℕ) (t : Transaction) → profile_in rides ≡ s.profile → Holds s.profile (version_of_frames rides 2) s.seq bytes s.documents s.marks → refusal_in s t ≡ None
    → AreFramed (changes_of t) → IsNoted (mark_after s.seq t) → AreGood s (changes_of t)
    → Holds (after_in s t).profile (version_of_frames rides 2) (after_in s t).seq (bytes ++ frames_of rides s.seq t) (after_in s t).documents (after_in s t).marks
holds_transaction rides s bytes t profile holds accepted framed is good =
    let cs = changes_of t in
    let o = mark_after s.seq t in
    let end = after_all s cs in
    let v = version_of_frames rides 2 in
    let count : end.seq ≡ s.seq + length cs = changes_count s cs in
    let last = (good_last s cs good).counted in
    let low : s.seq ≤ end.seq = omega (arith, count) in
    let unmarked : rides ≡ false → o ≡ None = λ two. none_marked s t (sym profile ∙ ap profile_in two) accepted in
    let taken : AreNoted s.profile end.seq (holds.notes ++ set_by o) =
    noted_append s.profile end.seq holds.notes (set_by o) (noted_later s.profile s.seq end.seq holds.notes low holds.noted) (subst (λ (n : ℕ). AreNoted s.profile n (set_by o)) (sym count) (set_taken s t accepted)) in
    let noted = subst (λ (p : Profile). AreNoted p end.seq (holds.notes ++ set_by o)) (sym (profile_all s cs)) taken in
    let kept = set_framed o (s.seq + length cs) (omega (arith, last, count)) is (set_numbered s.seq t) in
    subst (λ (ms : List Mark). Holds end.profile v end.seq (bytes ++ frames_of rides s.seq t) end.documents (marks_after o ms)) (sym (marks_all s cs))
    (holds_behind rides bytes s cs o (some_accepted s t accepted) unmarked holds end.profile end.seq end.documents (makes_all s holds.entries cs (makes_of rides bytes s holds) (accepted_in s t accepted) framed good) noted kept)

-- ---- transactions, and their seq

pub seq_after : (s : State) (t : Transaction) → (after_in s t).seq ≡ s.seq + length (changes_of t)
seq_after s t = changes_count s (changes_of t)

-- ---- transactions behind transactions

pub all_append : (ts us : List Transaction) → all_changes (ts ++ us) ≡ all_changes ts ++ all_changes us
all_append [] us = refl
all_append (t ∷ ts) us = ap (λ (l : List Change). changes_of t ++ l) (all_append ts us) ∙ sym (append_assoc (changes_of t) (all_changes ts) (all_changes us))

pub all_push : (ts : List Transaction) (t : Transaction) → all_changes (ts ++ t ∷ []) ≡ all_changes ts ++ changes_of t
all_push ts t = all_append ts (t ∷ []) ∙ ap (λ (l : List Change). all_changes ts ++ l) (append-nil (changes_of t))

pub after_append : (s : State) (ts us : List Transaction) → after_each s (ts ++ us) ≡ after_each (after_each s ts) us
after_append s [] us = refl
after_append s (t ∷ ts) us = after_append (after_in s t) ts us

pub after_push : (s : State) (ts : List Transaction) (t : Transaction) → after_each s (ts ++ t ∷ []) ≡ after_in (after_each s ts) t
after_push s ts t = after_append s ts (t ∷ [])

pub seq_counts : (s : State) (ts : List Transaction) → (after_each s ts).seq ≡ s.seq + length (all_changes ts)
seq_counts s [] = omega arith
seq_counts s (t ∷ ts) =
    let rest = seq_counts (after_in s t) ts in
    let first = seq_after s t in
    omega (arith, rest, first, length-append (changes_of t) (all_changes ts))

pub profile_each : (s : State) (ts : List Transaction) → (after_each s ts).profile ≡ s.profile
profile_each s [] = refl
profile_each s (t ∷ ts) = profile_each (after_in s t) ts ∙ profile_all s (changes_of t)

-- the last state, and the first
pub good_end : (s : State) (ts : List Transaction) → AreGoodEach s ts → Good (after_each s ts)
good_end s [] are = are
good_end s (t ∷ ts) are = good_end (after_in s t) ts are.1

pub good_start : (s : State) (ts : List Transaction) → AreGoodEach s ts → Good s
good_start s [] are = are
good_start s (t ∷ ts) are = good_first s (changes_of t) are.0

pub good_push : (s : State) (ts : List Transaction) (t : Transaction) → AreGoodEach s ts → AreGood (after_each s ts) (changes_of t) → Good (after_in (after_each s ts) t) → AreGoodEach s (ts ++ t ∷ [])
good_push s [] t are more last = (more, last)
good_push s (u ∷ ts) t are more last = (are.0, good_push (after_in s u) ts t are.1 more last)

pub framed_push : (seq : ℕ) (ts : List Transaction) (t : Transaction) → AreFramedEach seq ts → AreFramed (changes_of t) → IsNoted (mark_after (seq + length (all_changes ts)) t) → AreFramedEach seq (ts ++ t ∷ [])
framed_push seq [] t are more mark = let none : seq + 0 ≡ seq = omega arith in (more, subst (λ (n : ℕ). IsNoted (mark_after n t)) none mark, tt)
framed_push seq (u ∷ ts) t are more mark =
    let sum : seq + length (all_changes (u ∷ ts)) ≡ (seq + length (changes_of u)) + length (all_changes ts) = omega (arith, length-append (changes_of u) (all_changes ts)) in
    (are.0, are.1, framed_push (seq + length (changes_of u)) ts t are.2 more (subst (λ (n : ℕ). IsNoted (mark_after n t)) sum mark))

pub framed_append : (seq : ℕ) (ts us : List Transaction) → AreFramedEach seq ts → AreFramedEach (seq + length (all_changes ts)) us → AreFramedEach seq (ts ++ us)
framed_append seq [] us are more = let none : seq + 0 ≡ seq = omega arith in subst (λ (n : ℕ). AreFramedEach n us) none more
framed_append seq (t ∷ ts) us are more =
    let sum : seq + length (all_changes (t ∷ ts)) ≡ (seq + length (changes_of t)) + length (all_changes ts) = omega (arith, length-append (changes_of t) (all_changes ts)) in
    (are.0, are.1, framed_append (seq + length (changes_of t)) ts us are.2 (subst (λ (n : ℕ). AreFramedEach n us) sum more))

-- the frames of accepted transactions behind the bytes that hold the state
pub holds_each : (rides : Bool) (bytes : List ℕ) (s : State) (ts : List Transaction) → profile_in rides ≡ s.profile → Holds s.profile (version_of_frames rides 2) s.seq bytes s.documents s.marks
    → AcceptedEach s ts → AreFramedEach s.seq ts → AreGoodEach s ts
    → Holds (after_each s ts).profile (version_of_frames rides 2) (after_each s ts).seq (bytes ++ frames_for rides s.seq ts) (after_each s ts).documents (after_each s ts).marks
holds_each rides bytes s [] profile holds accepted framed good = subst (λ (l : List ℕ). Holds s.profile (version_of_frames rides 2) s.seq l s.documents s.marks) (sym (append-nil bytes)) holds
holds_each rides bytes s (t ∷ ts) profile holds accepted framed good =
    let next = after_in s t in
    let end = after_each next ts in
    let count = seq_after s t in
    let one = frames_of rides s.seq t in
    let there : (bytes ++ one) ++ frames_for rides next.seq ts ≡ bytes ++ frames_for rides s.seq (t ∷ ts) =
    append_assoc bytes one (frames_for rides next.seq ts) ∙ ap (λ (n : ℕ). bytes ++ (one ++ frames_for rides n ts)) count in
    subst (λ (l : List ℕ). Holds end.profile (version_of_frames rides 2) end.seq l end.documents end.marks) there
    (holds_each rides (bytes ++ one) next ts (profile ∙ sym (profile_all s (changes_of t))) (holds_transaction rides s bytes t profile holds accepted.0 framed.0 framed.1 good.0) accepted.1
    (subst (λ (n : ℕ). AreFramedEach n ts) (sym count) framed.2) good.1)

pub sizes_append : (ts us : List Transaction) → sizes_of (ts ++ us) ≡ sizes_of ts + sizes_of us
sizes_append [] us = omega arith
sizes_append (t ∷ ts) us = let rest = sizes_append ts us in omega (arith, rest)

pub befores_push : (s : State) (ts : List Transaction) (t : Transaction) → befores_each s (ts ++ t ∷ []) ≡ befores_each s ts ++ befores (after_each s ts) (changes_of t)
befores_push s [] t = append-nil (befores s (changes_of t))
befores_push s (u ∷ ts) t =
    ap (λ (l : List State). befores s (changes_of u) ++ l) (befores_push (after_in s u) ts t)
    ∙ sym (append_assoc (befores s (changes_of u)) (befores_each (after_in s u) ts) (befores (after_each (after_in s u) ts) (changes_of t)))

-- each of them has a change
abbrev pub HaveSome : List Transaction → Type 0
HaveSome [] = ⊤
HaveSome (t ∷ ts) = (1 ≤ length (changes_of t)) × HaveSome ts

pub some_append : (ts us : List Transaction) → HaveSome ts → HaveSome us → HaveSome (ts ++ us)
some_append [] us some more = more
some_append (t ∷ ts) us some more = (some.0, some_append ts us some.1 more)

pub some_behind : (ts us : List Transaction) → HaveSome (ts ++ us) → HaveSome us
some_behind [] us some = some
some_behind (t ∷ ts) us some = some_behind ts us some.1

-- the states behind those of changes
past_over : (s : State) (cs ds : List Change) (rest : List State) → drop (length (cs ++ ds)) (befores s cs ++ rest) ≡ drop (length ds) rest
past_over s [] ds rest = refl
past_over s (c ∷ cs) ds rest = past_over (after s c) cs ds rest

first_there : (s end : State) (cs : List Change) (rest : List State) → 1 ≤ length cs → first_or end (befores s cs ++ rest) ≡ s
first_there s end [] rest some = absurd (omega (arith, some))
first_there s end (c ∷ cs) rest some = refl

-- the state after the first of them
pub state_before : (s : State) (kept lost : List Transaction) → HaveSome lost → first_or (after_each s (kept ++ lost)) (drop (length (all_changes kept)) (befores_each s (kept ++ lost))) ≡ after_each s kept
state_before s [] [] some = refl
state_before s [] (t ∷ lost) some = first_there s (after_each (after_in s t) lost) (changes_of t) (befores_each (after_in s t) lost) some.0
state_before s (t ∷ kept) lost some =
    ap (first_or (after_each (after_in s t) (kept ++ lost))) (past_over s (changes_of t) (all_changes kept) (befores_each (after_in s t) (kept ++ lost))) ∙ state_before (after_in s t) kept lost some
