-- Logs replayed from the front, a frame at a time.
use Rattle.std.proofs.Common.{◌≡◌, ◌≢◌, ℕ, ◌≤◌, Bool, true, false, if◌then◌else◌, List, [], ◌∷◌, ◌++◌, length, length-append, map, take, drop, refl, sym, ◌∙◌, ap, subst, arith, None, Some}
use Rattle.std.proofs.lemmas.List.{append_assoc, append-nil, take-append-drop}
use Rattle.std.proofs.Math.Seq.{take-append_seam, drop-append_seam}
use Rattle.record_text.specs.Change.{patch}
use Rattle.record_text.specs.Frame.{Entry, entry, IsEntry, AreEntries}
use Rattle.log_frames.specs.Kinds.{BeginsAs, Logged, frame_as, frames_as, is_noted, logged}
use Rattle.log_frames.specs.Log.{entries_in_frames, entries_of, logged_of, notes_in_frames, notes_of}
use Rattle.log_frames.specs.Places.{Complete, can_end, place_after}
use Rattle.log_frames.specs.declared.kind.Kind.{Kind}
use Rattle.log_frames.specs.declared.kind.Kind.TheVariants.{Kept, Last, More, Noted}
use Rattle.log_frames.specs.declared.place.Place.{Place}
use Rattle.log_frames.specs.declared.place.Place.TheVariants.{Snapshot}
use Rattle.doc_machine.specs.Entries.{AreTaken, Takes, with_all, with_entry}
use Rattle.schema_rules.specs.declared.profile.Profile.{Profile}
use Rattle.doc_changes.specs.Marks.{Mark}
use Rattle.doc_changes.specs.State.{State, empty_in, noted as with_note}
use Rattle.doc_patch.specs.declared.patch.Patch.{Patch}
use Rattle.record_text.specs.declared.lent.PatchFrame.{PatchFrame}
use Rattle.store_commits.specs.Images.{Holds}
use Rattle.store_commits.specs.Notes.{AreNoted, noted_entry, with_marks}
use Rattle.store_commits.specs.Replay.{AreRead, ContinuesLog, HoldsNothing, IsPatchAs, ReadsOnly, RefusesAs, ReplayedLog, TakesAs, TakesFrames, TakesLogged, TakesNoneLogged}
use Rattle.log_frames.proofs.Frames.{frames_as-append, one_frame}
use Rattle.log_frames.proofs.Logs.{entries-log, notes-log}
use Rattle.log_frames.proofs.Places.{Complete-end, Lead-one, OfLog-complete, log_completes}
use Rattle.store_commits.proofs.Logs.{entries_3, spelled_3}
use Rattle.store_commits.proofs.Notes.{one_mark}

-- ---- what a frame holds

-- a frame of another kind than a mark's holds the change of an entry
pub change_taken : (kind : Kind) (e : Entry) (s : State) → is_noted kind ≡ false → Takes s e → TakesAs kind e s (with_entry s e)
change_taken Last e s is takes = (takes, refl)
change_taken More e s is takes = (takes, refl)
change_taken Kept e s is takes = (takes, refl)
change_taken Noted e s is takes = absurd (cc is)

pub change_refused : (kind : Kind) (e : Entry) (s : State) → is_noted kind ≡ false → (Takes s e → ⊥) → RefusesAs kind e s
change_refused Last e s is refused new takes = refused takes.0
change_refused More e s is refused new takes = refused takes.0
change_refused Kept e s is refused new takes = refused takes.0
change_refused Noted e s is refused new takes = absurd (cc is)

-- neither seq nor the profile changes
pub still_there : (kind : Kind) (e : Entry) (s t : State) → TakesAs kind e s t → (t.seq ≡ s.seq) × (t.profile ≡ s.profile)
still_there Last e s t takes = (ap (λ (x : State). x.seq) takes.1, ap (λ (x : State). x.profile) takes.1)
still_there More e s t takes = (ap (λ (x : State). x.seq) takes.1, ap (λ (x : State). x.profile) takes.1)
still_there Kept e s t takes = (ap (λ (x : State). x.seq) takes.1, ap (λ (x : State). x.profile) takes.1)
still_there Noted e s t takes = (ap (λ (x : State). x.seq) takes.3, ap (λ (x : State). x.profile) takes.3)

-- another kind than a mark's
pub no_mark : (kind : Kind) → (kind ≡ Noted → ⊥) → is_noted kind ≡ false
no_mark Last other = refl
no_mark More other = refl
no_mark Kept other = refl
no_mark Noted other = absurd (other refl)

-- the state before leads to one state alone
one_state : (kind : Kind) (e : Entry) (s a b : State) → TakesAs kind e s a → TakesAs kind e s b → a ≡ b
one_state Last e s a b this that = this.1 ∙ sym that.1
one_state More e s a b this that = this.1 ∙ sym that.1
one_state Kept e s a b this that = this.1 ∙ sym that.1
one_state Noted e s a b this that =
    let same = one_mark this.0 that.0 (this.1 ∙ sym that.1) in
    this.3 ∙ ap (λ (m : Mark). with_note m s) same ∙ sym that.3

pub taken_push : (s t u : State) (ls : List Logged) (l : Logged) → TakesFrames s ls t → TakesAs l.kind l.entry t u → TakesFrames s (ls ++ l ∷ []) u
taken_push s t u [] l are more = (u, subst (λ (x : State). TakesAs l.kind l.entry x u) (sym are) more, refl)
taken_push s t u (m ∷ ls) l are more = (are.0, are.1, taken_push are.0 t u ls l are.2 more)

read_push : (ls : List Logged) (l : Logged) → AreRead ls → IsEntry 2 l.entry → AreRead (ls ++ l ∷ [])
read_push [] l are is = (is, tt)
read_push (m ∷ ls) l are is = (are.0, read_push ls l are.1 is)

-- a frame has bytes
frame_long : (l : Logged) → 12 ≤ length (frame_as l)
frame_long l = omega arith

none_empty : (l : Logged) (more : List ℕ) → frame_as l ++ more ≡ [] → ⊥
none_empty l more is = let long = frame_long l in let none = ap length is in let sum = length-append (frame_as l) more in omega (arith, long, none, sum)

-- ---- a frame at a time

pub log_start : (profile : Profile) (seq : ℕ) (bytes : List ℕ) (state : State) → state ≡ empty_in profile seq → ReplayedLog profile seq bytes bytes Snapshot state
log_start profile seq bytes state is = record {
  logged = [];
  framed = tt;
  spelled = refl;
  leads = refl;
  taken = sym is;
  only = λ ls goes. (ls, subst (λ (s : State). ContinuesLog Snapshot s bytes ls) (sym is) goes);
}

entry_of : (bytes : List ℕ) (l : Logged) (n : ℕ) → BeginsAs bytes l n → IsEntry 2 l.entry
entry_of bytes l n begins = record { framed = begins.framed; seq_fits = begins.seq_fits; asks_none = λ old. absurd (omega (arith, old)) }

-- what a frame more leaves
rest_of : (rest : List ℕ) (l : Logged) (n : ℕ) → BeginsAs rest l n → rest ≡ frame_as l ++ drop n rest
rest_of rest l n begins = sym (take-append-drop n rest) ∙ ap (λ (front : List ℕ). front ++ drop n rest) begins.frame

-- if frames go on, the bytes begin with the first of them
first_of : (rest : List ℕ) (l : Logged) (more : List Logged) → IsEntry 2 l.entry → frame_as l ++ frames_as more ≡ rest → BeginsAs rest l (length (frame_as l))
first_of rest l more is spelled = record {
  framed = is.framed;
  seq_fits = is.seq_fits;
  frame = ap (take (length (frame_as l))) (sym spelled) ∙ take-append_seam (frame_as l) (frames_as more);
  len = refl;
}

same_place : (p q : Place) → Some p ≡ Some q → p ≡ q
same_place p q is = cc is

goes_on : (rest : List ℕ) (place next : Place) (state new : State) (l : Logged) (n : ℕ) → rest ≢ [] → ReadsOnly rest l n → place_after place l.kind ≡ Some next → TakesAs l.kind l.entry state new
    → (more : List Logged) → ContinuesLog place state rest more → (others : List Logged) × ContinuesLog next new (drop n rest) others
goes_on rest place next state new l n nonempty reads comes takes [] goes = absurd (nonempty (sym goes.spelled))
goes_on rest place next state new l n nonempty reads comes takes (m ∷ more) goes =
    let same = reads m (length (frame_as m)) (first_of rest m more goes.framed.0 goes.spelled) in
    let there : next ≡ goes.complete.0 = same_place next goes.complete.0 (sym comes ∙ ap (λ (k : Logged). place_after place k.kind) same.0 ∙ goes.complete.1) in
    let here : goes.taken.0 ≡ new = one_state m.kind m.entry state goes.taken.0 new goes.taken.1 (subst (λ (k : Logged). TakesAs k.kind k.entry state new) same.0 takes) in (
      more,
      record {
        framed = goes.framed.1;
        spelled = sym (drop-append_seam (frame_as m) (frames_as more)) ∙ ap (drop (length (frame_as m))) goes.spelled ∙ ap (λ (k : ℕ). drop k rest) (sym same.1);
        complete = subst (λ (p : Place). Complete p more) (sym there) goes.complete.2;
        end = goes.end;
        taken = subst (λ (s : State). TakesFrames s more goes.end) here goes.taken.2;
      },
    )

pub log_more : (profile : Profile) (seq : ℕ) (bytes rest : List ℕ) (place next : Place) (state new : State) (n : ℕ) → ReplayedLog profile seq bytes rest place state → rest ≢ [] → TakesLogged rest place state next new n
    → ReplayedLog profile seq bytes (drop n rest) next new
log_more profile seq bytes rest place next state new n replayed nonempty first =
    let l = first.first in
    let ls = replayed.logged in
    record {
      logged = ls ++ l ∷ [];
      framed = read_push ls l replayed.framed (entry_of rest l n first.begins);
      spelled = ap (λ (x : List ℕ). x ++ drop n rest) (frames_as-append ls (l ∷ []) ∙ ap (λ (x : List ℕ). frames_as ls ++ x) (append-nil (frame_as l)))
          ∙ append_assoc (frames_as ls) (frame_as l) (drop n rest)
          ∙ ap (λ (x : List ℕ). frames_as ls ++ x) (sym (rest_of rest l n first.begins)) ∙ replayed.spelled;
      leads = Lead-one Snapshot place next ls l replayed.leads first.comes;
      taken = taken_push (empty_in profile seq) state new ls l replayed.taken first.takes;
      only = λ es goes. (let more = replayed.only es goes in goes_on rest place next state new l n nonempty first.only first.comes first.takes more.0 more.1);
    }

-- ---- the entries and the marks of frames

-- a state and what frames make of it, apart: its documents by the entries, its marks by the notes
record Apart (s : State) (ls : List Logged) (end : State) : Type 0 where
  notes : List Mark
  notes_are : notes_in_frames ls ≡ map noted_entry notes
  taken : AreTaken s (entries_in_frames ls)
  documents_are : (with_all s (entries_in_frames ls)).documents ≡ end.documents
  noted : AreNoted s.profile s.seq notes
  marks_are : with_marks s.marks notes ≡ end.marks

-- entries leave the marks, and take no notice of them
marks_apart : (s : State) (ms : List Mark) (es : List Entry) → AreTaken s es → AreTaken (record s { marks = ms }) es
marks_apart s ms [] are = tt
marks_apart s ms (e ∷ es) are = (record { not_ahead = are.0.not_ahead; accepted = are.0.accepted }, marks_apart (with_entry s e) ms es are.1)

documents_apart : (s : State) (ms : List Mark) (es : List Entry) → (with_all (record s { marks = ms }) es).documents ≡ (with_all s es).documents
documents_apart s ms [] = refl
documents_apart s ms (e ∷ es) = documents_apart (with_entry s e) ms es

change_apart : (s mid end : State) (l : Logged) (ls : List Logged) → is_noted l.kind ≡ false → Takes s l.entry × (mid ≡ with_entry s l.entry) → Apart mid ls end → Apart s (l ∷ ls) end
change_apart s mid end l ls is takes rest =
    let entries : entries_in_frames (l ∷ ls) ≡ l.entry ∷ entries_in_frames ls = ap (λ b. if b then entries_in_frames ls else l.entry ∷ entries_in_frames ls) is in
    let notes : notes_in_frames (l ∷ ls) ≡ notes_in_frames ls = ap (λ b. if b then l.entry ∷ notes_in_frames ls else notes_in_frames ls) is in
    let here = subst (λ (x : State). Apart x ls end) takes.1 rest in
    record {
      notes = here.notes;
      notes_are = notes ∙ here.notes_are;
      taken = subst (AreTaken s) (sym entries) (takes.0, here.taken);
      documents_are = ap (λ (es : List Entry). (with_all s es).documents) entries ∙ here.documents_are;
      noted = here.noted;
      marks_are = here.marks_are;
    }

note_apart : (s mid end : State) (l : Logged) (ls : List Logged) → is_noted l.kind ≡ true → TakesAs Noted l.entry s mid → Apart mid ls end → Apart s (l ∷ ls) end
note_apart s mid end l ls is takes rest =
    let m = takes.0 in
    let entries : entries_in_frames (l ∷ ls) ≡ entries_in_frames ls = ap (λ b. if b then entries_in_frames ls else l.entry ∷ entries_in_frames ls) is in
    let notes : notes_in_frames (l ∷ ls) ≡ l.entry ∷ notes_in_frames ls = ap (λ b. if b then l.entry ∷ notes_in_frames ls else notes_in_frames ls) is in
    let here = subst (λ (x : State). Apart x ls end) takes.3 rest in
    let es = entries_in_frames ls in
    record {
      notes = m ∷ here.notes;
      notes_are = notes ∙ ap (λ (e : Entry). e ∷ notes_in_frames ls) (sym takes.1) ∙ ap (λ (es : List Entry). noted_entry m ∷ es) here.notes_are;
      taken = subst (AreTaken s) (sym entries) (marks_apart (with_note m s) s.marks es here.taken);
      documents_are = ap (λ (l : List Entry). (with_all s l).documents) entries ∙ documents_apart (with_note m s) s.marks es ∙ here.documents_are;
      noted = (takes.2, here.noted);
      marks_are = here.marks_are;
    }

apart : (s end : State) (ls : List Logged) → TakesFrames s ls end → Apart s ls end
apart s end [] are = record { notes = []; notes_are = refl; taken = tt; documents_are = ap (λ (x : State). x.documents) are; noted = tt; marks_are = ap (λ (x : State). x.marks) are }
apart s end (l ∷ ls) are = by l.kind refl are.1 (apart are.0 end ls are.2)
  where
    by : (k : Kind) → l.kind ≡ k → TakesAs k l.entry s are.0 → Apart are.0 ls end → Apart s (l ∷ ls) end
    by Last is takes rest = change_apart s are.0 end l ls (ap is_noted is) takes rest
    by More is takes rest = change_apart s are.0 end l ls (ap is_noted is) takes rest
    by Kept is takes rest = change_apart s are.0 end l ls (ap is_noted is) takes rest
    by Noted is takes rest = note_apart s are.0 end l ls (ap is_noted is) takes rest

-- and together again: a state that takes the entries and the notes takes the frames
abbrev Joins : List Logged → Type 0
Joins ls = (s : State) (notes : List Mark) → AreTaken s (entries_in_frames ls) → notes_in_frames ls ≡ map noted_entry notes → AreNoted s.profile s.seq notes → (end : State) × TakesFrames s ls end

change_joins : (l : Logged) (ls : List Logged) → is_noted l.kind ≡ false → Joins ls → Joins (l ∷ ls)
change_joins l ls is rest s notes taken are noted =
    let all = subst (AreTaken s) (ap (λ b. if b then entries_in_frames ls else l.entry ∷ entries_in_frames ls) is) taken in
    let more = rest (with_entry s l.entry) notes all.1 (sym (ap (λ b. if b then l.entry ∷ notes_in_frames ls else notes_in_frames ls) is) ∙ are) noted in
    (more.0, (with_entry s l.entry, change_taken l.kind l.entry s is all.0, more.1))

note_joins : (l : Logged) (ls : List Logged) → l.kind ≡ Noted → Joins ls → Joins (l ∷ ls)
note_joins l ls is rest s notes taken are noted =
    by notes (sym (ap (λ (k : Kind). if is_noted k then l.entry ∷ notes_in_frames ls else notes_in_frames ls) is) ∙ are) noted
    (subst (AreTaken s) (ap (λ (k : Kind). if is_noted k then entries_in_frames ls else l.entry ∷ entries_in_frames ls) is) taken)
  where
    by : (notes : List Mark) → l.entry ∷ notes_in_frames ls ≡ map noted_entry notes → AreNoted s.profile s.seq notes → AreTaken s (entries_in_frames ls) → (end : State) × TakesFrames s (l ∷ ls) end
    by [] are noted taken = absurd (cc are)
    by (m ∷ notes) are noted taken =
        let first : l.entry ≡ noted_entry m = cc are in
        let others : notes_in_frames ls ≡ map noted_entry notes = cc are in
        let mid = with_note m s in
        let more = rest mid notes (marks_apart s mid.marks (entries_in_frames ls) taken) others noted.1 in
        let takes : TakesAs Noted l.entry s mid = (m, sym first, noted.0, refl) in
        (more.0, (mid, subst (λ (k : Kind). TakesAs k l.entry s mid) (sym is) takes, more.1))

joins_by : (l : Logged) (ls : List Logged) (k : Kind) → l.kind ≡ k → Joins ls → Joins (l ∷ ls)
joins_by l ls Last is rest = change_joins l ls (ap is_noted is) rest
joins_by l ls More is rest = change_joins l ls (ap is_noted is) rest
joins_by l ls Kept is rest = change_joins l ls (ap is_noted is) rest
joins_by l ls Noted is rest = note_joins l ls is rest

joined : (ls : List Logged) → Joins ls
joined [] = λ s notes taken are noted. (s, refl)
joined (l ∷ ls) = joins_by l ls l.kind refl (joined ls)

-- each frame can be read, if the entries and the notes can
one_apart : (l : Logged) (ls : List Logged) → AreRead (l ∷ ls) → AreEntries 2 (entries_in_frames ls) × AreEntries 2 (notes_in_frames ls) → AreEntries 2 (entries_in_frames (l ∷ ls)) × AreEntries 2 (notes_in_frames (l ∷ ls))
one_apart l ls are rest = by (is_noted l.kind)
  where
    by : (b : Bool) → AreEntries 2 (if b then entries_in_frames ls else l.entry ∷ entries_in_frames ls) × AreEntries 2 (if b then l.entry ∷ notes_in_frames ls else notes_in_frames ls)
    by true = (rest.0, (are.0, rest.1))
    by false = ((are.0, rest.0), rest.1)

framed_apart : (ls : List Logged) → AreRead ls → AreEntries 2 (entries_in_frames ls) × AreEntries 2 (notes_in_frames ls)
framed_apart [] are = (tt, tt)
framed_apart (l ∷ ls) are = one_apart l ls are (framed_apart ls are.1)

one_joined : (l : Logged) (ls : List Logged) → (AreEntries 2 (entries_in_frames ls) → AreEntries 2 (notes_in_frames ls) → AreRead ls) → AreEntries 2 (entries_in_frames (l ∷ ls)) → AreEntries 2 (notes_in_frames (l ∷ ls)) → AreRead (l ∷ ls)
one_joined l ls rest es ns = by (is_noted l.kind) es ns
  where
    by : (b : Bool) → AreEntries 2 (if b then entries_in_frames ls else l.entry ∷ entries_in_frames ls) → AreEntries 2 (if b then l.entry ∷ notes_in_frames ls else notes_in_frames ls) → AreRead (l ∷ ls)
    by true es ns = (ns.0, rest es ns.1)
    by false es ns = (es.0, rest es.1 ns)

framed_joined : (ls : List Logged) → AreEntries 2 (entries_in_frames ls) → AreEntries 2 (notes_in_frames ls) → AreRead ls
framed_joined [] es ns = tt
framed_joined (l ∷ ls) es ns = one_joined l ls (framed_joined ls) es ns

-- ---- the end

-- nothing is left, and a log may end there, so the bytes hold the state's documents and marks
pub log_holds : (profile : Profile) (seq : ℕ) (bytes rest : List ℕ) (place : Place) (state : State) → rest ≡ [] → can_end place ≡ true → ReplayedLog profile seq bytes rest place state
    → Holds profile 3 seq bytes state.documents state.marks
log_holds profile seq bytes rest place state none ends replayed =
    let ls = replayed.logged in
    let es = entries_in_frames ls in
    let of = OfLog-complete ls (Complete-end Snapshot place ls replayed.leads ends) in
    let parts = apart (empty_in profile seq) state ls replayed.taken in
    let framed = framed_apart ls replayed.framed in
    let entries_are : entries_of of.log ≡ es = sym (entries-log of.log) ∙ ap entries_in_frames of.logged in
    let notes_are : notes_of of.log ≡ notes_in_frames ls = sym (notes-log of.log) ∙ ap notes_in_frames of.logged in
    record {
      entries = es;
      notes = parts.notes;
      framed = entries_3 es framed.0;
      dated = λ old. absurd (omega (arith, old));
      spelled = spelled_3 es parts.notes bytes of.log
          (record { in_parts = of.in_parts; framed = subst (AreEntries 2) (sym entries_are) framed.0; noted = subst (AreEntries 2) (sym notes_are) framed.1 }) entries_are (notes_are ∙ parts.notes_are)
          (ap frames_as of.logged ∙ sym (append-nil (frames_as ls)) ∙ ap (λ (l : List ℕ). frames_as ls ++ l) (sym none) ∙ replayed.spelled);
      taken = parts.taken;
      documents_are = parts.documents_are;
      noted = parts.noted;
      marks_are = parts.marks_are;
    }

-- ---- damage

-- nothing goes on from the state, so the bytes hold nothing
nothing_holds : (profile : Profile) (seq : ℕ) (bytes rest : List ℕ) (place : Place) (state : State) → ReplayedLog profile seq bytes rest place state
    → ((more : List Logged) → ContinuesLog place state rest more → ⊥) → HoldsNothing profile 3 seq bytes
nothing_holds profile seq bytes rest place state replayed nothing documents marks holds =
    let was = holds.spelled.logged refl in
    let ls = logged_of was.log in
    let entries_are : entries_in_frames ls ≡ holds.entries = entries-log was.log ∙ was.entries_are in
    let notes_are : notes_in_frames ls ≡ map noted_entry holds.notes = notes-log was.log ∙ was.notes_are in
    let all = joined ls (empty_in profile seq) holds.notes (subst (AreTaken (empty_in profile seq)) (sym entries_are) holds.taken) notes_are holds.noted in
    let more = replayed.only ls (record {
      framed = framed_joined ls (subst (AreEntries 2) (sym (entries-log was.log)) was.is_log.framed) (subst (AreEntries 2) (sym (notes-log was.log)) was.is_log.noted);
      spelled = was.bytes_are;
      complete = log_completes was.log was.is_log.in_parts;
      end = all.0;
      taken = all.1;
    }) in
    nothing more.0 more.1

-- what stands first may not come there, or isn't taken
pub log_damaged : (profile : Profile) (seq : ℕ) (bytes rest : List ℕ) (place : Place) (state : State) → ReplayedLog profile seq bytes rest place state → rest ≢ [] → TakesNoneLogged rest place state
    → HoldsNothing profile 3 seq bytes
log_damaged profile seq bytes rest place state replayed nonempty none = nothing_holds profile seq bytes rest place state replayed by
  where
    by : (more : List Logged) → ContinuesLog place state rest more → ⊥
    by [] goes = nonempty (sym goes.spelled)
    by (m ∷ more) goes = none m (length (frame_as m)) goes.complete.0 (first_of rest m more goes.framed.0 goes.spelled) goes.complete.1 goes.taken.0 goes.taken.1

-- nothing is left, and no log may end there
pub log_unended : (profile : Profile) (seq : ℕ) (bytes rest : List ℕ) (place : Place) (state : State) → ReplayedLog profile seq bytes rest place state → rest ≡ [] → can_end place ≡ false
    → HoldsNothing profile 3 seq bytes
log_unended profile seq bytes rest place state replayed none within = nothing_holds profile seq bytes rest place state replayed by
  where
    by : (more : List Logged) → ContinuesLog place state rest more → ⊥
    by [] goes = absurd (cc (sym within ∙ goes.complete))
    by (m ∷ more) goes = none_empty m (frames_as more) (goes.spelled ∙ none)

-- of one frame that stands there
module _ (bytes : List ℕ) (place : Place) (state : State) (l : Logged) (n : ℕ) (reads : ReadsOnly bytes l n) where
  -- it isn't taken
  pub not_taken : RefusesAs l.kind l.entry state → TakesNoneLogged bytes place state
  not_taken refused m k next begins comes new takes = refused new (subst (λ (x : Logged). TakesAs x.kind x.entry state new) (sym (reads m k begins).0) takes)

  -- it may not come there
  pub not_there : place_after place l.kind ≡ None → TakesNoneLogged bytes place state
  not_there none m k next begins comes new takes = absurd (cc (sym none ∙ ap (λ (x : Logged). place_after place x.kind) (reads m k begins).0 ∙ comes))

-- ---- what stands first

-- the bytes begin with one frame alone
pub only_logged : (bytes : List ℕ) (l : Logged) (n : ℕ) → BeginsAs bytes l n → ReadsOnly bytes l n
only_logged bytes l n begins m k other = one_frame bytes l m n k begins other

-- a patch that was read, and is taken or not
module _ (bytes : List ℕ) (place next : Place) (state : State) (kind : Kind) (frame : PatchFrame) (changes : Patch) (is : IsPatchAs bytes kind frame changes) where
  abbrev pub l : Logged
  l = logged kind (entry frame.seq (patch frame.name.now is.ops None))

  pub patch_there : (new : State) (n : ℕ) → place_after place kind ≡ Some next → Takes state l.entry → new ≡ with_entry state l.entry → n ≡ frame.len → TakesLogged bytes place state next new n
  patch_there new n comes takes new_is len =
      let begins : BeginsAs bytes l n = subst (BeginsAs bytes l) (sym len) is.begins in
      record {
        first = l;
        begins = begins;
        only = only_logged bytes l n begins;
        comes = comes;
        takes = subst (TakesAs kind l.entry state) (sym new_is) (change_taken kind l.entry state is.changes_documents takes);
      }

  pub patch_refused : (Takes state l.entry → ⊥) → TakesNoneLogged bytes place state
  patch_refused refused = not_taken bytes place state l frame.len (only_logged bytes l frame.len is.begins) (change_refused kind l.entry state is.changes_documents refused)

  pub patch_not_there : place_after place kind ≡ None → TakesNoneLogged bytes place state
  patch_not_there none = not_there bytes place state l frame.len (only_logged bytes l frame.len is.begins) none
