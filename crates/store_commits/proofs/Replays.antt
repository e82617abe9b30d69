-- Bytes replayed from the front, a frame at a time.
use Rattle.std.proofs.Common.{◌≡◌, ◌≢◌, ℕ, ◌<◌, ◌^◌, List, [], ◌∷◌, ◌++◌, length, take, drop, refl, sym, ◌∙◌, ap, subst, arith, None, MatchResult, Result, Ok, Err, IfOk, IfErr, if◌then◌else◌, ◌==◌, true}
use Rattle.std.proofs.lemmas.Bool.{eqb-true, ne_eqb}
use Rattle.std.proofs.lemmas.List.{append_assoc, append-nil, take-append-drop}
use Rattle.std.proofs.Math.Seq.{take-append_seam, drop-append_seam}
use Rattle.half_journal.specs.Layout.{IsFormat}
use Rattle.record_text.specs.Change.{Change, patch}
use Rattle.record_text.specs.Frame.{Entry, entry, IsEntry, BeginsWith, BeginsWith_1, frame_in, frame_of, frame_1_of, frames_in}
use Rattle.doc_machine.specs.Entries.{AreTaken, Takes, with_all, with_entry}
use Rattle.schema_rules.specs.declared.profile.Profile.{Profile}
use Rattle.doc_changes.specs.State.{Good, State, empty_in}
use Rattle.doc_patch.specs.Meaning.{operations}
use Rattle.doc_patch.specs.Reading.{operations_of}
use Rattle.doc_patch.specs.declared.patch.Patch.{Patch}
use Rattle.doc_tree.specs.Doc.{Doc}
use Rattle.doc_tree.specs.Sound.{IsSound}
use Rattle.record_text.specs.declared.lent.PatchFrame.{PatchFrame}
use Rattle.store_commits.specs.declared.replaying.ReplayFault.{ReplayFault}
use Rattle.store_commits.specs.Images.{Holds}
use Rattle.store_commits.specs.Replay.{BeginsIn, Continues, HoldsNothing, IsPatchFrame, ReadsAs, Replayed, TakesFirst, TakesNone}
use Rattle.store_commits.specs.declared.replaying.ReplayFault.TheVariants.{Damaged}
use Rattle.store_commits.proofs.Pushed.{frames_push, entries_push, dated_push, with_push, taken_push}

pub replayed_start : (profile : Profile) (version seq : ℕ) (bytes : List ℕ) (state : State) → state ≡ empty_in profile seq → Replayed profile version seq bytes bytes state
replayed_start profile version seq bytes state is = record {
  entries = [];
  framed = tt;
  dated = λ old. tt;
  spelled = refl;
  taken = tt;
  state_is = sym is;
  only = λ es goes. (es, subst (λ (s : State). Continues version seq s bytes es) (sym is) goes);
}

-- what an entry more leaves
rest_of : (version seq : ℕ) (rest : List ℕ) (e : Entry) (n : ℕ) → BeginsIn version seq rest e n → rest ≡ frame_in version e ++ drop n rest
rest_of version seq rest e n begins = sym (take-append-drop n rest) ∙ ap (λ (front : List ℕ). front ++ drop n rest) begins.frame

-- where frames go on, the bytes begin with the first of them
first_of : (version seq : ℕ) (rest : List ℕ) (e : Entry) (more : List Entry) → IsEntry version e → (version ≡ 1 → e.seq ≡ seq) → frame_in version e ++ frames_in version more ≡ rest
    → BeginsIn version seq rest e (length (frame_in version e))
first_of version seq rest e more framed dated is = record {
  framed = framed;
  dated = dated;
  frame = ap (take (length (frame_in version e))) (sym is) ∙ take-append_seam (frame_in version e) (frames_in version more);
  len = refl;
}

goes_on : (version seq : ℕ) (rest : List ℕ) (state : State) (e : Entry) (n : ℕ) → rest ≢ [] → ReadsAs version seq rest e n → (more : List Entry) → Continues version seq state rest more
    → (others : List Entry) × Continues version seq (with_entry state e) (drop n rest) others
goes_on version seq rest state e n nonempty reads [] goes = absurd (nonempty (sym goes.spelled))
goes_on version seq rest state e n nonempty reads (f ∷ more) goes =
    let same = reads f (length (frame_in version f)) (first_of version seq rest f more goes.framed.0 (λ old. (goes.dated old).0) goes.spelled) in (
      more,
      record {
        framed = goes.framed.1;
        dated = λ old. (goes.dated old).1;
        spelled = sym (drop-append_seam (frame_in version f) (frames_in version more)) ∙ ap (drop (length (frame_in version f))) goes.spelled ∙ ap (λ (k : ℕ). drop k rest) (sym same.1);
        taken = subst (λ (g : Entry). AreTaken (with_entry state g) more) (sym same.0) goes.taken.1;
      },
    )

pub replayed_more : (profile : Profile) (version seq : ℕ) (bytes rest : List ℕ) (state new : State) (e : Entry) (n : ℕ) → Replayed profile version seq bytes rest state → rest ≢ [] → BeginsIn version seq rest e n → ReadsAs version seq rest e n
    → Takes state e → new ≡ with_entry state e → Replayed profile version seq bytes (drop n rest) new
replayed_more profile version seq bytes rest state new e n replayed nonempty begins reads takes is = record {
  entries = replayed.entries ++ e ∷ [];
  framed = entries_push version replayed.entries e replayed.framed begins.framed;
  dated = λ old. dated_push seq replayed.entries e (replayed.dated old) (begins.dated old);
  spelled = ap (λ (l : List ℕ). l ++ drop n rest) (frames_push version replayed.entries e) ∙ append_assoc (frames_in version replayed.entries) (frame_in version e) (drop n rest)
      ∙ ap (λ (l : List ℕ). frames_in version replayed.entries ++ l) (sym (rest_of version seq rest e n begins)) ∙ replayed.spelled;
  taken = taken_push (empty_in profile seq) replayed.entries e replayed.taken (subst (λ (s : State). Takes s e) (sym replayed.state_is) takes);
  state_is = with_push (empty_in profile seq) replayed.entries e ∙ ap (λ (s : State). with_entry s e) replayed.state_is ∙ sym is;
  only = λ es goes. (let more = replayed.only es goes in let others = goes_on version seq rest state e n nonempty reads more.0 more.1 in
      (others.0, subst (λ (s : State). Continues version seq s (drop n rest) others.0) (sym is) others.1));
}

-- the same, by what stands first
pub replayed_first : (profile : Profile) (version seq : ℕ) (bytes rest : List ℕ) (state new : State) (n : ℕ) → Replayed profile version seq bytes rest state → rest ≢ [] → TakesFirst version seq rest state new n
    → Replayed profile version seq bytes (drop n rest) new
replayed_first profile version seq bytes rest state new n replayed nonempty first =
    replayed_more profile version seq bytes rest state new first.first n replayed nonempty first.begins first.only first.takes first.new_is

-- nothing is left if there are no bytes
pub none_left : (l : List ℕ) → (length l == 0) ≡ true → l ≡ []
none_left [] is = refl
none_left (x ∷ l) is = let none = eqb-true (length (x ∷ l)) 0 is in absurd (omega (arith, none))

-- entries leave the marks
marks_stay : (s : State) (es : List Entry) → (with_all s es).marks ≡ s.marks
marks_stay s [] = refl
marks_stay s (e ∷ es) = marks_stay (with_entry s e) es

-- nothing is left, so the bytes hold the state's documents, and no marks
pub replayed_holds : (profile : Profile) (version seq : ℕ) (bytes rest : List ℕ) (state : State) → version ≢ 3 → rest ≡ [] → Replayed profile version seq bytes rest state → Holds profile version seq bytes state.documents state.marks
replayed_holds profile version seq bytes rest state plain none replayed = record {
  entries = replayed.entries;
  notes = [];
  framed = replayed.framed;
  dated = replayed.dated;
  spelled = record {
    framed = λ _. (sym (append-nil (frames_in version replayed.entries)) ∙ ap (λ (l : List ℕ). frames_in version replayed.entries ++ l) (sym none) ∙ replayed.spelled, refl);
    logged = λ three. absurd (plain three);
  };
  taken = replayed.taken;
  documents_are = ap (λ (s : State). s.documents) replayed.state_is;
  noted = tt;
  marks_are = sym (marks_stay (empty_in profile seq) replayed.entries) ∙ ap (λ (s : State). s.marks) replayed.state_is;
}

-- the version is 1 or 2
pub not_a_log : (version : ℕ) → IsFormat version → version ≢ 3
not_a_log version is three = let most = is.at_most in omega (arith, most, three)

-- ---- damage

-- nothing goes on from the state, so the bytes hold nothing
nothing_holds : (profile : Profile) (version seq : ℕ) (bytes rest : List ℕ) (state : State) → version ≢ 3 → Replayed profile version seq bytes rest state → ((more : List Entry) → Continues version seq state rest more → ⊥) → HoldsNothing profile version seq bytes
nothing_holds profile version seq bytes rest state plain replayed nothing documents marks holds =
    let more = replayed.only holds.entries (record { framed = holds.framed; dated = holds.dated; spelled = (holds.spelled.framed plain).0; taken = holds.taken }) in
    nothing more.0 more.1

-- what stands first isn't taken
pub damaged_first : (profile : Profile) (version seq : ℕ) (bytes rest : List ℕ) (state : State) → version ≢ 3 → Replayed profile version seq bytes rest state → rest ≢ [] → TakesNone version seq rest state → HoldsNothing profile version seq bytes
damaged_first profile version seq bytes rest state plain replayed nonempty none = nothing_holds profile version seq bytes rest state plain replayed by
  where
    by : (more : List Entry) → Continues version seq state rest more → ⊥
    by [] goes = nonempty (sym goes.spelled)
    by (f ∷ more) goes = none f (length (frame_in version f)) (first_of version seq rest f more goes.framed.0 (λ old. (goes.dated old).0) goes.spelled) goes.taken.0

-- of one entry that stands there, and isn't taken
pub none_taken : (version seq : ℕ) (bytes : List ℕ) (state : State) (e : Entry) (n : ℕ) → ReadsAs version seq bytes e n → (Takes state e → ⊥) → TakesNone version seq bytes state
none_taken version seq bytes state e n reads refused f m begins takes = refused (subst (Takes state) (sym (reads f m begins).0) takes)

-- ---- what the calls say

-- ---- frames of either format

in_1 : (version : ℕ) (e : Entry) → version ≡ 1 → frame_in version e ≡ frame_1_of e.change
in_1 version e is = ap (λ (v : ℕ). frame_in v e) is

in_2 : (version : ℕ) (e : Entry) → version ≢ 1 → frame_in version e ≡ frame_of e
in_2 version e not = ap (λ b. if b then frame_1_of e.change else frame_of e) (ne_eqb version 1 not)

-- a frame of format 1 is one of an entry that has the journal's seq
pub begins_1 : (version seq : ℕ) (bytes : List ℕ) (c : Change) (n : ℕ) → version ≡ 1 → seq < 2 ^ 64 → BeginsWith_1 bytes c n → BeginsIn version seq bytes (entry seq c) n
begins_1 version seq bytes c n old fits begins = record {
  framed = record { framed = begins.framed; seq_fits = fits; asks_none = λ _. begins.asks_none };
  dated = λ _. refl;
  frame = begins.frame ∙ sym (in_1 version (entry seq c) old);
  len = begins.len ∙ ap length (sym (in_1 version (entry seq c) old));
}

pub begins_2 : (version seq : ℕ) (bytes : List ℕ) (e : Entry) (n : ℕ) → version ≢ 1 → BeginsWith bytes e n → BeginsIn version seq bytes e n
begins_2 version seq bytes e n new begins = record {
  framed = record { framed = begins.framed; seq_fits = begins.seq_fits; asks_none = λ old. absurd (new old) };
  dated = λ old. absurd (new old);
  frame = begins.frame ∙ sym (in_2 version e new);
  len = begins.len ∙ ap length (sym (in_2 version e new));
}

pub only_2 : (version seq : ℕ) (bytes : List ℕ) (e : Entry) (n : ℕ) → version ≢ 1 → BeginsIn version seq bytes e n → BeginsWith bytes e n
only_2 version seq bytes e n new begins = record {
  framed = begins.framed.framed;
  seq_fits = begins.framed.seq_fits;
  frame = begins.frame ∙ in_2 version e new;
  len = begins.len ∙ ap length (in_2 version e new);
}

-- ---- patches that are read quickly

-- frames of format 2 are told apart whatever follows them
abbrev pub FramesDiffer : Type 0
FramesDiffer = (e f : Entry) (x y : List ℕ) → IsEntry 2 e → IsEntry 2 f → frame_of e ++ x ≡ frame_of f ++ y → (e ≡ f) × (x ≡ y)

entry_2 : (bytes : List ℕ) (e : Entry) (n : ℕ) → BeginsWith bytes e n → IsEntry 2 e
entry_2 bytes e n begins = record { framed = begins.framed; seq_fits = begins.seq_fits; asks_none = λ old. absurd (omega (arith, old)) }

-- so the bytes begin with one alone
pub only_frame : (version seq : ℕ) (bytes : List ℕ) (e : Entry) (n : ℕ) → FramesDiffer → version ≢ 1 → BeginsWith bytes e n → ReadsAs version seq bytes e n
only_frame version seq bytes e n differ new begins f m other =
    let theirs = only_2 version seq bytes f m new other in
    let here : bytes ≡ frame_of e ++ drop n bytes = sym (take-append-drop n bytes) ∙ ap (λ (front : List ℕ). front ++ drop n bytes) begins.frame in
    let there : bytes ≡ frame_of f ++ drop m bytes = sym (take-append-drop m bytes) ∙ ap (λ (front : List ℕ). front ++ drop m bytes) theirs.frame in
    let same = differ e f (drop n bytes) (drop m bytes) (entry_2 bytes e n begins) (entry_2 bytes f m theirs) (sym here ∙ there) in
    (same.0, begins.len ∙ ap (λ (g : Entry). length (frame_of g)) same.0 ∙ sym theirs.len)

-- what taking a patch that was read answers
abbrev pub TakesPatch : State → PatchFrame → Patch → Result (State × ℕ) ReplayFault → Type 0
TakesPatch state frame changes r =
    (ops : Doc) → operations_of ops ≡ Ok (operations changes) → IsSound ops →
    MatchResult r (λ p. Takes state (entry frame.seq (patch frame.name.now ops None)) × (p.0 ≡ with_entry state (entry frame.seq (patch frame.name.now ops None))) × (p.1 ≡ frame.len) × Good p.0)
    (λ fault. fault ≡ Damaged → Takes state (entry frame.seq (patch frame.name.now ops None)) → ⊥)

pub patch_taken : (version seq : ℕ) (bytes : List ℕ) (state : State) (frame : PatchFrame) (changes : Patch) (r : Result (State × ℕ) ReplayFault) → FramesDiffer → version ≢ 1
    → IsPatchFrame bytes frame changes → TakesPatch state frame changes r → IfOk r (λ p. TakesFirst version seq bytes state p.0 p.1)
patch_taken version seq bytes state frame changes (Ok p) differ new is takes =
    let e = entry frame.seq (patch frame.name.now is.ops None) in
    let said = takes is.ops is.read is.sound in
    let begins : BeginsWith bytes e p.1 = subst (BeginsWith bytes e) (sym said.2) is.begins in
    record {
      first = e;
      begins = begins_2 version seq bytes e p.1 new begins;
      only = only_frame version seq bytes e p.1 differ new begins;
      takes = said.0;
      new_is = said.1;
    }
patch_taken version seq bytes state frame changes (Err f) differ new is takes = tt

pub patch_damaged : (version seq : ℕ) (bytes : List ℕ) (state : State) (frame : PatchFrame) (changes : Patch) (r : Result (State × ℕ) ReplayFault) → FramesDiffer → version ≢ 1
    → IsPatchFrame bytes frame changes → TakesPatch state frame changes r → IfErr r (λ fault. fault ≡ Damaged → TakesNone version seq bytes state)
patch_damaged version seq bytes state frame changes (Ok p) differ new is takes = tt
patch_damaged version seq bytes state frame changes (Err f) differ new is takes = λ damaged.
    none_taken version seq bytes state (entry frame.seq (patch frame.name.now is.ops None)) frame.len
    (only_frame version seq bytes (entry frame.seq (patch frame.name.now is.ops None)) frame.len differ new is.begins) (takes is.ops is.read is.sound damaged)
