-- The snapshot of a good state makes its documents again, with their revisions, and its marks.
use Rattle.std.proofs.Common.{◌≡◌, ℕ, ◌+◌, ◌<◌, ◌≤◌, ◌^◌, Bool, true, false, cond, not, List, [], ◌∷◌, ◌++◌, Option, None, Some, is_some, refl, sym, ap, ◌∙◌, subst, length, length-append, arith, bytes_eq, drop, drop-cons, add-one, zero, suc, slice_get, map, get_or, option_map}
use Rattle.std.proofs.lemmas.Bool.{lt-leb, le-ltb}
use Rattle.std.proofs.lemmas.List.{append_assoc, append-nil}
use Rattle.std.proofs.lemmas.Option.{get_or_from_slice_get, slice_get-map, slice_get_read, slice_get_within}
use Rattle.std.specs.Cmp.Lexicographic.{nat_list_eq_equiv}
use Rattle.std.specs.List.{AllByRecursion}
use Rattle.record_text.specs.Frame.{AreEntries, IsFramed, body_of, frame_of, frames_in}
use Rattle.log_frames.specs.Kinds.{frame_as, frames_as, logged}
use Rattle.log_frames.specs.declared.kind.Kind.TheVariants.{Kept, Noted}
use Rattle.doc_changes.specs.Refusals.{first, refused_if}
use Rattle.schema_rules.specs.declared.profile.Profile.{Profile}
use Rattle.doc_changes.specs.Marks.{IsMark, Mark}
use Rattle.doc_changes.specs.State.{Document, State, Good, IsStorable, AreDistinct, AreOffered, AreRevised, find, empty_in, most_documents}
use Rattle.doc_machine.specs.Entries.{AreTaken, with_all, with_entry}
use Rattle.doc_changes.specs.Step.{refusals_in}
use Rattle.doc_changes.specs.declared.refusal.Refusal.{Refusal}
use Rattle.doc_changes.proofs.Schemas.{refused_not, valid_as_judged}
use Rattle.store_commits.specs.Snapshot.{creation_of, document_bytes, mark_bytes, snapshot_frame, snapshot_of, snapshot_bytes, RemakesAll}
use Rattle.store_commits.specs.Notes.{noted_entry}
use Rattle.store_commits.proofs.Notes.{are_noted, marks_again, notes_framed}

-- ---- names that differ

none_at : (b : Bool) (d : Document) (o : Option Document) → cond b (Some d) o ≡ None → (b ≡ false) × (o ≡ None)
none_at true d o h = absurd (cc)
none_at false d o h = (refl, h)

other_name : (d x : Document) (xs rest : List Document) → find x.name (xs ++ d ∷ rest) ≡ None → bytes_eq x.name d.name ≡ false
other_name d x [] rest h = (none_at (bytes_eq x.name d.name) d (find x.name rest) h).0
other_name d x (y ∷ ys) rest h = other_name d x ys rest (none_at (bytes_eq x.name y.name) y (find x.name (ys ++ d ∷ rest)) h).1

-- the documents before one don't have its name
is_new : (d : Document) (front rest : List Document) → AreDistinct (front ++ d ∷ rest) → find d.name front ≡ None
is_new d [] rest h = refl
is_new d (x ∷ front) rest h =
    ap (λ b. cond b (Some x) (find d.name front)) (nat_list_eq_equiv.symm d.name x.name ∙ other_name d x front rest h.0) ∙ is_new d front rest h.1

-- ---- one creation

none_first : (rs : List (Option Refusal)) → AllByRecursion (λ r. r ≡ None) rs → first rs ≡ None
none_first [] h = refl
none_first (None ∷ rs) h = none_first rs h.1
none_first (Some r ∷ rs) h = absurd (cc)

if_not : (b : Bool) (n : ℕ) → b ≡ false → refused_if b n ≡ None
if_not b n h = ap (λ (c : Bool). refused_if c n) h

if_true : (b : Bool) (n : ℕ) → b ≡ true → refused_if (not b) n ≡ None
if_true b n h = ap (λ (c : Bool). refused_if (not c) n) h

-- a storable document is created where its name is new and there is room
creates : (profile : Profile) (ds : List Document) (d : Document) → IsStorable d → AreOffered profile (d ∷ []) → find d.name ds ≡ None → length ds < most_documents profile → first (refusals_in profile ds (creation_of d).change) ≡ None
creates profile ds d storable offered new few =
    none_first (refusals_in profile ds (creation_of d).change) (
      if_true _ _ storable.named,
      (
        if_not _ _ (ap is_some new),
        (
          if_not _ _ (lt-leb (most_documents profile) (length ds) few),
          (
            refused_not profile d.schema offered.0,
            (
              if_not _ _ (le-ltb _ _ storable.doc_height),
              (
                if_not _ _ (le-ltb _ _ storable.doc_text),
                (if_true _ _ (valid_as_judged d.schema d.doc true storable.valid), tt),
              ),
            ),
          ),
        ),
      ),
    )

-- ---- all of them, behind those that stand already

-- so many documents of a good state's, in front of the rest
pub record CanGoOn (s : State) (rest : List Document) : Type 0 where
  pub distinct : AreDistinct (s.documents ++ rest)
  pub storable : AllByRecursion IsStorable rest
  pub offered : AreOffered s.profile rest
  pub few : length s.documents + length rest ≤ most_documents s.profile
  pub revised : AreRevised s.seq rest

goes_on : (s : State) (d : Document) (rest : List Document) → CanGoOn s (d ∷ rest) → CanGoOn (with_entry s (creation_of d)) rest
goes_on s d rest can = record {
  distinct = subst AreDistinct (sym (append_assoc s.documents (d ∷ []) rest)) can.distinct;
  storable = can.storable.1;
  offered = can.offered.1;
  few = (let few = can.few in omega (arith, few, length-append s.documents (d ∷ [])));
  revised = can.revised.1;
}

all_taken : (s : State) (rest : List Document) → CanGoOn s rest → AreTaken s (snapshot_of rest)
all_taken s [] can = tt
all_taken s (d ∷ rest) can =
    let few = can.few in (
      record { not_ahead = can.revised.0; accepted = creates s.profile s.documents d can.storable.0 (can.offered.0, tt) (is_new d s.documents rest can.distinct) (omega (arith, few)) },
      all_taken (with_entry s (creation_of d)) rest (goes_on s d rest can),
    )

all_remade : (s : State) (rest : List Document) → (with_all s (snapshot_of rest)).documents ≡ s.documents ++ rest
all_remade s [] = sym (append-nil s.documents)
all_remade s (d ∷ rest) = all_remade (with_entry s (creation_of d)) rest ∙ append_assoc s.documents (d ∷ []) rest

all_entries : ((d : Document) → IsStorable d → IsFramed (creation_of d).change) → (seq : ℕ) → seq < 2 ^ 64 → (ds : List Document) → AllByRecursion IsStorable ds → AreRevised seq ds → AreEntries 2 (snapshot_of ds)
all_entries law seq fits [] are revised = tt
all_entries law seq fits (d ∷ ds) are revised =
    let low = revised.0 in
    (record { framed = law d are.0; seq_fits = omega (arith, low, fits); asks_none = λ is. absurd (omega (arith, is)) }, all_entries law seq fits ds are.1 revised.1)

pub remakes_all : ((d : Document) → IsStorable d → IsFramed (creation_of d).change) → (s : State) → Good s → RemakesAll s
remakes_all law s good =
    let few = good.few in
    let counted = good.counted in
    record {
      framed = all_entries law s.seq (omega (arith, counted)) s.documents good.storable good.revised;
      taken = all_taken (empty_in s.profile s.seq) s.documents (record { distinct = good.distinct; storable = good.storable; offered = good.offered; few = omega (arith, few); revised = good.revised });
      documents_are = all_remade (empty_in s.profile s.seq) s.documents;
      notes_framed = notes_framed s.seq (omega (arith, counted)) s.marks good.marked.each good.numbered;
      noted = are_noted s.profile s.seq s.marks good.marked good.numbered;
      marks_are = marks_again s.profile s.marks good.marked;
    }

-- ---- the bytes, document by document

-- in format 2 they are the frames of the entries, in format 3 those of a log's snapshot
documents_2 : (ds : List Document) → document_bytes false ds ≡ frames_in 2 (snapshot_of ds)
documents_2 [] = refl
documents_2 (d ∷ ds) = ap (λ l. frame_of (creation_of d) ++ l) (documents_2 ds)

documents_3 : (ds : List Document) → document_bytes true ds ≡ frames_as (map (logged Kept) (snapshot_of ds))
documents_3 [] = refl
documents_3 (d ∷ ds) = ap (λ l. frame_as (logged Kept (creation_of d)) ++ l) (documents_3 ds)

marks_3 : (ms : List Mark) → mark_bytes true ms ≡ frames_as (map (logged Noted) (map noted_entry ms))
marks_3 [] = refl
marks_3 (m ∷ ms) = ap (λ l. frame_as (logged Noted (noted_entry m)) ++ l) (marks_3 ms)

pub snapshot_2 : (ds : List Document) (ms : List Mark) → snapshot_bytes false ds ms ≡ frames_in 2 (snapshot_of ds)
snapshot_2 ds ms = documents_2 ds

pub snapshot_3 : (ds : List Document) (ms : List Mark) → snapshot_bytes true ds ms ≡ frames_as (map (logged Noted) (map noted_entry ms)) ++ frames_as (map (logged Kept) (snapshot_of ds))
snapshot_3 ds ms = λ i. marks_3 ms i ++ documents_3 ds i

-- in each those of the documents are as long
pub sizes_same : (rides other : Bool) (ds : List Document) → length (document_bytes rides ds) ≡ length (document_bytes other ds)
sizes_same rides other [] = refl
sizes_same rides other (d ∷ ds) =
    let one = frames_same rides other d in
    let rest = sizes_same rides other ds in
    omega (arith, one, rest, length-append (snapshot_frame rides d) (document_bytes rides ds), length-append (snapshot_frame other d) (document_bytes other ds))
  where
    frame_size : (r : Bool) (d : Document) → length (snapshot_frame r d) ≡ 12 + length (body_of (creation_of d).change)
    frame_size false d = omega arith
    frame_size true d = omega arith

    frames_same : (r o : Bool) (d : Document) → length (snapshot_frame r d) ≡ length (snapshot_frame o d)
    frames_same r o d = frame_size r d ∙ sym (frame_size o d)

-- what stands from a place on: the one that stands there, and those behind it
from_place : {A : Type 0} (xs : List A) (i : ℕ) (x : A) → slice_get xs i ≡ Some x → drop i xs ≡ x ∷ drop (i + 1) xs
from_place {A} xs i x is = rw add-one (drop-cons xs i x (slice_get_within xs i x is) ∙ ap (λ (y : A). y ∷ drop (suc i) xs) (get_or_from_slice_get xs i x x is))

-- the frame of one behind those before it
pub frame_goes : (rides : Bool) (ds : List Document) (i : ℕ) (d : Document) (bytes longer : List ℕ) → slice_get ds i ≡ Some d → longer ≡ bytes ++ snapshot_frame rides d
    → longer ++ document_bytes rides (drop (i + 1) ds) ≡ bytes ++ document_bytes rides (drop i ds)
frame_goes rides ds i d bytes longer is grown =
    ap (λ l. l ++ document_bytes rides (drop (i + 1) ds)) grown
    ∙ append_assoc bytes (snapshot_frame rides d) (document_bytes rides (drop (i + 1) ds))
    ∙ ap (λ l. bytes ++ document_bytes rides l) (sym (from_place ds i d is))

-- what holds of all holds of the one at a place
pub storable_at : (ds : List Document) (i : ℕ) (d : Document) → AllByRecursion IsStorable ds → slice_get ds i ≡ Some d → IsStorable d
storable_at [] i d all is = absurd cc
storable_at (x ∷ ds) zero d all is = let same : x ≡ d = cc in subst IsStorable same all.0
storable_at (x ∷ ds) (suc i) d all is = storable_at ds i d all.1 is

-- the frame of a mark behind those of the marks before it
pub mark_goes : (ms : List Mark) (i : ℕ) (m : Mark) (bytes longer : List ℕ) → slice_get ms i ≡ Some m → longer ≡ bytes ++ frame_as (logged Noted (noted_entry m))
    → longer ++ mark_bytes true (drop (i + 1) ms) ≡ bytes ++ mark_bytes true (drop i ms)
mark_goes ms i m bytes longer is grown =
    ap (λ l. l ++ mark_bytes true (drop (i + 1) ms)) grown
    ∙ append_assoc bytes (frame_as (logged Noted (noted_entry m))) (mark_bytes true (drop (i + 1) ms))
    ∙ ap (λ l. bytes ++ mark_bytes true l) (sym (from_place ms i m is))

pub mark_at : (ms : List Mark) (i : ℕ) (m : Mark) → AllByRecursion IsMark ms → slice_get ms i ≡ Some m → IsMark m
mark_at [] i m all is = absurd cc
mark_at (x ∷ ms) zero m all is = let same : x ≡ m = cc is in subst IsMark same all.0
mark_at (x ∷ ms) (suc i) m all is = mark_at ms i m all.1 is

-- what stands at a place, seen through a view
pub mapped_at : {A B : Type 0} (f : A → B) (xs : List A) (i : ℕ) (x : A) → i < length xs → x ≡ get_or xs i x → slice_get (map f xs) i ≡ Some (f x)
mapped_at {A} {B} f xs i x within is = slice_get-map f xs i ∙ ap (option_map f) (slice_get_read xs (length xs) i x refl within is)
