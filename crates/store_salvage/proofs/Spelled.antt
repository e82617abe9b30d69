-- The lines of documents, one after another.
use Rattle.std.proofs.Common.{◌≡◌, ℕ, ◌+◌, List, [], ◌∷◌, ◌++◌, Option, Some, refl, sym, ap, ◌∙◌, subst, drop, drop-cons, add-one, zero, suc, slice_get}
use Rattle.std.proofs.lemmas.List.{append_assoc}
use Rattle.std.proofs.lemmas.Option.{get_or_from_slice_get, slice_get_within}
use Rattle.std.specs.List.{AllByRecursion}
use Rattle.record_text.specs.Frame.{Entry, body_of, frame_of}
use Rattle.doc_changes.specs.State.{Document, IsStorable}
use Rattle.store_salvage.specs.Lines.{line_of_document, lines_of_documents}

-- a frame without its head is the body
pub headless : (e : Entry) → drop 12 (frame_of e) ≡ body_of e.change
headless e = refl

-- the documents from a place on: the one that stands there, and those behind it
from_place : (ds : List Document) (i : ℕ) (d : Document) → slice_get ds i ≡ Some d → drop i ds ≡ d ∷ drop (i + 1) ds
from_place ds i d is = rw add-one (drop-cons ds i d (slice_get_within ds i d is) ∙ ap (λ m. m ∷ drop (suc i) ds) (get_or_from_slice_get ds i d d is))

-- the line of one behind those before it
pub line_goes : (ds : List Document) (i : ℕ) (d : Document) (text longer : List ℕ) → slice_get ds i ≡ Some d → longer ≡ text ++ line_of_document d
    → longer ++ lines_of_documents (drop (i + 1) ds) ≡ text ++ lines_of_documents (drop i ds)
line_goes ds i d text longer is grown =
    ap (λ l. l ++ lines_of_documents (drop (i + 1) ds)) grown
    ∙ append_assoc text (line_of_document d) (lines_of_documents (drop (i + 1) ds))
    ∙ ap (λ l. text ++ lines_of_documents l) (sym (from_place ds i d is))

-- what holds of all holds of the one at a place
pub storable_at : (ds : List Document) (i : ℕ) (d : Document) → AllByRecursion IsStorable ds → slice_get ds i ≡ Some d → IsStorable d
storable_at [] i d all is = absurd cc
storable_at (x ∷ ds) zero d all is = let same : x ≡ d = cc in subst IsStorable same all.0
storable_at (x ∷ ds) (suc i) d all is = storable_at ds i d all.1 is
