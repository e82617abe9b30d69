-- The bytes that entries and marks are spelled by, in each format.
use Rattle.std.proofs.Common.{◌≡◌, ℕ, List, [], ◌∷◌, map, refl, arith}
use Rattle.record_text.specs.Frame.{Entry, AreEntries, frames_in}
use Rattle.log_frames.specs.Log.{IsLog, Log, entries_of, log_bytes, notes_of}
use Rattle.doc_changes.specs.Marks.{Mark}
use Rattle.store_commits.specs.Images.{AreSpelled}
use Rattle.store_commits.specs.Notes.{noted_entry}

-- format 3 asks of entries what format 2 does
pub entries_2 : (es : List Entry) → AreEntries 3 es → AreEntries 2 es
entries_2 [] are = tt
entries_2 (e ∷ es) are = (record { framed = are.0.framed; seq_fits = are.0.seq_fits; asks_none = λ old. absurd (omega (arith, old)) }, entries_2 es are.1)

pub entries_3 : (es : List Entry) → AreEntries 2 es → AreEntries 3 es
entries_3 [] are = tt
entries_3 (e ∷ es) are = (record { framed = are.0.framed; seq_fits = are.0.seq_fits; asks_none = λ old. absurd (omega (arith, old)) }, entries_3 es are.1)

pub spelled_2 : (es : List Entry) (bytes : List ℕ) → frames_in 2 es ≡ bytes → AreSpelled 2 es [] bytes
spelled_2 es bytes is = record { framed = λ _. (is, refl); logged = λ three. absurd (omega (arith, three)) }

pub of_2 : (es : List Entry) (notes : List Mark) (bytes : List ℕ) → AreSpelled 2 es notes bytes → (frames_in 2 es ≡ bytes) × (notes ≡ [])
of_2 es notes bytes spelled = spelled.framed (λ three. omega (arith, three))

pub spelled_3 : (es : List Entry) (notes : List Mark) (bytes : List ℕ) (log : Log) → IsLog log → entries_of log ≡ es → notes_of log ≡ map noted_entry notes → log_bytes log ≡ bytes → AreSpelled 3 es notes bytes
spelled_3 es notes bytes log is entries_are notes_are bytes_are =
    record { framed = λ not. absurd (not refl); logged = λ _. record { log = log; is_log = is; entries_are = entries_are; notes_are = notes_are; bytes_are = bytes_are } }
