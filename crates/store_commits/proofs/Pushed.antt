-- Entries with one more behind them, and the bytes that hold them.
use Rattle.std.proofs.Common.{◌≡◌, ℕ, ◌≤◌, Bool, true, false, List, [], ◌∷◌, ◌++◌, length, refl, sym, ◌∙◌, ap, arith, if◌then◌else◌, nat_eq}
use Rattle.std.proofs.lemmas.List.{append_assoc, append-nil}
use Rattle.record_text.specs.Frame.{Entry, IsEntry, AreEntries, AreDated, frame_of, frame_1_of, frame_in, frames_in}
use Rattle.doc_machine.specs.Entries.{AreTaken, Takes, with_all, with_entry}
use Rattle.doc_changes.specs.State.{State}

pub frames_push : (version : ℕ) (es : List Entry) (e : Entry) → frames_in version (es ++ e ∷ []) ≡ frames_in version es ++ frame_in version e
frames_push version [] e = append-nil (frame_in version e)
frames_push version (d ∷ es) e =
    ap (λ (l : List ℕ). frame_in version d ++ l) (frames_push version es e) ∙ sym (append_assoc (frame_in version d) (frames_in version es) (frame_in version e))

pub entries_push : (version : ℕ) (es : List Entry) (e : Entry) → AreEntries version es → IsEntry version e → AreEntries version (es ++ e ∷ [])
entries_push version [] e are is = (is, tt)
entries_push version (d ∷ es) e are is = (are.0, entries_push version es e are.1 is)

pub dated_push : (seq : ℕ) (es : List Entry) (e : Entry) → AreDated seq es → e.seq ≡ seq → AreDated seq (es ++ e ∷ [])
dated_push seq [] e are is = (is, tt)
dated_push seq (d ∷ es) e are is = (are.0, dated_push seq es e are.1 is)

pub with_push : (s : State) (es : List Entry) (e : Entry) → with_all s (es ++ e ∷ []) ≡ with_entry (with_all s es) e
with_push s [] e = refl
with_push s (d ∷ es) e = with_push (with_entry s d) es e

pub taken_push : (s : State) (es : List Entry) (e : Entry) → AreTaken s es → Takes (with_all s es) e → AreTaken s (es ++ e ∷ [])
taken_push s [] e are is = (is, tt)
taken_push s (d ∷ es) e are is = (are.0, taken_push (with_entry s d) es e are.1 is)

-- a frame takes bytes
pub frame_long : (version : ℕ) (e : Entry) → 4 ≤ length (frame_in version e)
frame_long version e = by (nat_eq version 1)
  where
    by : (b : Bool) → 4 ≤ length (if b then frame_1_of e.change else frame_of e)
    by true = omega arith
    by false = omega arith
