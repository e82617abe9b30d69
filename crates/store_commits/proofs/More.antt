-- Entries that make documents, with those of accepted changes behind them.
use Rattle.std.proofs.Common.{◌≡◌, ℕ, ◌+◌, ◌≤◌, List, [], ◌∷◌, ◌++◌, None, refl, sym, ◌∙◌, ap, subst, arith}
use Rattle.std.proofs.lemmas.List.{append_assoc, append-nil}
use Rattle.record_text.specs.Change.{Change}
use Rattle.record_text.specs.Frame.{Entry, AreEntries, entry, IsFramed}
use Rattle.doc_machine.specs.Entries.{AreTaken, with_all, with_entry}
use Rattle.doc_machine.specs.Transaction.{AreAccepted, AreFramed, AreGood, after_all}
use Rattle.schema_rules.specs.declared.profile.Profile.{Profile}
use Rattle.doc_changes.specs.Refusals.{first}
use Rattle.doc_changes.specs.State.{Document, State, Good, empty_in}
use Rattle.doc_changes.specs.Step.{after, documents_after, refusal_of, refusals_in}
use Rattle.doc_changes.proofs.Reasons.{accepts, first-left}
use Rattle.store_commits.specs.Folds.{entries_from}
use Rattle.store_commits.proofs.Pushed.{entries_push, with_push, taken_push}

-- entries that, each taken by a journal of that seq, make these documents from none
pub record Makes (profile : Profile) (seq : ℕ) (entries : List Entry) (documents : List Document) : Type 0 where
  pub framed : AreEntries 2 entries
  pub taken : AreTaken (empty_in profile seq) entries
  pub documents_are : (with_all (empty_in profile seq) entries).documents ≡ documents

-- what a journal takes, it takes once its seq is higher
taken_later : (p : Profile) (ds : List Document) (seq later : ℕ) (es : List Entry) → seq ≤ later → AreTaken (record { documents = ds; marks = []; seq = seq; profile = p }) es → AreTaken (record { documents = ds; marks = []; seq = later; profile = p }) es
taken_later p ds seq later [] low are = tt
taken_later p ds seq later (e ∷ es) low are =
    let was = are.0.not_ahead in
    (record { not_ahead = omega (arith, low, was); accepted = are.0.accepted }, taken_later p (documents_after ds e.change e.seq) seq later es low are.1)

-- and makes the same of it
made_later : (p : Profile) (ds : List Document) (seq later : ℕ) (es : List Entry) → (with_all (record { documents = ds; marks = []; seq = seq; profile = p }) es).documents ≡ (with_all (record { documents = ds; marks = []; seq = later; profile = p }) es).documents
made_later p ds seq later [] = refl
made_later p ds seq later (e ∷ es) = made_later p (documents_after ds e.change e.seq) seq later es

profile_stays : (s : State) (es : List Entry) → (with_all s es).profile ≡ s.profile
profile_stays s [] = refl
profile_stays s (e ∷ es) = profile_stays (with_entry s e) es

seq_stays : (s : State) (es : List Entry) → (with_all s es).seq ≡ s.seq
seq_stays s [] = refl
seq_stays s (e ∷ es) = seq_stays (with_entry s e) es

-- one change more
pub makes_more : (s : State) (es : List Entry) (c : Change) → Good s → Makes s.profile s.seq es s.documents → refusal_of s c ≡ None → IsFramed c
    → Makes s.profile (s.seq + 1) (es ++ entry (s.seq + 1) c ∷ []) (after s c).documents
makes_more s es c good makes accepted framed =
    let e = entry (s.seq + 1) c in
    let end = with_all (empty_in s.profile (s.seq + 1)) es in
    let rises = (accepts s c good.counted accepted).rises in
    let profile = profile_stays (empty_in s.profile (s.seq + 1)) es in
    let seq = seq_stays (empty_in s.profile (s.seq + 1)) es in
    let made : end.documents ≡ s.documents = sym (made_later s.profile [] s.seq (s.seq + 1) es) ∙ makes.documents_are in
    record {
      framed = entries_push 2 es e makes.framed (record { framed = framed; seq_fits = omega (arith, rises); asks_none = λ old. absurd (omega (arith, old)) });
      taken = taken_push (empty_in s.profile (s.seq + 1)) es e (taken_later s.profile [] s.seq (s.seq + 1) es (omega arith) makes.taken) (record {
        not_ahead = omega (arith, seq);
        accepted = (λ i. first (refusals_in (profile i) (made i) c)) ∙ first-left (refusals_in s.profile s.documents c) _ accepted;
      });
      documents_are = ap (λ (t : State). t.documents) (with_push (empty_in s.profile (s.seq + 1)) es e) ∙ ap (λ (ds : List Document). documents_after ds c (s.seq + 1)) made;
    }

-- changes more
pub makes_all : (s : State) (es : List Entry) (cs : List Change) → Makes s.profile s.seq es s.documents → AreAccepted s cs → AreFramed cs → AreGood s cs
    → Makes (after_all s cs).profile (after_all s cs).seq (es ++ entries_from s.seq cs) (after_all s cs).documents
makes_all s es [] makes accepted framed good = subst (λ (l : List Entry). Makes s.profile s.seq l s.documents) (sym (append-nil es)) makes
makes_all s es (c ∷ cs) makes accepted framed good =
    subst (λ (l : List Entry). Makes (after_all (after s c) cs).profile (after_all (after s c) cs).seq l (after_all (after s c) cs).documents) (append_assoc es (entry (s.seq + 1) c ∷ []) (entries_from (s.seq + 1) cs))
    (makes_all (after s c) (es ++ entry (s.seq + 1) c ∷ []) cs (makes_more s es c good.0 makes accepted.0 framed.0) accepted.1 framed.1 good.1)
