-- Judgements: what was found reason by reason, put together.
use Rattle.std.proofs.Common.{◌≡◌, inr, None, Some, Result, Ok, Err, sym, ◌∙◌, subst}
use Rattle.record_text.specs.Change.{Change}
use Rattle.record_text.specs.Frame.{IsFramed}
use Rattle.doc_changes.specs.Judged.{IsJudged, IsJudgedIn, IsSoundChange}
use Rattle.doc_changes.specs.State.{State}
use Rattle.doc_changes.specs.Step.{refusals_in, refusal_of, seq_refusal, Refuses}
use Rattle.std.specs.Result.{IsErrAnd, IfErr}
use Rattle.doc_changes.specs.declared.judged.Judged.{Judged}
use Rattle.doc_changes.specs.declared.refusal.Refusal.{Refusal}
use Rattle.doc_changes.proofs.Reasons.{first-none}

-- and seq may rise
pub judged_whole : (s : State) (c : Change) (j : Judged) → (refusal_of s c ≡ None → IsSoundChange c → IsFramed c) → IsJudgedIn s.profile s.documents c j → seq_refusal s.seq ≡ None → IsJudged s c j
judged_whole s c j framed so_far rises =
    let accepted = first-none (refusals_in s.profile s.documents c) (seq_refusal s.seq) so_far.accepted ∙ rises in
    record { accepted = accepted; sound = so_far.sound; framed = framed accepted so_far.sound; made = so_far.made }

-- or can't
pub refused_last : (s : State) (c : Change) (j : Judged) (r : Refusal) → IsJudgedIn s.profile s.documents c j → seq_refusal s.seq ≡ Some r → Refuses s c r
refused_last s c j r so_far h = inr (first-none (refusals_in s.profile s.documents c) (seq_refusal s.seq) so_far.accepted ∙ h)

-- an error that is passed on
pub err_same : {A : Type 0} (r : Result A Refusal) (e : Refusal) (P : Refusal → Type 0) → P e → IsErrAnd r (λ y. y ≡ e) → IfErr r P
err_same (Ok a) e P p is = absurd is
err_same (Err y) e P p is = subst P (sym is) p
