use Rattle.std.proofs.Common.{◌≡◌, ◌+◌, ◌-◌, ◌<◌, sym, ◌∙◌, ap, subst, map, ℕ, List, [], ◌∷◌, ◌++◌, None, length, length-append, arith, if◌then◌else◌, is_ok, string_bytes}
use Rattle.doc_patch.specs.Meaning.{operations}
use Rattle.record_text.specs.Change.{Change, patch}
use Rattle.doc_changes.specs.declared.limits.TheConstants.{LAST_SEQ}
use Rattle.doc_changes.specs.Judged.{IsJudged, RefusesIn}
use Rattle.doc_changes.specs.State.{State, Document, Good, IsStorable}
use Rattle.doc_changes.specs.Step.{IsOwn, Refuses, after, refusal_of}
use Rattle.doc_machine.specs.Spelled.{change_in}
use Rattle.doc_machine.specs.Trial.{TrialView}
use Rattle.doc_changes.specs.Undo.{IsMade}
use Rattle.doc_machine.specs.Tried.{tried, before, past_of, CanGoBackAll}
use Rattle.doc_changes.specs.StateView.{document_of}
use Rattle.doc_changes.specs.MarkView.{AreSet, all_before}
use Rattle.doc_changes.specs.declared.marks.Unset.{Unset}
use Rattle.doc_changes.specs.declared.refusal.Refusal.{Refusal}
use Rattle.doc_machine.specs.declared.machine.trial.Tried.{Tried}
use Rattle.doc_changes.proofs.After.{good_after}
use Rattle.doc_changes.proofs.Judgements.{err_same}
use Rattle.doc_changes.proofs.Known.{own_alone}
use Rattle.doc_changes.proofs.Made.{judged_below, refuses_in}
use Rattle.doc_machine.proofs.Pasts.{back_push, past_of-push}
use Rattle.doc_machine.proofs.SpelledTexts.{named_patch}
use Rattle.doc_machine.proofs.machine.trial.Trial.patch.Goals as goal

pub returns-in_err-undo-clause-refused : goal.returns-in_err-undo-clause-refused
returns-in_err-undo-clause-refused c =
    let s = c.patch.invariant in
    let profile = c.self.inside.profile in
    let found = map document_of c.reserve.new.self.entries in
    let e = c.in_err-undo.field-0.0 in
    let is : patch (string_bytes c.patch.inside.name) s.spells.ops None ≡ change_in c.args.patch =
    named_patch c.patch.inside.text.items (string_bytes c.patch.inside.name) (operations c.patch.inside.changes) s ∙ ap change_in c.patch.view_is in
    let refuses = subst (λ (ch : Change). RefusesIn profile found ch e) is (c.in_err-undo.ensures.refused profile s.spells.ops s.read) in
    let there = subst (λ (ds : List Document). RefusesIn profile ds (change_in c.args.patch) e) (ap (map document_of) c.in_ok-reserve.ensures.entries) refuses in
    err_same c.from_residual-in_err-undo.result e (Refuses c.args.self.now.state (change_in c.args.patch))
    (subst (λ (v : TrialView). Refuses v.state (change_in c.args.patch) e) c.self.view_is (refuses_in (tried c.self.inside) (change_in c.args.patch) e there)) c.from_residual-in_err-undo.ensures.1

pub returns-in_err-undo-clause-own : goal.returns-in_err-undo-clause-own
returns-in_err-undo-clause-own c =
    let s = c.patch.invariant in
    err_same c.from_residual-in_err-undo.result c.in_err-undo.field-0.0 IsOwn
    (own_alone c.self.inside.profile (map document_of c.reserve.new.self.entries) (patch (string_bytes c.patch.inside.name) s.spells.ops None) c.in_err-undo.field-0.0
    (c.in_err-undo.ensures.refused c.self.inside.profile s.spells.ops s.read)) c.from_residual-in_err-undo.ensures.1

made : (c : goal.After-drop-patch-inside-2) → IsMade c.self.inside.profile (map document_of c.self.inside.documents.entries) (change_in c.args.patch) (c.self.inside.seq + 1) c.in_ok-undo.undo (map document_of c.patch_read.new.documents.entries)
made c =
    let s = c.patch.invariant in
    let ch = patch (string_bytes c.patch.inside.name) s.spells.ops None in
    let is : ch ≡ change_in c.args.patch = named_patch c.patch.inside.text.items (string_bytes c.patch.inside.name) (operations c.patch.inside.changes) s ∙ ap change_in c.patch.view_is in
    subst (λ (d : Change). IsMade c.self.inside.profile (map document_of c.self.inside.documents.entries) d (c.self.inside.seq + 1) c.in_ok-undo.undo (map document_of c.patch_read.new.documents.entries)) is
    (subst (λ es. IsMade c.self.inside.profile (map document_of es) ch (c.self.inside.seq + 1) c.in_ok-undo.undo (map document_of c.patch_read.new.documents.entries)) c.in_ok-reserve.ensures.entries
    (c.in_ok-undo.ensures.made c.self.inside.profile s.spells.ops s.read s.sound))

judged : (c : goal.After-drop-patch-inside-2) → IsJudged (tried c.self.inside) (change_in c.args.patch) (made c).judged
judged c =
    let low = subst (λ (v : TrialView). v.state.seq < LAST_SEQ) (sym c.self.view_is) c.requires.counted in
    judged_below (tried c.self.inside) (change_in c.args.patch) (made c).judged (c.accepted_changes_are_framed.ensures (tried c.self.inside) (change_in c.args.patch)) (made c).is_judged low

abbrev now : (c : goal.After-drop-patch-inside-2) → State
now c = record { documents = map document_of c.patch_read.new.documents.entries; marks = c.self.inside.marks; seq = c.self.inside.seq + 1; profile = c.self.inside.profile }

-- no mark was set after it yet
abbrev one : (c : goal.After-drop-patch-inside-2) → Tried
one c = record { change = c.in_ok-undo.undo; marks = c.new.result }

now_is : (c : goal.After-drop-patch-inside-2) → now c ≡ after (tried c.self.inside) (change_in c.args.patch)
now_is c = ap (λ (ds : List Document). record { documents = ds; marks = c.self.inside.marks; seq = c.self.inside.seq + 1; profile = c.self.inside.profile }) (made c).after

before_is : (c : goal.After-drop-patch-inside-2) → before (one c) (now c) ≡ tried c.self.inside
before_is c =
    let seq : c.self.inside.seq + 1 - 1 ≡ c.self.inside.seq = omega arith in
    λ i. record { documents = (made c).undo.back i; marks = all_before (c.new.ensures.items i) c.self.inside.marks; seq = seq i; profile = c.self.inside.profile }

log_is : (c : goal.After-drop-patch-inside-2) → c.push.new.self.items ≡ c.self.inside.log.items ++ one c ∷ []
log_is c =
    c.push.ensures.items ∙ ap (λ r. if is_ok r then c.reserve-2.new.self.items ++ one c ∷ [] else c.reserve-2.new.self.items) c.unwrap.ensures
    ∙ ap (λ (l : List Tried). l ++ one c ∷ []) c.in_ok-reserve-2.ensures.items

good_now : (c : goal.After-drop-patch-inside-2) → Good (now c)
good_now c = subst Good (sym (now_is c)) (good_after (tried c.self.inside) (change_in c.args.patch) (made c).judged c.self.invariant.good (judged c))

pub invariant_of-self-2 : goal.invariant_of-self-2
invariant_of-self-2 c =
    let log = c.self.inside.log.items in
    let undo = one c in
    let size = ap length (log_is c) in
    record {
      good = good_now c;
      back = subst (λ (l : List Tried). CanGoBackAll l (now c)) (sym (log_is c)) (back_push log undo (now c)
          (subst (CanGoBackAll log) (sym (before_is c)) c.self.invariant.back)
          (record { there = (made c).undo.there; set = subst (λ (us : List Unset). AreSet us c.self.inside.marks) (sym c.new.ensures.items) tt; counted = omega arith; good = subst Good (sym (before_is c)) c.self.invariant.good }));
      room = omega (arith, size, length-append log (undo ∷ []), c.in_ok-reserve.ensures.ok, c.len.ensures, c.patch_read.ensures.spare);
    }

pub returns-clause-accepted : goal.returns-clause-accepted
returns-clause-accepted c = subst (λ (v : TrialView). refusal_of v.state (change_in c.args.patch) ≡ None) c.self.view_is (judged c).accepted

pub returns-clause-made : goal.returns-clause-made
returns-clause-made c =
    let old = c.self.view_is in
    let j = judged c in
    record {
      state = now_is c ∙ ap (λ (v : TrialView). after v.state (change_in c.args.patch)) old;
      past = ap (λ (l : List Tried). past_of l (now c)) (log_is c) ∙ past_of-push c.self.inside.log.items (one c) (now c)
          ∙ ap (λ (s : State). past_of c.self.inside.log.items s ++ s ∷ []) (before_is c) ∙ ap (λ (v : TrialView). v.past ++ v.state ∷ []) old;
      framed = (j.framed, tt);
      good = (subst (λ (v : TrialView). Good v.state) old c.self.invariant.good, subst Good (now_is c ∙ ap (λ (v : TrialView). after v.state (change_in c.args.patch)) old) (good_now c));
    }

pub returns-clause-good : goal.returns-clause-good
returns-clause-good c = good_now c
