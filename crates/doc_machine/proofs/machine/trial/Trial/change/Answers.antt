use Rattle.std.proofs.Common.{◌≡◌, ◌+◌, ◌-◌, ◌<◌, sym, ◌∙◌, ap, subst, map, List, [], ◌∷◌, ◌++◌, length, length-append, arith, if◌then◌else◌, is_ok}
use Rattle.std.specs.List.{AllByRecursion}
use Rattle.record_text.specs.Change.{change_of}
use Rattle.doc_changes.specs.declared.limits.TheConstants.{LAST_SEQ}
use Rattle.doc_changes.specs.Held.{held_in}
use Rattle.doc_changes.specs.Judged.{IsJudged}
use Rattle.doc_changes.specs.State.{State, Document, Good, IsStorable}
use Rattle.doc_changes.specs.Step.{IsOwn, after}
use Rattle.doc_machine.specs.Trial.{TrialView}
use Rattle.doc_changes.specs.Undo.{IsMade}
use Rattle.doc_machine.specs.Tried.{tried, before, past_of, CanGoBackAll}
use Rattle.doc_changes.specs.StateView.{document_of}
use Rattle.doc_changes.specs.MarkView.{AreSet, all_before}
use Rattle.doc_changes.specs.declared.marks.Unset.{Unset}
use Rattle.doc_machine.specs.declared.machine.trial.Tried.{Tried}
use Rattle.doc_changes.proofs.After.{good_after}
use Rattle.doc_changes.proofs.Judgements.{err_same}
use Rattle.doc_changes.proofs.Known.{own_alone}
use Rattle.doc_changes.proofs.Made.{judged_below}
use Rattle.doc_machine.proofs.Pasts.{back_push, past_of-push}
use Rattle.doc_machine.proofs.Readied.{ready_on}
use Rattle.doc_machine.proofs.machine.trial.Trial.change.Goals as goal

pub make-requires-clause-storable : goal.make-requires-clause-storable
make-requires-clause-storable c = subst (λ es. AllByRecursion IsStorable (map document_of es)) (sym c.in_ok-reserve.ensures.entries) c.self.invariant.good.storable

pub returns-in_err-undo-clause-own : goal.returns-in_err-undo-clause-own
returns-in_err-undo-clause-own c =
    err_same c.from_residual-in_err-undo.result c.in_err-undo.field-0.0 IsOwn
    (own_alone c.self.inside.profile (map document_of c.reserve.new.self.entries) (change_of c.args.command) c.in_err-undo.field-0.0 (c.in_err-undo.ensures.refused c.self.inside.profile)) c.from_residual-in_err-undo.ensures.1

pub make-requires-clause-ready : goal.make-requires-clause-ready
make-requires-clause-ready c = (
  c.self.inside.profile,
  ready_on _ (tried c.self.inside) (map document_of c.reserve.new.self.entries) (change_of c.args.command) c.args.judged (sym (ap (λ (v : TrialView). v.state) c.self.view_is))
      (ap (map document_of) c.in_ok-reserve.ensures.entries) c.requires.ready,
)

made : (c : goal.After-self-1) → IsMade c.self.inside.profile (map document_of c.self.inside.documents.entries) (change_of c.args.command) (c.self.inside.seq + 1) c.in_ok-undo.undo (map document_of c.make.new.documents.entries)
made c =
    subst (λ es. IsMade c.self.inside.profile (map document_of es) (change_of c.args.command) (c.self.inside.seq + 1) c.in_ok-undo.undo (map document_of c.make.new.documents.entries)) c.in_ok-reserve.ensures.entries
    (c.in_ok-undo.ensures.made c.self.inside.profile (ready_on _ (tried c.self.inside) (map document_of c.reserve.new.self.entries) (change_of c.args.command) c.args.judged (sym (ap (λ (v : TrialView). v.state) c.self.view_is))
    (ap (map document_of) c.in_ok-reserve.ensures.entries) c.requires.ready))

judged : (c : goal.After-self-1) → IsJudged (tried c.self.inside) (change_of c.args.command) (made c).judged
judged c =
    let low = subst (λ (v : TrialView). v.state.seq < LAST_SEQ) (sym c.self.view_is) c.requires.counted in
    judged_below (tried c.self.inside) (change_of c.args.command) (made c).judged (c.accepted_changes_are_framed.ensures (tried c.self.inside) (change_of c.args.command)) (made c).is_judged low

abbrev now : (c : goal.After-self-1) → State
now c = record { documents = map document_of c.make.new.documents.entries; marks = c.self.inside.marks; seq = c.self.inside.seq + 1; profile = c.self.inside.profile }

-- no mark was set after it yet
abbrev one : (c : goal.After-self-1) → Tried
one c = record { change = c.in_ok-undo.undo; marks = c.new.result }

now_is : (c : goal.After-self-1) → now c ≡ after (tried c.self.inside) (change_of c.args.command)
now_is c = ap (λ (ds : List Document). record { documents = ds; marks = c.self.inside.marks; seq = c.self.inside.seq + 1; profile = c.self.inside.profile }) (made c).after

before_is : (c : goal.After-self-1) → before (one c) (now c) ≡ tried c.self.inside
before_is c =
    let seq : c.self.inside.seq + 1 - 1 ≡ c.self.inside.seq = omega arith in
    λ i. record { documents = (made c).undo.back i; marks = all_before (c.new.ensures.items i) c.self.inside.marks; seq = seq i; profile = c.self.inside.profile }

log_is : (c : goal.After-self-1) → c.push.new.self.items ≡ c.self.inside.log.items ++ one c ∷ []
log_is c =
    c.push.ensures.items ∙ ap (λ r. if is_ok r then c.reserve-2.new.self.items ++ one c ∷ [] else c.reserve-2.new.self.items) c.unwrap.ensures
    ∙ ap (λ (l : List Tried). l ++ one c ∷ []) c.in_ok-reserve-2.ensures.items

good_now : (c : goal.After-self-1) → Good (now c)
good_now c = subst Good (sym (now_is c)) (good_after (tried c.self.inside) (change_of c.args.command) (made c).judged c.self.invariant.good (judged c))

pub invariant_of-self-2 : goal.invariant_of-self-2
invariant_of-self-2 c =
    let log = c.self.inside.log.items in
    let undo = one c in
    let size = ap length (log_is c) in
    record {
      good = good_now c;
      back = subst (λ (l : List Tried). CanGoBackAll l (now c)) (sym (log_is c)) (back_push log undo (now c)
          (subst (CanGoBackAll log) (sym (before_is c)) c.self.invariant.back)
          (record { there = (made c).undo.there; set = subst (λ (us : List Unset). AreSet us c.self.inside.marks) (sym c.new.ensures.items) tt; counted = omega arith; good = subst Good (sym (before_is c)) c.self.invariant.good }));
      room = omega (arith, size, length-append log (undo ∷ []), c.in_ok-reserve.ensures.ok, c.len.ensures, c.make.ensures.spare);
    }

pub returns-clause-made : goal.returns-clause-made
returns-clause-made c =
    let old = c.self.view_is in
    let j = judged c in
    record {
      state = now_is c ∙ ap (λ (v : TrialView). after v.state (change_of c.args.command)) old;
      past = ap (λ (l : List Tried). past_of l (now c)) (log_is c) ∙ past_of-push c.self.inside.log.items (one c) (now c)
          ∙ ap (λ (s : State). past_of c.self.inside.log.items s ++ s ∷ []) (before_is c) ∙ ap (λ (v : TrialView). v.past ++ v.state ∷ []) old;
      framed = (j.framed, tt);
      good = (subst (λ (v : TrialView). Good v.state) old c.self.invariant.good, subst Good (now_is c ∙ ap (λ (v : TrialView). after v.state (change_of c.args.command)) old) (good_now c));
    }

pub returns-clause-good : goal.returns-clause-good
returns-clause-good c = good_now c

pub returns-clause-held : goal.returns-clause-held
returns-clause-held c = c.held-held.ensures ∙ (made c).held ∙ ap (λ (v : TrialView). held_in v.state.documents (change_of c.args.command)) c.self.view_is
