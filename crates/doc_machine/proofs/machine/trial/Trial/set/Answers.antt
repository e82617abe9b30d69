use Rattle.std.proofs.Common.{◌≡◌, ◌+◌, ◌-◌, ◌<◌, ◌≤◌, ◌++◌, string_bytes, List, [], ◌∷◌, None, sym, ◌∙◌, ap, subst, length, set, length-set, arith, refl, if◌then◌else◌, is_ok}
use Rattle.std.proofs.lemmas.Str.{IsUtf8-string_bytes}
use Rattle.doc_changes.specs.MarkView.{mark_in}
use Rattle.doc_changes.specs.Marks.{Mark, mark_refusal}
use Rattle.doc_changes.specs.State.{Good, State}
use Rattle.doc_changes.proofs.Marked.{good_noted}
use Rattle.doc_machine.specs.Trial.{TrialView}
use Rattle.doc_machine.specs.Tried.{CanGoBackAll, past_of, tried}
use Rattle.doc_machine.specs.declared.machine.trial.Tried.{Tried}
use Rattle.doc_machine.proofs.Pasts.{back_more, back_same, length-past_of, on_err_all, past_more, past_same}
use Rattle.doc_machine.proofs.machine.trial.Trial.set.Goals as goal

pub invariant_of-self : goal.invariant_of-self
invariant_of-self c =
    let log = c.self.inside.log.items in
    let s = tried c.self.inside in
    let n = c.len-last.result - 1 in
    let u = c.index_mut.result.now in
    let v : Tried = record u { marks = c.reserve.new.self } in
    let some = subst (λ (t : TrialView). 0 < length t.past) (sym c.self.view_is) c.requires.tried in
    let size : n + 1 ≡ length log = omega (arith, some, length-past_of log s, c.len-last.ensures) in
    record {
      good = c.self.invariant.good;
      back = back_same log n u size c.index_mut.ensures.value v s refl c.in_err-reserve.ensures.items c.self.invariant.back;
      room = omega (arith, c.self.invariant.room, length-set log n v);
    }

pub returns-in_err-reserve-clause-past : goal.returns-in_err-reserve-clause-past
returns-in_err-reserve-clause-past c =
    let log = c.self.inside.log.items in
    let s = tried c.self.inside in
    let n = c.len-last.result - 1 in
    let u = c.index_mut.result.now in
    let v : Tried = record u { marks = c.reserve.new.self } in
    let some = subst (λ (t : TrialView). 0 < length t.past) (sym c.self.view_is) c.requires.tried in
    let size : n + 1 ≡ length log = omega (arith, some, length-past_of log s, c.len-last.ensures) in
    past_same log n u size c.index_mut.ensures.value v s refl c.in_err-reserve.ensures.items ∙ ap (λ (t : TrialView). t.past) c.self.view_is

pub returns-in_err-reserve-clause-unchanged : goal.returns-in_err-reserve-clause-unchanged
returns-in_err-reserve-clause-unchanged c =
    let log = c.self.inside.log.items in
    let s = tried c.self.inside in
    let n = c.len-last.result - 1 in
    let u = c.index_mut.result.now in
    let v : Tried = record u { marks = c.reserve.new.self } in
    let some = subst (λ (t : TrialView). 0 < length t.past) (sym c.self.view_is) c.requires.tried in
    let size : n + 1 ≡ length log = omega (arith, some, length-past_of log s, c.len-last.ensures) in
    let past = past_same log n u size c.index_mut.ensures.value v s refl c.in_err-reserve.ensures.items in
    on_err_all c.from_residual.result ((λ i. record { state = s; past = past i }) ∙ c.self.view_is)

pub invariant_of-self-in_err-unset : goal.invariant_of-self-in_err-unset
invariant_of-self-in_err-unset c =
    let log = c.self.inside.log.items in
    let s = tried c.self.inside in
    let n = c.len-last.result - 1 in
    let u = c.index_mut.result.now in
    let v : Tried = record u { marks = c.reserve.new.self } in
    let some = subst (λ (t : TrialView). 0 < length t.past) (sym c.self.view_is) c.requires.tried in
    let size : n + 1 ≡ length log = omega (arith, some, length-past_of log s, c.len-last.ensures) in
    let same : record s { marks = c.set.new.self } ≡ s = ap (λ (ms : List Mark). record s { marks = ms }) c.in_err-unset.ensures.unchanged in
    record {
      good = subst Good (sym same) c.self.invariant.good;
      back = subst (CanGoBackAll (set log n v)) (sym same) (back_same log n u size c.index_mut.ensures.value v s refl c.in_ok-reserve.ensures.items c.self.invariant.back);
      room = omega (arith, c.self.invariant.room, length-set log n v);
    }

pub returns-in_err-unset-clause-past : goal.returns-in_err-unset-clause-past
returns-in_err-unset-clause-past c =
    let log = c.self.inside.log.items in
    let s = tried c.self.inside in
    let n = c.len-last.result - 1 in
    let u = c.index_mut.result.now in
    let v : Tried = record u { marks = c.reserve.new.self } in
    let some = subst (λ (t : TrialView). 0 < length t.past) (sym c.self.view_is) c.requires.tried in
    let size : n + 1 ≡ length log = omega (arith, some, length-past_of log s, c.len-last.ensures) in
    let same : record s { marks = c.set.new.self } ≡ s = ap (λ (ms : List Mark). record s { marks = ms }) c.in_err-unset.ensures.unchanged in
    ap (past_of (set log n v)) same ∙ past_same log n u size c.index_mut.ensures.value v s refl c.in_ok-reserve.ensures.items ∙ ap (λ (t : TrialView). t.past) c.self.view_is

pub returns-in_err-unset-clause-unchanged : goal.returns-in_err-unset-clause-unchanged
returns-in_err-unset-clause-unchanged c =
    let log = c.self.inside.log.items in
    let s = tried c.self.inside in
    let n = c.len-last.result - 1 in
    let u = c.index_mut.result.now in
    let v : Tried = record u { marks = c.reserve.new.self } in
    let some = subst (λ (t : TrialView). 0 < length t.past) (sym c.self.view_is) c.requires.tried in
    let size : n + 1 ≡ length log = omega (arith, some, length-past_of log s, c.len-last.ensures) in
    let same : record s { marks = c.set.new.self } ≡ s = ap (λ (ms : List Mark). record s { marks = ms }) c.in_err-unset.ensures.unchanged in
    let past = ap (past_of (set log n v)) same ∙ past_same log n u size c.index_mut.ensures.value v s refl c.in_ok-reserve.ensures.items in
    on_err_all c.from_residual-in_err-unset.result ((λ i. record { state = same i; past = past i }) ∙ c.self.view_is)

pub returns-clause-good : goal.returns-clause-good
returns-clause-good c =
    let s = tried c.self.inside in
    let none = subst (λ (t : TrialView). mark_refusal t.state.profile (string_bytes c.args.mark.key) (string_bytes c.args.mark.value) ≡ None) (sym c.self.view_is) c.requires.accepted in
    let low = subst (λ (t : TrialView). c.args.mark.seq ≤ t.state.seq) (sym c.self.view_is) c.requires.counted in
    subst Good (ap (λ (ms : List Mark). record s { marks = ms }) (sym c.in_ok-unset.ensures.set)) (good_noted s (mark_in c.args.mark) c.self.invariant.good none (IsUtf8-string_bytes c.args.mark.value) low)

pub invariant_of-self-2 : goal.invariant_of-self-2
invariant_of-self-2 c =
    let log = c.self.inside.log.items in
    let s = tried c.self.inside in
    let n = c.len-last.result - 1 in
    let u = c.index_mut.result.now in
    let v : Tried = record u { marks = c.reserve.new.self } in
    let some = subst (λ (t : TrialView). 0 < length t.past) (sym c.self.view_is) c.requires.tried in
    let size : n + 1 ≡ length log = omega (arith, some, length-past_of log s, c.len-last.ensures) in
    let two = set log n v in
    let size_two : n + 1 ≡ length two = omega (arith, size, length-set log n v) in
    let u_two = c.index_mut-2.result.now in
    let v_two : Tried = record u_two { marks = c.push.new.self } in
    let unset = c.in_ok-unset.unset in
    let items = c.push.ensures.items ∙ ap (λ r. if is_ok r then u_two.marks.items ++ unset ∷ [] else u_two.marks.items) c.unwrap.ensures in
    record {
      good = returns-clause-good c;
      back = back_more two n u_two size_two c.index_mut-2.ensures.value v_two unset s c.set.new.self refl items c.in_ok-unset.ensures.back.back c.in_ok-unset.ensures.back.there
          (back_same log n u size c.index_mut.ensures.value v s refl c.in_ok-reserve.ensures.items c.self.invariant.back);
      room = omega (arith, c.self.invariant.room, length-set log n v, length-set two n v_two);
    }

pub returns-clause-past : goal.returns-clause-past
returns-clause-past c =
    let log = c.self.inside.log.items in
    let s = tried c.self.inside in
    let n = c.len-last.result - 1 in
    let u = c.index_mut.result.now in
    let v : Tried = record u { marks = c.reserve.new.self } in
    let some = subst (λ (t : TrialView). 0 < length t.past) (sym c.self.view_is) c.requires.tried in
    let size : n + 1 ≡ length log = omega (arith, some, length-past_of log s, c.len-last.ensures) in
    let two = set log n v in
    let size_two : n + 1 ≡ length two = omega (arith, size, length-set log n v) in
    let u_two = c.index_mut-2.result.now in
    let v_two : Tried = record u_two { marks = c.push.new.self } in
    let unset = c.in_ok-unset.unset in
    let items = c.push.ensures.items ∙ ap (λ r. if is_ok r then u_two.marks.items ++ unset ∷ [] else u_two.marks.items) c.unwrap.ensures in
    past_more two n u_two size_two c.index_mut-2.ensures.value v_two unset s c.set.new.self refl items c.in_ok-unset.ensures.back.back
    ∙ past_same log n u size c.index_mut.ensures.value v s refl c.in_ok-reserve.ensures.items ∙ ap (λ (t : TrialView). t.past) c.self.view_is
