use Rattle.std.proofs.Common.{◌≡◌, ◌+◌, ◌++◌, ◌∷◌, [], List, length-append, map, ap, sym, subst, ◌∙◌, arith}
use Rattle.std.proofs.lemmas.List.{append_assoc, length-map, map-append}
use Rattle.std.specs.Vec.Iter.{into_iter_items}
use Rattle.record_text.specs.Change.{Change, change_of}
use Rattle.record_text.specs.declared.command.Command.{Command}
use Rattle.doc_machine.specs.Transaction.{AreMade, StopsAt, first_refused, kept_by, kept_by_all, large_refusal, refused_at}
use Rattle.doc_machine.specs.Trial.{TrialView}
use Rattle.doc_changes.specs.declared.refusal.Refusal.{Refusal}
use Rattle.doc_changes.proofs.Judgements.{err_same}
use Rattle.doc_machine.proofs.Transactions.{bytes_are, first_behind, kept_push, large_is, made_push, stops_large, stops_refused, together_is}
use Rattle.doc_machine.proofs.machine.trial.Trial.step_each.Goals as goal

pub loop-command-preserved : goal.loop-command-preserved
loop-command-preserved c =
    let l = c.loop-command in
    let x = c.in-Some.command in
    let old = c.args.self.now in
    let new = c.step.new.self in
    let done = map change_of l.yielded in
    let one = c.in-Ok.ensures in
    let rest = into_iter_items c.next.new.self in
    let all : map change_of (l.yielded ++ x ∷ []) ≡ done ++ change_of x ∷ [] = map-append change_of l.yielded (x ∷ []) in
    let bytes = bytes_are l.self.state (change_of x) c.in-Ok.accepted.held c.bytes_ruled-ruled.result c.saturating_add.result c.in-Ok.ensures.held c.bytes_ruled-ruled.ensures c.saturating_add.ensures in
    let counted = c.in_ok-together.ensures.counted in
    let more_is = counted.0 ∙ together_is l.kept (kept_by l.self.state (change_of x)) c.saturating_add.result bytes counted.1 in
    let within = sym (large_is l.kept (kept_by l.self.state (change_of x)) c.saturating_add.result bytes) ∙ counted.1 in
    record {
      made = subst (λ (cs : List Change). AreMade old cs new) (sym all) (made_push old l.self new done (change_of x) l.invariant.made one.made);
      refused = λ more. ap (λ (cs : List Change). first_refused 0 0 old.state (cs ++ more)) all
          ∙ ap (first_refused 0 0 old.state) (append_assoc done (change_of x ∷ []) more)
          ∙ l.invariant.refused (change_of x ∷ more) ∙ first_behind l.place l.kept l.self.state (change_of x) more within one.accepted
          ∙ (λ i. first_refused (l.place + 1) (sym more_is i) (sym one.made.state i) more);
      kept = more_is ∙ (λ i. l.invariant.kept i + kept_by (l.invariant.made.state i) (change_of x)) ∙ sym (kept_push old.state done (change_of x)) ∙ ap (kept_by_all old.state) (sym all);
      within = ap large_refusal more_is ∙ within;
      left = l.invariant.left ∙ ap (λ (es : List Command). l.yielded ++ es) c.in-Some.ensures.steps.0 ∙ sym (append_assoc l.yielded (x ∷ []) rest);
      place = (let before = l.invariant.place in omega (arith, before, length-append l.yielded (x ∷ [])));
      good = c.step.ensures.good;
    }

-- with this change they keep too many bytes
pub returns-in_err-together-clause-stops : goal.returns-in_err-together-clause-stops
returns-in_err-together-clause-stops c =
    let l = c.loop-command in
    let x = c.in-Some.command in
    let old = c.args.self.now in
    let done = map change_of l.yielded in
    let behind = map change_of (into_iter_items c.next.new.self) in
    let all = map change_of c.args.commands.items in
    let parts = sym (ap (map change_of) (l.invariant.left ∙ ap (λ (es : List Command). l.yielded ++ es) c.in-Some.ensures.steps.0) ∙ map-append change_of l.yielded (x ∷ into_iter_items c.next.new.self)) in
    let one = c.in-Ok.ensures in
    let bytes = bytes_are l.self.state (change_of x) c.in-Ok.accepted.held c.bytes_ruled-ruled.result c.saturating_add.result c.in-Ok.ensures.held c.bytes_ruled-ruled.ensures c.saturating_add.ensures in
    let large = sym (large_is l.kept (kept_by l.self.state (change_of x)) c.saturating_add.result bytes) ∙ c.in_err-together.ensures.counted in
    err_same c.from_residual.result c.in_err-together.field-0.0 (λ (r : Refusal). StopsAt old all r c.step.new.self)
    (stops_large old l.self done (change_of x) behind all l.place l.kept parts l.invariant.made l.invariant.kept (l.invariant.refused (change_of x ∷ behind))
    c.in_err-together.field-0.0 c.step.new.self (made_push old l.self c.step.new.self done (change_of x) l.invariant.made one.made) one.accepted large) c.from_residual.ensures.1

-- this change is refused
pub returns-in-Err-clause-stops : goal.returns-in-Err-clause-stops
returns-in-Err-clause-stops c =
    let l = c.loop-command in
    let x = c.in-Some.command in
    let old = c.args.self.now in
    let all = map change_of c.args.commands.items in
    let behind = map change_of (into_iter_items c.next.new.self) in
    let parts = sym (ap (map change_of) (l.invariant.left ∙ ap (λ (es : List Command). l.yielded ++ es) c.in-Some.ensures.steps.0) ∙ map-append change_of l.yielded (x ∷ into_iter_items c.next.new.self)) in
    let stops = stops_refused old l.self (map change_of l.yielded) (change_of x) behind all l.place l.kept parts
    l.invariant.made l.invariant.kept (l.invariant.refused (change_of x ∷ behind)) c.in-Err.refusal l.invariant.within
    (let before = l.invariant.place in omega (arith, before, length-map l.yielded change_of)) (l.invariant.refused []) c.in-Err.ensures.refused in
    subst (λ (r : Refusal). StopsAt old all r c.step.new.self) (sym c.at.ensures)
    (subst (λ (t : TrialView). StopsAt old all (refused_at l.place c.in-Err.refusal) t) (sym c.in-Err.ensures.unchanged) stops)
