use Rattle.std.proofs.Common.{◌∙◌, ◌+◌, ◌∷◌, [], drop, sym, ap, arith}
use Rattle.std.proofs.lemmas.List.{drop_all}
use Rattle.std.proofs.lemmas.Result.{err_from_is_err_and}
use Rattle.path_plans.specs.Planned.{listed, plan_refused}
use Rattle.path_tables.specs.FilterTables.{phases_view}
use Rattle.path_select.specs.Indexed.{at_number, at_numbers}
use Rattle.path_tables.proofs.ByNumber.{phase_goes_on, phase_stopped}
use Rattle.path_select.proofs.Trails.{drop_next}
use Rattle.path_tables.proofs.by_number.numbers_from.Goals as goal

pub returns-in_err-list : goal.returns-in_err-list
returns-in_err-list c =
    let x = c.args.index.now in
    let l = c.loop-phase in
    let items = c.deref-phase-items.result.now in
    let start = at_number x c.args.number ∷ [] in
    let p = err_from_is_err_and c.from_residual-in_err-list.result c.from_residual-in_err-list.ensures.1 in
    let here = drop_next items l.phase-index c.phase-item.result c.loop-phase-test.true c.phase-item.is in
    rw (p.1, p.2) (phase_stopped c.phase-item.result (drop (l.phase-index + 1) items) (at_numbers x l.list.items) _ c.in_err-list.field-0.0
    ((rw here at l.invariant.1) ∙ ap (λ ps. plan_refused (phases_view ps) start) c.deref-phase-items.ensures.value) c.in_err-list.ensures)

pub loop-phase-preserved : goal.loop-phase-preserved
loop-phase-preserved c =
    let x = c.args.index.now in
    let l = c.loop-phase in
    let items = c.deref-phase-items.result.now in
    let here = drop_next items l.phase-index c.phase-item.result c.loop-phase-test.true c.phase-item.is in
    let h = c.in_ok-list.ensures in
    let on = phase_goes_on c.phase-item.result (drop (l.phase-index + 1) items) (at_numbers x l.list.items) (at_numbers x c.in_ok-list.list.items) h.0 h.1 in (
      on.0 ∙ ap (λ ps. listed (phases_view ps) (at_numbers x l.list.items)) (sym here) ∙ l.invariant.0,
      on.1 ∙ ap (λ ps. plan_refused (phases_view ps) (at_numbers x l.list.items)) (sym here) ∙ l.invariant.1,
      (rw here at l.invariant.2).1,
    )

pub returns : goal.returns
returns c =
    let x = c.args.index.now in
    let l = c.loop-phase in
    let items = c.deref-phase-items.result.now in
    let start = at_number x c.args.number ∷ [] in
    let none = drop_all l.phase-index items (omega arith) in (
      ap (λ ps. plan_refused (phases_view ps) start) (sym c.deref-phase-items.ensures.value) ∙ sym (rw none at l.invariant.1),
      (rw none at l.invariant.0) ∙ ap (λ ps. listed (phases_view ps) start) c.deref-phase-items.ensures.value,
    )
