use Rattle.std.proofs.Common.{◌≡◌, ◌++◌, ◌∙◌, ◌∷◌, ◌+◌, suc, ℕ, Bool, append-nil, ap, arith, drop, drop-cons, filter, get_or, refl, sym}
use Rattle.std.specs.List.{list_any}
use Rattle.std.proofs.lemmas.List.{drop_all}
use Rattle.std.proofs.lemmas.Result.{err_from_is_err_and}
use Rattle.path_tables.specs.FilterTables.{is_held, is_refused}
use Rattle.path_plans.proofs.Filtered.{takes_it, leaves_it, none_here, stops_here}
use Rattle.path_tables.proofs.by_number.held.Goals as goal
use Rattle.path_tables.proofs.by_number.held.Goals.{then-branch+in_ok-push, else-branch}

pub loop-number-init : goal.loop-number-init
loop-number-init c = rw c.new-found.ensures.items (refl, refl)

pub returns-in_err-holds : goal.returns-in_err-holds
returns-in_err-holds c =
    let l = c.loop-number in
    let items = c.deref-number-items.result.now in
    let refuses : ℕ → Bool = λ n. is_refused n c.args.told.now in
    let next : suc l.number-index ≡ l.number-index + 1 = omega arith in
    let x = get_or items l.number-index 0 in
    let here = drop-cons items l.number-index 0 c.loop-number-test.true ∙ ap (λ n. x ∷ drop n items) next in
    let same = sym (ap (list_any refuses) here) ∙ l.invariant.1 in
    let p = err_from_is_err_and c.from_residual.result c.from_residual.ensures.1 in
    rw (p.1, p.2, sym c.deref-number-items.ensures.value)
    (stops_here refuses x (drop (l.number-index + 1) items) _ same c.in_err-holds.field-0.0 c.in_err-holds.ensures)

pub returns-in_err-push : goal.returns-in_err-push
returns-in_err-push c =
    let p = err_from_is_err_and c.from_residual-in_err-push.result c.from_residual-in_err-push.ensures.1 in
    rw (p.1, p.2) tt

pub loop-number-preserved : goal.loop-number-preserved
loop-number-preserved c =
    let l = c.loop-number in
    let items = c.deref-number-items.result.now in
    let refuses : ℕ → Bool = λ n. is_refused n c.args.told.now in
    let takes : ℕ → Bool = λ n. is_held n c.args.told.now in
    let found = l.found.items in
    let next : suc l.number-index ≡ l.number-index + 1 = omega arith in
    let x = get_or items l.number-index 0 in
    let rest = drop (l.number-index + 1) items in
    let here = drop-cons items l.number-index 0 c.loop-number-test.true ∙ ap (λ n. x ∷ drop n items) next in
    let so_far : found ++ filter takes (x ∷ rest) ≡ _ = sym (ap (λ ns. found ++ filter takes ns) here) ∙ l.invariant.0 in
    let same : list_any refuses (x ∷ rest) ≡ _ = sym (ap (list_any refuses) here) ∙ l.invariant.1 in (
      elim c.if-branch.branch [
        | then-branch+in_ok-push w ↦ rw w.found-is (ap (λ ns. ns ++ filter takes rest) w.in_ok-push.ensures.items ∙ takes_it takes found x rest _ so_far (sym c.in_ok-holds.ensures.1 ∙ w.if-branch.true))
        | else-branch w ↦ rw w.found-is (leaves_it takes found x rest _ so_far (sym c.in_ok-holds.ensures.1 ∙ w.if-branch.false))
      ],
      none_here refuses x rest _ same c.in_ok-holds.ensures.0,
    )

pub returns : goal.returns
returns c =
    let l = c.loop-number in
    let items = c.deref-number-items.result.now in
    let refuses : ℕ → Bool = λ n. is_refused n c.args.told.now in
    let takes : ℕ → Bool = λ n. is_held n c.args.told.now in
    let none = drop_all l.number-index items (omega arith) in
    rw (sym c.deref-number-items.ensures.value) (
      sym l.invariant.1 ∙ ap (list_any refuses) none,
      sym (append-nil l.found.items) ∙ sym (ap (λ ns. l.found.items ++ filter takes ns) none) ∙ l.invariant.0,
    )
