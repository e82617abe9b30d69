use Rattle.std.proofs.Common.{subst, sym}
use Rattle.path_tables.proofs.Answered.{all_gives, not_gives, some_gives}
use Rattle.path_plans.specs.PlanView.{test_view}
use Rattle.path_plans.specs.Planned.{passes, test_refused}
use Rattle.path_tables.specs.FilterTables.{IsAskedRightly, asked_view}
use Rattle.path_select.specs.Indexed.{at_number}
use Rattle.path_select.specs.Gives.{Gives}
use Rattle.path_tables.proofs.asking.node_passes.Goals as goal

pub returns-in-SomeOf : goal.returns-in-SomeOf
returns-in-SomeOf c =
    let x = c.args.index.now in
    let d = (at_number x c.args.number).1 in
    subst (λ a. Gives (λ b. b) c.some_hold.result (test_refused (asked_view a) d) (passes (asked_view a) d)) (sym c.in-SomeOf.is)
    (some_gives x c.args.number _ c.in-SomeOf.told.items c.some_hold.result (subst (IsAskedRightly x) c.in-SomeOf.is c.requires.right) c.some_hold.ensures)

pub returns-in-AllOf : goal.returns-in-AllOf
returns-in-AllOf c =
    let x = c.args.index.now in
    let d = (at_number x c.args.number).1 in
    subst (λ a. Gives (λ b. b) c.all_hold.result (test_refused (asked_view a) d) (passes (asked_view a) d)) (sym c.in-AllOf.is)
    (all_gives x c.args.number _ c.in-AllOf.told.items c.all_hold.result (subst (IsAskedRightly x) c.in-AllOf.is c.requires.right) c.all_hold.ensures)

pub returns-in-NotThat : goal.returns-in-NotThat
returns-in-NotThat c =
    let x = c.args.index.now in
    let d = (at_number x c.args.number).1 in
    subst (λ a. Gives (λ b. b) c.not_hold.result (test_refused (asked_view a) d) (passes (asked_view a) d)) (sym c.in-NotThat.is)
    (not_gives x c.args.number (test_view c.in-NotThat.part.now) c.in-NotThat.told c.not_hold.result (subst (IsAskedRightly x) c.in-NotThat.is c.requires.right) c.not_hold.ensures)
