use Rattle.std.proofs.Common.{◌≡◌, ◌∙◌, ◌++◌, IfOk, Option, ap, append-nil, subst, sym}
use Rattle.damaged_files.specs.Damages.{listed}
use Rattle.damaged_files.specs.declared.damage.Damage.{Damage}
use Rattle.damaged_files.proofs.damages.with_size.Goals as goal

pub returns-in-None : goal.returns-in-None
returns-in-None c =
    let before = c.args.damages.items in
    sym (append-nil before) ∙ ap (λ o. before ++ listed o) (sym c.in-None.is ∙ c.size_damage.ensures)

pub returns-in-Some : goal.returns-in-Some
returns-in-Some c = subst (λ (o : Option Damage). IfOk c.with_one.result (λ more. more.items ≡ c.args.damages.items ++ listed o)) (sym c.in-Some.is ∙ c.size_damage.ensures) c.with_one.ensures
