use Rattle.std.proofs.Common.{◌≡◌, ◌∙◌, ◌++◌, List, Option, Some, None, [], IfOk, append-nil, ap, slice_get, sym, subst, if◌then◌else◌}
use Rattle.damaged_files.specs.Damages.{counted_damages, of_part}
use Rattle.damaged_files.specs.declared.damage.Damage.{Damage}
use Rattle.damaged_files.proofs.Listed.{none_there, there}
use Rattle.damaged_files.proofs.damages.with_part.Goals as goal

pub returns-in-None : goal.returns-in-None
returns-in-None c =
    let before = c.args.damages.items in
    let made = c.args.made.now in
    sym (append-nil before) ∙ ap (λ o. before ++ of_part o made) (sym (none_there c.deref.result.now c.args.found.now.parts.items made.part c.deref.ensures.value c.in-None.ensures.lookup.3))

pub returns-then-part : goal.returns-then-part
returns-then-part c =
    let made = c.args.made.now in
    let part = c.in-Some.part.now in
    let is = there c.deref.result.now c.args.found.now.parts.items made.part part c.deref.ensures.value c.in-Some.ensures.lookup.3.0 c.in-Some.ensures.lookup.1 in
    subst (λ (ds : List Damage). IfOk c.with_counted.result (λ more. more.items ≡ c.args.damages.items ++ ds)) (ap (λ b. if b then counted_damages part made else []) (sym c.if-part.true) ∙ ap (λ o. of_part o made) (sym is)) c.with_counted.ensures

pub returns-else-part : goal.returns-else-part
returns-else-part c =
    let before = c.args.damages.items in
    let made = c.args.made.now in
    let part = c.in-Some.part.now in
    let is = there c.deref.result.now c.args.found.now.parts.items made.part part c.deref.ensures.value c.in-Some.ensures.lookup.3.0 c.in-Some.ensures.lookup.1 in
    sym (append-nil before) ∙ ap (λ b. before ++ (if b then counted_damages part made else [])) (sym c.if-part.false) ∙ ap (λ o. before ++ of_part o made) (sym is)
