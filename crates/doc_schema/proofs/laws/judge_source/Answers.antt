use Rattle.std.proofs.Common.{◌≡◌, Some, true, false, refl, sym, ap, ◌∙◌, subst, arith}
use Rattle.doc_tree.specs.TreeView.{view}
use Rattle.schema_rules.specs.declared.profile.Profile.TheVariants.{Three}
use Rattle.doc_schema.specs.Defects.{HasDefect}
use Rattle.doc_schema.specs.Judge.{enough}
use Rattle.doc_schema.specs.Schemas.{IsPlain}
use Rattle.doc_schema.specs.Steps.{verdict}
use Rattle.doc_schema.specs.declared.defects.Defect.TheVariants.{ByPointer}
use Rattle.doc_schema.proofs.Anywhere.{told, untold}
use Rattle.doc_schema.proofs.Closed.{own}
use Rattle.doc_schema.proofs.Fuel.{enough_is}
use Rattle.doc_schema.proofs.Lifted.{loop_above}
use Rattle.doc_schema.proofs.Near.{near_all}
use Rattle.doc_schema.proofs.laws.judge_source.Goals as goal

pub returns-then-has_patterns : goal.returns-then-has_patterns
returns-then-has_patterns c = λ e _. (let h : true ≡ false = c.if-has_patterns.ensures.1 e in absurd cc)

pub returns-then-branch : goal.returns-then-branch
returns-then-branch c = λ _ none. none (subst (λ s. HasDefect Three ByPointer (view s)) (c.in_ok-whole.ensures ∙ c.source-source.ensures.same) (told Three ByPointer (view c.in_ok-whole.whole) (sym c.if-branch.true ∙ c.in_ok-some_position_has.ensures)))

pub accepts_at-requires-clause-plain : goal.accepts_at-requires-clause-plain
accepts_at-requires-clause-plain c =
    let r = view c.args.schema.now in
    let none = subst (λ s. HasDefect Three ByPointer (view s) → ⊥) (c.in_ok-whole.ensures ∙ c.source-source.ensures.same) (untold Three ByPointer (view c.in_ok-whole.whole) (sym c.if-branch.false ∙ c.in_ok-some_position_has.ensures)) in
    let plain : IsPlain r = record { loops = λ l. c.source-source.ensures.faultless.loops (loop_above r l); patterns = c.if-has_patterns.ensures.0 refl; near = near_all r none } in
    subst (λ s. IsPlain (view s)) (sym c.source-source.ensures.same) plain

pub accepts_at-requires-clause-placed : goal.accepts_at-requires-clause-placed
accepts_at-requires-clause-placed c = own (view c.source-source.result.now)

pub returns : goal.returns
returns c =
    let r = view c.args.schema.now in
    let u = view c.args.doc.now in
    enough_is r (λ l. c.source-source.ensures.faultless.loops (loop_above r l)) u (enough r u) (omega arith)
    ∙ ap Some (sym (c.accepts_at.ensures ∙ ap (λ s. verdict (view s) (view s) u) c.source-source.ensures.same))
