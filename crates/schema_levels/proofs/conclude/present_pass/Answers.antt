use Rattle.std.proofs.Common.{◌≡◌, inl, inr, ⊎_elim, true, false, refl, sym, ap, ◌∙◌, rules}
use Rattle.schema_rules.specs.Instances.{seen}
use Rattle.schema_levels.specs.Bits.{bit}
use Rattle.schema_levels.proofs.Presence.{none_present, present_next}
use Rattle.schema_levels.proofs.conclude.present_pass.Goals.{else-has_member-via-then-has_member+else-not-bit, else-has_member-via-else-has_member}
use Rattle.schema_levels.proofs.conclude.present_pass.Goals as goal

pub loop-name-init : goal.loop-name-init
loop-name-init c =
    let ks : c.zip-name-items.result.a.rest.now ≡ c.args.names.now = search rules in
    let js : c.zip-name-items.result.b.rest.now ≡ c.args.numbers.now = search rules in
    let a = ap (λ z. z.a.rest.now) c.into_iter-name-iterator.ensures.into_iter_gives ∙ ks in
    let b = ap (λ z. z.b.rest.now) c.into_iter-name-iterator.ensures.into_iter_gives ∙ js in
    rw (a, b) refl

pub returns-then-not-bit : goal.returns-then-not-bit
returns-then-not-bit c =
    let t = seen c.args.instance in
    let f = bit c.args.passed.now in
    sym (present_next t f c.in-Some.name.now c.as_str.result.now c.in-Some.number.now _ _ _ _ true false c.in-Some.ensures.steps.0 c.in-Some.ensures.steps.1 c.as_str.ensures.value c.if-has_member.ensures c.if-not-bit.ensures) ∙ c.loop-name.invariant

pub loop-name-preserved : goal.loop-name-preserved
loop-name-preserved c =
    let t = seen c.args.instance in
    let f = bit c.args.passed.now in
    elim c.else-has_member.branch [
      | else-has_member-via-then-has_member+else-not-bit w ↦
          sym (present_next t f c.in-Some.name.now c.as_str.result.now c.in-Some.number.now _ _ _ _ true true c.in-Some.ensures.steps.0 c.in-Some.ensures.steps.1 c.as_str.ensures.value w.if-has_member.ensures w.if-not-bit.ensures) ∙ c.loop-name.invariant
      | else-has_member-via-else-has_member w ↦
          sym (present_next t f c.in-Some.name.now c.as_str.result.now c.in-Some.number.now _ _ _ _ false (f c.in-Some.number.now) c.in-Some.ensures.steps.0 c.in-Some.ensures.steps.1 c.as_str.ensures.value w.if-has_member.ensures refl) ∙ c.loop-name.invariant
    ]

pub returns : goal.returns
returns c = none_present (seen c.args.instance) (bit c.args.passed.now) c.loop-name.name-iterator.a.rest.now c.loop-name.name-iterator.b.rest.now (⊎_elim (λ x. inl x.1.0) (λ x. inr x.1.0) c.in-None.ensures.steps) ∙ c.loop-name.invariant
