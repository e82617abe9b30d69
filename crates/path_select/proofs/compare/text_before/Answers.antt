use Rattle.std.proofs.Common.{◌∙◌}
use Rattle.std.proofs.lemmas.Str.{IsUtf8-past_char}
use Rattle.std.specs.Str.Iter.{chars_rest}
use Rattle.path_select.proofs.Points.{points_on, points_differ, points_end, points_over}
use Rattle.path_select.proofs.compare.text_before.Goals as goal

pub loop-point-preserved : goal.loop-point-preserved
loop-point-preserved c =
    let l = c.loop-point in
    let a = chars_rest l.point-iterator in
    let b = chars_rest l.others in
    let x = c.in-Some.ensures.steps.0 in
    let y = c.in-Some-next.ensures.steps.0 in (
      tt,
      tt,
      IsUtf8-past_char a _ c.in-Some.point l.invariant.2 x,
      IsUtf8-past_char b _ c.in-Some-next.other l.invariant.3 y,
      points_on a b _ l.invariant.2 l.invariant.3 l.invariant.4 c.in-Some.point c.in-Some-next.other _ _ x y c.if-point-other.false,
    )

pub returns-then-point-other : goal.returns-then-point-other
returns-then-point-other c =
    let l = c.loop-point in
    points_differ (chars_rest l.point-iterator) (chars_rest l.others) _ l.invariant.2 l.invariant.3 l.invariant.4 c.in-Some.point c.in-Some-next.other _ _ c.in-Some.ensures.steps.0 c.in-Some-next.ensures.steps.0 c.if-point-other.true

pub returns-in-None-next : goal.returns-in-None-next
returns-in-None-next c =
    let l = c.loop-point in
    points_end (chars_rest l.point-iterator) (chars_rest l.others) _ l.invariant.2 l.invariant.3 l.invariant.4 c.in-Some.point _ c.in-Some.ensures.steps.0 c.in-None-next.ensures.steps.0.0

pub returns : goal.returns
returns c =
    let l = c.loop-point in
    c.is_some.ensures ∙ points_over (chars_rest l.point-iterator) (chars_rest l.others) _ l.invariant.2 l.invariant.3 l.invariant.4 c.next-2.result c.in-None.ensures.steps.0.0 c.next-2.ensures.steps.2
