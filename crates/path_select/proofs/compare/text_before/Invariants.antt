use Rattle.std.proofs.Common.{◌≡◌, chars}
use Rattle.std.specs.Str.{IsUtf8}
use Rattle.std.specs.Str.Iter.{chars_rest}
use Rattle.path_select.specs.Comparing.{points_before}
use Rattle.path_select.proofs.compare.text_before.Given as goal

abbrev pub invariant-loop-point : goal.invariant-loop-point
invariant-loop-point l =
    (goal.iterator-loop-point).can_next l.point-iterator ×
    (goal.iterator-loop-point).is_finite l.point-iterator ×
    IsUtf8 (chars_rest l.point-iterator) ×
    IsUtf8 (chars_rest l.others) ×
    (points_before (chars (chars_rest l.point-iterator)) (chars (chars_rest l.others)) ≡ points_before (chars l.a) (chars l.b))
