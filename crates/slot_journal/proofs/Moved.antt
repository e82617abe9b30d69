-- A part of a buffer, moved to its front.
use Rattle.std.proofs.Common.{◌≡◌, ◌+◌, ◌-◌, ℕ, ◌≤◌, List, [], ◌++◌, length, take, drop, refl, ap, sym, ◌∙◌, arith, take_at, length-take-le}
use Rattle.std.proofs.lemmas.List.{drop-take, length-drop}
use Rattle.std.specs.List.{copy_within}

pub moved_front : (from to : ℕ) (buffer moved : List ℕ) → from ≤ to → to ≤ length buffer → moved ≡ copy_within buffer from to 0 → take (to - from) moved ≡ drop from (take to buffer)
moved_front from to buffer moved order within is =
    let n = to - from in
    let long : n ≤ length (drop from buffer) = omega (arith, order, within, length-drop from buffer) in
    let back : from + n ≡ to = omega (arith, order) in
    ap (take n) is ∙ take_at (take n (drop from buffer)) (drop (0 + n) buffer) n (length-take-le n (drop from buffer) long) ∙ sym (drop-take from n buffer) ∙ ap (λ (m : ℕ). drop from (take m buffer)) back
