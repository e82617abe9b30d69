use Rattle.std.proofs.Common.{◌≡◌, ◌∙◌, sym, ap, ℕ, List, true, flat_map, pos, int_lt, nat_abs, to_z, of_z, w64, rules}
use Rattle.std.proofs.lemmas.Int.{to_z-of_z}
use Rattle.std.proofs.lemmas.Result.{IfOk-weaker}
use Rattle.doc_tree.specs.TreeView.{view}
use Rattle.path_select.specs.Selectors.{item, item_count, slice_indexes}
use Rattle.path_select.specs.Slicing.{bound_down, downward, given_or}
use Rattle.path_select.specs.ChildView.{children_of}
use Rattle.path_select.proofs.Bounds.{slice_indexes-up, slice_indexes-down, slice_indexes-none}
use Rattle.path_select.proofs.select.sliced_by.Goals as goal

pub returns-then-step-gt0 : goal.returns-then-step-gt0
returns-then-step-gt0 c = grind (rules, slice_indexes-up)

pub returns-then-step-lt0 : goal.returns-then-step-lt0
returns-then-step-lt0 c =
    let n = item_count (view c.args.value.now) in
    let select = λ (is : List ℕ). flat_map (λ i. item i (view c.args.value.now)) is in
    let back : to_z w64 (of_z w64 c.args.step) ≡ c.args.step = to_z-of_z w64 c.args.step c.ranges.step in
    let down : int_lt c.args.step (pos 0) ≡ true = ap (λ z. int_lt z (pos 0)) (sym back) ∙ c.if-step-lt0.true in
    let step : c.unsigned_abs-then-step-lt0.result ≡ nat_abs c.args.step = c.unsigned_abs-then-step-lt0.ensures.value ∙ ap nat_abs back in
    let lower : c.bound_down_or-lower.result ≡ given_or (bound_down n) c.args.stop 0 = c.bound_down_or-lower.ensures ∙ ap (λ m. given_or (bound_down m) c.args.stop 0) c.item_count-count.ensures in
    let upper : c.bound_down_or-upper.result ≡ given_or (bound_down n) c.args.start n = c.bound_down_or-upper.ensures ∙ ap (λ m. given_or (bound_down m) c.args.start m) c.item_count-count.ensures in
    let same : downward c.unsigned_abs-then-step-lt0.result c.bound_down_or-lower.result c.bound_down_or-upper.result ≡ slice_indexes n c.args.start c.args.stop c.args.step =
    ap (λ k. downward k c.bound_down_or-lower.result c.bound_down_or-upper.result) step
    ∙ ap (λ l. downward (nat_abs c.args.step) l c.bound_down_or-upper.result) lower
    ∙ ap (downward (nat_abs c.args.step) (given_or (bound_down n) c.args.stop 0)) upper
    ∙ sym (slice_indexes-down n c.args.start c.args.stop c.args.step down) in
    IfOk-weaker c.downward.result
    (λ found. children_of found.items ≡ select (downward c.unsigned_abs-then-step-lt0.result c.bound_down_or-lower.result c.bound_down_or-upper.result))
    (λ found. children_of found.items ≡ select (slice_indexes n c.args.start c.args.stop c.args.step))
    (λ found e. e ∙ ap select same) c.downward.ensures

pub returns-else-step-lt0 : goal.returns-else-step-lt0
returns-else-step-lt0 c = grind (rules, slice_indexes-none)
