use Rattle.std.proofs.Common.{ℕ, List, [], ◌∷◌, ap, length, length-append, length-set, ◌∙◌, arith, set}
use Rattle.std.specs.Vec.{with_item}
use Rattle.schema_levels.specs.declared.counters.Counters.{Counters}
use Rattle.schema_levels.proofs.Giving.{counter_given, counter_more}
use Rattle.schema_levels.proofs.counters.with_counter.Goals as goal

pub returns-clause-given : goal.returns-clause-given
returns-clause-given c =
    let given : Counters = record { ranks = with_item c.args.before.ranks c.args.number (length c.as_slice.result.now); counted = c.push.new.self } in
    let ranks = ap (λ (l : List ℕ). set c.args.before.ranks.items c.args.number (length l)) c.as_slice.ensures.value in
    let counted = c.in_ok-push.ensures.items in (
      counter_more c.args.before given c.args.number c.requires ranks counted,
      (let same = ap length ranks ∙ length-set c.args.before.ranks.items c.args.number (length c.args.before.counted.items) in omega (arith, same, c.requires)),
      counter_given c.args.before given c.args.number c.requires ranks counted,
    )

pub returns-clause-few : goal.returns-clause-few
returns-clause-few c = let many = ap length c.in_ok-push.ensures.items in let both = length-append c.args.before.counted.items (c.args.number ∷ []) in omega (arith, many, both)
