use Rattle.std.proofs.Common.{◌<◌, ◌-◌, ◌^◌, slice_index_or, arith}
use Rattle.schema_levels.proofs.Words.{last_of_word}
use Rattle.schema_levels.proofs.bits.last_word.Goals as goal

pub returns-then-words-at-ne0 : goal.returns-then-words-at-ne0
returns-then-words-at-ne0 c =
    let lt : c.loop-at.at - 1 < c.args.upto = omega (arith, c.loop-at-test.true, c.loop-at.auto.at) in
    let low : slice_index_or c.args.words.now (c.loop-at.at - 1) 0 < 2 ^ 64 = search in
    last_of_word c.args.words.now (c.loop-at.at - 1) c.args.upto lt low (let ne = c.if-words-at-ne0.true in omega arith) (λ j le less. c.loop-at.invariant j (let t = c.loop-at-test.true in omega (arith, le, t)) less)
