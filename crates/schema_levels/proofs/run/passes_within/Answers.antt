use Rattle.std.proofs.Common.{◌≡◌, ◌<◌, true, List, ℕ, length, ap, ◌∙◌, arith}
use Rattle.schema_levels.specs.Bits.{bit, size}
use Rattle.schema_levels.proofs.Marks.{bit_same}
use Rattle.schema_levels.proofs.run.passes_within.Goals as goal

pub returns-clause-value : goal.returns-clause-value
returns-clause-value c = λ known table.
    let clear : List ℕ = c.fill.new.words in
    let len : length clear ≡ c.args.words = c.fill.auto.words ∙ c.split_at_mut-asked.ensures.front_len in
    let within : c.args.number < size clear = omega (arith, len, c.requires.number, c.requires.room) in
    let on : bit c.write.new.words c.args.number ≡ true = ap (λ ws. bit ws c.args.number) c.write.ensures ∙ bit_same clear c.args.number true within in
    c.bit.ensures ∙ c.judge_instance.ensures.judged known table c.args.number c.requires.number on
