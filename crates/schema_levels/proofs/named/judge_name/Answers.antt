use Rattle.std.proofs.Common.{◌≡◌, ◌≤◌, ◌-◌, ◌^◌, ◌∙◌, ap, length, refl, arith}
use Rattle.std.proofs.lemmas.List.{length-replicate}
use Rattle.doc_tree.specs.Doc.{text}
use Rattle.schema_levels.specs.Bits.{size}
use Rattle.schema_levels.proofs.Folding.{closed_keeps, judge_right, lowered, nothing_below}
use Rattle.schema_levels.proofs.named.judge_name.Goals as goal

pub returns-clause-judged : goal.returns-clause-judged
returns-clause-judged c =
    let asked_room : length c.args.nodes.now ≤ size c.args.asked.now = omega (arith, c.requires.room) in
    let passed_room : length c.args.nodes.now ≤ size c.args.passed.now = omega (arith, c.requires.room, c.requires.passed_len) in
    let filled_len : length c.fill.new.words ≡ length c.args.passed.now = ap length c.fill.ensures ∙ length-replicate (length c.args.passed.now) (2 ^ 64 - 1) in
    let filled_room : length c.args.nodes.now ≤ size c.fill.new.words = omega (arith, passed_room, filled_len) in
    judge_right c.args.nodes.now c.requires.order (text c.args.name.now) c.args.asked.now c.args.passed.now c.close.new.asked c.fill.new.words c.fill.new.words c.conclude.new.passed
    asked_room passed_room c.close.ensures c.fill.ensures (lowered c.args.nodes.now c.close.new.asked (text c.args.name.now) c.fill.new.words c.fill.new.words (λ known rs. refl) (nothing_below c.args.nodes.now c.close.new.asked c.fill.new.words)) filled_room c.conclude.ensures.concluded

pub returns-clause-kept : goal.returns-clause-kept
returns-clause-kept c =
    let asked_room : length c.args.nodes.now ≤ size c.args.asked.now = omega (arith, c.requires.room) in
    closed_keeps c.args.nodes.now c.args.asked.now c.close.new.asked asked_room c.close.ensures
