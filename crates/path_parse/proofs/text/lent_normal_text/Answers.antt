use Rattle.std.proofs.Common.{map, string_bytes, sym, ◌∙◌}
use Rattle.path_grammar.specs.Lent.{lent_place}
use Rattle.path_parse.specs.NormalPath.{normal_step}
use Rattle.path_parse.proofs.Written.{item_more, no_item_more, path_written}
use Rattle.path_parse.proofs.text.lent_normal_text.Goals as goal

pub loop-step-preserved : goal.loop-step-preserved
loop-step-preserved c =
    item_more normal_step lent_place (string_bytes c.loop-step.text) (string_bytes c.in_ok-text.text) c.args.steps.now c.loop-step.step-index c.step-item.result c.loop-step-test.true c.step-item.is c.in_ok-text.ensures
    ∙ c.loop-step.invariant

pub returns : goal.returns
returns c =
    path_written (map lent_place c.args.steps.now) c.loop-step.text (string_bytes c.push.new.self) (string_bytes c.new-text.result)
    (sym (no_item_more normal_step lent_place (string_bytes c.loop-step.text) c.args.steps.now c.loop-step.step-index c.loop-step-test.false) ∙ c.loop-step.invariant)
    c.in_ok-push.ensures.bytes c.new-text.ensures.bytes
