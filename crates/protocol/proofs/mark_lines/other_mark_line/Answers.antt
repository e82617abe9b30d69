use Rattle.std.proofs.Common.{codes, sym, ◌∙◌, option_map}
use Rattle.std.proofs.lemmas.Result.{IfOk-weaker}
use Rattle.doc_changes.specs.MarkView.{mark_in}
use Rattle.protocol.proofs.Texts.{line_of-other_mark_reply}
use Rattle.protocol.proofs.mark_lines.other_mark_line.Goals as goal

pub returns : goal.returns
returns c = IfOk-weaker c.told.result _ _ (λ line is. is ∙ sym (line_of-other_mark_reply (option_map (λ m. mark_in m.now) c.args.present))) c.told.ensures
