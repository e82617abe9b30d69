use Rattle.std.proofs.Common.{◌∙◌, ◌++◌, ap, codes, decimal, sym}
use Rattle.damaged_files.specs.Damages.{head_for, word_for}
use Rattle.damaged_files.proofs.Listed.{in_order_six}
use Rattle.damaged_files.proofs.report.with_count.Goals as goal

pub returns-in-Ok : goal.returns-in-Ok
returns-in-Ok c =
    let text = c.args.text.items in
    let head = head_for c.args.checksums in
    let begin = codes "\"damages\":" in
    let count = decimal c.args.count in
    let mid = codes ",\"ok\":" in
    let word = word_for c.args.well in
    let end = codes "}\n" in
    c.in-Ok.ensures.bytes ∙ ap (λ h. text ++ (h ++ (begin ++ (count ++ (mid ++ (c.word_for-word.result.now ++ end)))))) c.head_for-head.ensures
    ∙ ap (λ w. text ++ (head ++ (begin ++ (count ++ (mid ++ (w ++ end)))))) c.word_for-word.ensures ∙ ap (λ l. text ++ l) (sym (in_order_six head begin count mid word end))
