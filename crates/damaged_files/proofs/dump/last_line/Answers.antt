use Rattle.std.proofs.Common.{◌++◌, ◌∙◌, ap, codes}
use Rattle.serde_json.proofs.FreeTexts.{text_of_value}
use Rattle.doc_tree.specs.Text.{data_of}
use Rattle.doc_tree.proofs.Events.{has_float-data_of}
use Rattle.store_salvage.specs.Lines.{end_of_lines}
use Rattle.damaged_files.proofs.dump.last_line.Goals as goal

pub returns : goal.returns
returns c =
    let doc = end_of_lines c.args.lines c.args.seq in
    let sent = c.in-Ok.ensures.events in
    c.in_ok-push.ensures.items ∙ ap (λ l. l ++ codes "\n") (text_of_value (data_of doc) sent.0 c.in-Ok.line.items sent.1 sent.2 (has_float-data_of doc))
