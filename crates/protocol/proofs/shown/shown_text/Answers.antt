use Rattle.serde_json.proofs.FreeTexts.{text_of_value}
use Rattle.doc_tree.specs.Text.{data_of}
use Rattle.doc_tree.proofs.Events.{has_float-data_of}
use Rattle.protocol.proofs.shown.shown_text.Goals as goal

pub returns : goal.returns
returns g c = λ doc shows.
    let sent = c.in-Ok.ensures.events in
    text_of_value (data_of doc) sent.0 c.in-Ok.text.items (shows sent.0 sent.1) sent.2 (has_float-data_of doc)
