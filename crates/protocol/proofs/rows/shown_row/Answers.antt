use Rattle.protocol.specs.Rows.{row_object}
use Rattle.protocol.proofs.rows.shown_row.Goals as goal

pub returns : goal.returns
returns c = c.shown_text.ensures (row_object c.args.row.now) (λ log sent. sent)
