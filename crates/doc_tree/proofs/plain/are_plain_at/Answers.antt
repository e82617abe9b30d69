use Rattle.json.proofs.Printed.Plain.{plain_from_lanes}
use Rattle.doc_tree.proofs.plain.are_plain_at.Goals as goal

pub returns : goal.returns
returns g c = plain_from_lanes c.args.text.now c.args.at g.row.N c.requires.1 c.requires.0 c.type_inv.text
