use Rattle.doc_tree.specs.TreeView.{view}
use Rattle.doc_edits.specs.Change.{tokens_of}
use Rattle.doc_edits.proofs.Rooms.{spare_here}
use Rattle.doc_edits.proofs.Tokens.{no_tokens}
use Rattle.doc_edits.proofs.spare.+spare_at.Goals as goal

pub returns-in_default : goal.returns-in_default
returns-in_default t c = spare_here c.spare_in.result c.args.token.now (tokens_of c.args.rest.now) (view c.args.tree.now) (no_tokens c.args.rest.now c.in_default.len_below) c.spare_in.ensures
