use Rattle.std.proofs.Common.{ap}
use Rattle.doc_tree.specs.TreeView.{view}
use Rattle.doc_edits.specs.Meaning.{meaning}
use Rattle.patched_places.proofs.Moved.{by_move, parted_of}
use Rattle.patched_places.proofs.ends.ends_of_move.Goals as goal

pub returns-else-not-are_parted : goal.returns-else-not-are_parted
returns-else-not-are_parted c =
    by_move c.ends_at.result _ _ (meaning c.args.operation.now) (view c.args.made.now) (ap meaning c.in-Move.is) (parted_of _ _ _ _ (view c.args.made.now) c.tokens.ensures c.tokens-in-Move.ensures (c.are_parted.ensures c.if-not-are_parted.false)) c.ends_at.ensures
