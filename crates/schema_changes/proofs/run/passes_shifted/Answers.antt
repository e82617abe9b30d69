use Rattle.std.proofs.Common.{◌+◌, ◌/◌, map, length, arith}
use Rattle.doc_tree.specs.Place.{place_of}
use Rattle.doc_tree.specs.TreeView.{view}
use Rattle.schema_changes.proofs.Alone.{told_shifted}
use Rattle.schema_changes.proofs.run.passes_shifted.Goals as goal

pub returns-clause-value : goal.returns-clause-value
returns-clause-value c = λ known table.
    told_shifted ((length c.args.nodes.now + 63) / 64) c.args.number (omega (arith, c.requires.number)) known c.args.nodes.now c.requires.order table (omega arith) (map place_of c.args.path.now) (view c.args.value.now) c.holds_along.result (c.holds_along.ensures.value known table)
