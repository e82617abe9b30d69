use Rattle.std.proofs.Common.{arith}
use Rattle.doc_tree.specs.TreeView.{view}
use Rattle.path_select.specs.Indexed.{at_number}
use Rattle.path_select.specs.Paths.{seen}
use Rattle.path_select.proofs.Places.{numbered_place, place_within}
use Rattle.path_select.proofs.numbers.number_at.Goals as goal

pub returns-then-place-span : goal.returns-then-place-span
returns-then-place-span c k is =
    let x = c.args.index.now in
    numbered_place (view x.root.now) (seen x.walk) c.span_of-span.result (at_number x c.args.number) c.args.place k c.span_of-span.ensures is

pub returns-else-place-span : goal.returns-else-place-span
returns-else-place-span c k is =
    let x = c.args.index.now in
    absurd (let w = place_within (seen x.walk) c.span_of-span.result (at_number x c.args.number) c.args.place k c.span_of-span.ensures is in let f = c.if-place-span.false in omega (arith, w, f))
