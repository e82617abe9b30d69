use Rattle.std.proofs.Common.{length, refl, arith}
use Rattle.std.proofs.lemmas.Option.{slice_get_read}
use Rattle.schema_nodes.proofs.Anchoring.{anchoring, anchoring_on, whole_list}
use Rattle.schema_nodes.proofs.anchors.numbers_of_anchors.Goals as goal

pub loop-number-init : goal.loop-number-init
loop-number-init c = anchoring c.args.entries.now c.new-anchors.result.entries c.new-anchors.ensures.empty

pub loop-number-preserved : goal.loop-number-preserved
loop-number-preserved c =
    let es = c.args.entries.now in
    let i = c.loop-number.number in
    anchoring_on es c.loop-number.anchors.entries c.in_ok-anchors.anchors.entries i c.index-entries-number.result c.loop-number.invariant (slice_get_read es (length es) i c.index-entries-number.result refl c.loop-number-test.true c.index-entries-number.is) c.in_ok-anchors.ensures

pub returns : goal.returns
returns c = whole_list c.args.entries.now c.loop-number.anchors.entries c.loop-number.number c.loop-number.invariant (omega (arith, c.loop-number-test.false))
