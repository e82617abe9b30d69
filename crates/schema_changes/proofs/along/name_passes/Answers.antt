use Rattle.std.proofs.Common.{◌≡◌, ◌≤◌, ◌∙◌, sym, ap, length, arith}
use Rattle.doc_tree.specs.Doc.{name, text}
use Rattle.doc_tree.specs.Place.{place_of}
use Rattle.schema_levels.specs.Bits.{size}
use Rattle.schema_levels.specs.PlaceInValue.{member_name}
use Rattle.schema_levels.proofs.Folding.{none_in_clear}
use Rattle.schema_changes.proofs.Collecting.{from_set, named, to_set}
use Rattle.schema_changes.proofs.along.name_passes.Goals as goal

pub returns-in-Name-clause-value : goal.returns-in-Name-clause-value
returns-in-Name-clause-value c = λ known table.
    let nodes = c.args.nodes.now in
    let s = c.as_str.result.now in
    let len = c.fill.auto.words in
    let is : place_of c.args.step.now ≡ name s = ap place_of c.in-Name.is ∙ ap name (sym c.as_str.ensures.value) in
    let room : length nodes ≤ size c.fill.new.words = omega (arith, len, c.requires.below_len, c.requires.room) in
    let none = none_in_clear (length c.args.below.now) c.fill.new.words c.fill.ensures in
    named known nodes c.args.asked.now c.collect.new.found s (place_of c.args.step.now) c.all_pass.result is (c.all_pass.ensures.value known table)
    (from_set nodes c.requires.order known c.args.asked.now member_name c.fill.new.words c.collect.new.found room none c.collect.ensures (text s))
    (to_set nodes c.requires.order known c.args.asked.now member_name c.fill.new.words c.collect.new.found room none c.collect.ensures (text s))
