use Rattle.std.proofs.Common.{◌∙◌, map, replicate, true, ap, arith}
use Rattle.doc_tree.specs.Place.{place_of}
use Rattle.doc_tree.specs.TreeView.{view}
use Rattle.schema_levels.specs.Bits.{put}
use Rattle.schema_changes.proofs.Alone.{told_along}
use Rattle.schema_changes.proofs.run.passes_within.Goals as goal

pub returns-clause-value : goal.returns-clause-value
returns-clause-value c = λ known table.
    let is = c.write.ensures ∙ ap (λ bs. put bs c.args.number true) (c.fill.ensures ∙ ap (λ n. replicate n 0) c.split_at_mut-asked.ensures.front_len) in
    told_along c.args.words c.args.number (omega (arith, c.requires.number, c.requires.room)) known c.args.shifts c.args.nodes.now c.write.new.words (map place_of c.args.path.now) (view c.args.value.now) c.along.result is
    (λ e. c.along.ensures.sound e known table) (λ all. c.along.ensures.complete known table all)
