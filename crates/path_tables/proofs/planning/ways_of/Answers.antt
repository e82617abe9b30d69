use Rattle.std.proofs.Common.{◌∙◌, ap, sym, arith}
use Rattle.std.proofs.lemmas.List.{drop_all}
use Rattle.path_parse.specs.SyntaxView.{segments_view}
use Rattle.path_plans.specs.Planned.{plan}
use Rattle.path_tables.proofs.Made.{ways_onto-done}
use Rattle.path_tables.proofs.Made.{query_view-is}
use Rattle.path_tables.proofs.planning.ways_of.Goals as goal

pub returns : goal.returns
returns c root =
    let l = c.loop-segment in
    let is = query_view-is c.args.query.now ∙ ap segments_view (sym c.deref-segment-items.ensures.value) in
    let none = drop_all l.segment-index c.deref-segment-items.result.now (omega arith) in
    let all = l.invariant root in
    ap (plan root) is ∙ sym (rw none at all) ∙ ways_onto-done l.ways.items
