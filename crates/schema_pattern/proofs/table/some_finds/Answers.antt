use Rattle.std.proofs.Common.{◌≡◌, ◌<◌, length, ap, ◌∙◌, sym, slice_set, arith}
use Rattle.std.proofs.Math.Seq.{map-set_same}
use Rattle.std.proofs.Math.ListN.{get_or-map}
use Rattle.std.proofs.lemmas.List.{length-map, length-set}
use Rattle.schema_pattern.specs.declared.pattern.Search.{Search}
use Rattle.schema_pattern.specs.Patterns.{pattern_in, is_found}
use Rattle.schema_pattern.specs.Tables.{sources}
use Rattle.schema_pattern.proofs.Counting.{next_found}
use Rattle.schema_pattern.proofs.table.some_finds.Goals as goal

-- src/table.rt:29:5
pub loop-number-preserved : goal.loop-number-preserved
loop-number-preserved c =
    let l = c.loop-number in
    let text_of = λ (s : Search). s.source.now in
    let same : sources (slice_set l.searches l.number c.finds-here.new.self) ≡ sources l.searches = map-set_same text_of l.searches l.number _ c.index-searches-number.result (ap (λ s. s.now) c.finds-here.ensures.same) in
    let below : l.number < length l.searches = c.loop-number-test.true in (
      grind (arith, length-set),
      same ∙ l.invariant.1,
      rw same (next_found (sources l.searches) l.number (text_of c.index-searches-number.result) _ l.found c.finds-here.result _
          (rw (length-map l.searches text_of) below)
          (c.finds-here.ensures.value ∙ ap (λ x. is_found (pattern_in x) c.args.text.now) (sym (get_or-map text_of l.searches l.number c.index-searches-number.result)))
          l.invariant.2),
    )
