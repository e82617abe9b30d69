use Rattle.std.proofs.Common.{◌∙◌, ◌++◌, [], Option, append-nil, ap, arith, length, refl, subst, sym}
use Rattle.frame_search.specs.Places.{IsFirstFrom, logged_in, place_in}
use Rattle.frame_search.specs.declared.search.Found.{Found}
use Rattle.store_salvage.specs.Gathering.{placed_of}
use Rattle.store_salvage.proofs.Gathers.{carried, carries_more, carries_none, lost_none, none_past, of_found, stands_within, takes_some}
use Rattle.store_salvage.proofs.taking.gather.Goals as goal

pub loop-from-init : goal.loop-from-init
loop-from-init c = record { gathers = carries_none c.args.source c.args.bytes.now c.args.parts.now c.args.machine c.new.result.items c.new.ensures.items; good = c.know.ensures }

pub loop-from-smaller : goal.loop-from-smaller
loop-from-smaller c =
    let f = c.in-Some.found in
    let is = of_found _ c.in_ok-found.field-0 f c.in-Some.is c.in_ok-found.ensures.found in
    let after = is.0 in
    let within = stands_within c.args.source.version c.args.bytes.now f.at f.len (logged_in f) is.1 in
    let some = takes_some c.args.source.version c.args.bytes.now f.at f.len (logged_in f) is.1 in
    omega (arith, after, within, some)

pub loop-from-preserved : goal.loop-from-preserved
loop-from-preserved c =
    let bytes = c.args.bytes.now in
    let source = c.args.source in
    let from = c.loop-from.from in
    let f = c.in-Some.found in
    let is = of_found _ c.in_ok-found.field-0 f c.in-Some.is c.in_ok-found.ensures.found in
    let first = subst (λ (o : Option Found). IsFirstFrom source.version bytes from (place_in o (length bytes))) c.in-Some.is c.in_ok-found.ensures.first in
    let filled = c.in_ok-filled.ensures in
    let goes = c.in_ok-gathered.ensures.goes in
    record {
      gathers = carries_more source bytes c.args.parts.now c.args.machine from c.loop-from.gathered c.in_ok-lost.lost c.in_ok-filled.filled c.in_ok-gathered.gathered (placed_of f) goes.0 filled.adds.0
          c.loop-from.invariant.gathers c.in_ok-lost.ensures.same.0 c.in_ok-lost.ensures.same.1 c.in_ok-lost.ensures.lost filled.adds.1 filled.doubts goes.1 goes.2 goes.3 is.0 is.1 first;
      good = c.in_ok-gathered.ensures.good;
    }

pub returns-in_default-clause-gathers : goal.returns-in_default-clause-gathers
returns-in_default-clause-gathers c =
    let bytes = c.args.bytes.now in
    let source = c.args.source in
    let from = c.loop-from.from in
    let first = subst (λ (o : Option Found). IsFirstFrom source.version bytes from (place_in o (length bytes))) c.in_default.is c.in_ok-found.ensures.first in
    carried source bytes c.args.parts.now c.args.machine from c.loop-from.gathered c.in_ok-rest.rest c.fill.result c.loop-from.invariant.gathers first
    c.in_ok-rest.ensures.same.0 c.in_ok-rest.ensures.same.1 c.in_ok-rest.ensures.lost c.fill.ensures.adds c.fill.ensures.doubts

pub returns-clause-gathers : goal.returns-clause-gathers
returns-clause-gathers c =
    let bytes = c.args.bytes.now in
    let source = c.args.source in
    let from = c.loop-from.from in
    let past = c.loop-from-test.false in
    let before = c.loop-from.gathered in
    carried source bytes c.args.parts.now c.args.machine from before before c.fill-2.result c.loop-from.invariant.gathers (none_past source.version bytes from (omega (arith, past)))
    refl refl (sym (ap (λ l. before.doubts.items ++ l) (lost_none from (length bytes) (omega (arith, past))) ∙ append-nil before.doubts.items)) c.fill-2.ensures.adds c.fill-2.ensures.doubts
