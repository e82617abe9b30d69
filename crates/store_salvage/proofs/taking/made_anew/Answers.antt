use Rattle.std.proofs.Common.{arith}
use Rattle.frame_search.specs.Places.{logged_in}
use Rattle.store_salvage.proofs.Gathers.{of_found, stands_within, takes_some}
use Rattle.store_salvage.proofs.taking.made_anew.Goals as goal

pub loop-from-smaller : goal.loop-from-smaller
loop-from-smaller c =
    let f = c.in-Some.found in
    let is = of_found _ c.in_ok-found.field-0 f c.in-Some.is c.in_ok-found.ensures.found in
    let after = is.0 in
    let within = stands_within c.args.source.version c.args.bytes.now f.at f.len (logged_in f) is.1 in
    let some = takes_some c.args.source.version c.args.bytes.now f.at f.len (logged_in f) is.1 in
    omega (arith, after, within, some)
