use Rattle.std.proofs.Common.{◌≡◌, ◌≤◌, ◌∙◌, map, refl, sym, ap, length, arith}
use Rattle.doc_tree.specs.Place.{place_of}
use Rattle.doc_tree.specs.TreeView.{view}
use Rattle.schema_levels.specs.Bits.{size}
use Rattle.schema_changes.specs.Again.{site_of}
use Rattle.schema_changes.proofs.Location.{child_complete, child_holds, collected, ends_here, found_same, found_some, from_closed, goes_on, no_places, step_again, step_below, to_closed, whole_holds}
use Rattle.schema_changes.proofs.along.+along.Goals as goal

pub along-returns-in-None-clause-sound : goal.along-returns-in-None-clause-sound
along-returns-in-None-clause-sound t c = λ e known table. ends_here c.args.shifts c.args.nodes.now known c.args.asked.now (map place_of c.args.path.now) (view c.args.value.now) (no_places c.args.path.now c.in-None.ensures.cases) ((c.all_pass.ensures.value known table).yes e)

pub along-returns-in-None-clause-complete : goal.along-returns-in-None-clause-complete
along-returns-in-None-clause-complete t c = λ known table all. (c.all_pass.ensures.value known table).all all

pub along-returns-then-all_hold-clause-sound : goal.along-returns-then-all_hold-clause-sound
along-returns-then-all_hold-clause-sound t c = λ e known table.
    goes_on c.args.shifts c.args.nodes.now known c.args.asked.now c.close.new.asked (place_of c.in-Some.step.now) (map place_of c.in-Some.rest.now) (map place_of c.args.path.now) (view c.args.value.now) c.close.ensures (ap (map place_of) c.in-Some.ensures.cases.0) (c.moves_others.ensures.steady c.if-moves_others.false) c.open_members.ensures
    ((c.all_hold.ensures.value known table).yes c.if-all_hold.true) (λ d at. c.child_passes.ensures.sound e known table d (c.child.ensures ∙ at))

pub along-returns-then-moves_others-clause-sound : goal.along-returns-then-moves_others-clause-sound
along-returns-then-moves_others-clause-sound t c = λ e known table.
    let nodes = c.args.nodes.now in
    let new = view c.args.value.now in
    let room : length nodes ≤ size c.args.asked.now = omega (arith, c.requires.room) in
    whole_holds c.args.shifts nodes known c.args.asked.now (place_of c.in-Some.step.now) (map place_of c.in-Some.rest.now) (map place_of c.args.path.now) new (c.moves_others.ensures.shifts c.if-moves_others.true) (c.moves_others.ensures.ends c.if-moves_others.true)
    (ap (map place_of) c.in-Some.ensures.cases.0) (from_closed nodes c.requires.order known table c.args.asked.now c.close.new.asked room c.close.ensures new ((c.all_pass-then-moves_others.ensures.value known table).yes e))

pub along-returns-then-moves_others-clause-complete : goal.along-returns-then-moves_others-clause-complete
along-returns-then-moves_others-clause-complete t c = λ known table all.
    let nodes = c.args.nodes.now in
    let new = view c.args.value.now in
    let room : length nodes ≤ size c.args.asked.now = omega (arith, c.requires.room) in
    (c.all_pass-then-moves_others.ensures.value known table).all (to_closed nodes c.requires.order known table c.args.asked.now c.close.new.asked room c.close.ensures new all)

pub along-returns-then-all_hold-clause-complete : goal.along-returns-then-all_hold-clause-complete
along-returns-then-all_hold-clause-complete t c = λ known table all.
    let nodes = c.args.nodes.now in
    let new = view c.args.value.now in
    let room : length nodes ≤ size c.args.asked.now = omega (arith, c.requires.room) in
    c.child_passes.ensures.complete known table (λ d at. step_below nodes c.requires.order known table c.args.asked.now c.close.new.asked room c.close.ensures new d (place_of c.in-Some.step.now) all (sym c.child.ensures ∙ at))

pub along-returns-else-all_hold-clause-complete : goal.along-returns-else-all_hold-clause-complete
along-returns-else-all_hold-clause-complete t c = λ known table all.
    let room : length c.args.nodes.now ≤ size c.args.asked.now = omega (arith, c.requires.room) in
    (c.all_hold.ensures.value known table).all (step_again c.args.nodes.now c.requires.order known table c.args.asked.now c.close.new.asked room c.close.ensures (view c.args.value.now) all)

pub child_passes-returns-then-not-name_passes-clause-complete : goal.child_passes-returns-then-not-name_passes-clause-complete
child_passes-returns-then-not-name_passes-clause-complete t c = λ known table all.
    sym c.if-not-name_passes.true ∙ (c.name_passes.ensures.value known table).all (all (view c.in-Some.value.now) (found_some c.args.found c.in-Some.value c.in-Some.is)).named

pub child_passes-returns-else-not-name_passes-clause-sound : goal.child_passes-returns-else-not-name_passes-clause-sound
child_passes-returns-else-not-name_passes-clause-sound t c = λ e known table d at.
    let nodes = c.args.nodes.now in
    let asked = c.args.asked.now in
    let len : length c.name_passes.new.below ≡ length asked = c.name_passes.auto.below ∙ c.requires.below_len in
    let is = collected nodes asked c.fill.new.words c.collect_at.new.found (length c.name_passes.new.below) (place_of c.args.step.now) (site_of (place_of c.args.step.now)) len c.fill.ensures refl c.collect_at.ensures.found in
    child_holds c.args.shifts nodes known asked c.collect_at.new.found (place_of c.args.step.now) (map place_of c.args.rest.now) (view c.in-Some.value.now) d is (found_same c.args.found c.in-Some.value d c.in-Some.is at)
    ((c.name_passes.ensures.value known table).yes c.if-not-name_passes.false) (c.along.ensures.sound e known table)

pub child_passes-returns-else-not-name_passes-clause-complete : goal.child_passes-returns-else-not-name_passes-clause-complete
child_passes-returns-else-not-name_passes-clause-complete t c = λ known table all.
    let nodes = c.args.nodes.now in
    let asked = c.args.asked.now in
    let room : length nodes ≤ size asked = omega (arith, c.requires.room) in
    let len : length c.name_passes.new.below ≡ length asked = c.name_passes.auto.below ∙ c.requires.below_len in
    let is = collected nodes asked c.fill.new.words c.collect_at.new.found (length c.name_passes.new.below) (place_of c.args.step.now) (site_of (place_of c.args.step.now)) len c.fill.ensures refl c.collect_at.ensures.found in
    c.along.ensures.complete known table (child_complete nodes c.requires.order known asked c.collect_at.new.found room (place_of c.args.step.now) (view c.in-Some.value.now) is (all (view c.in-Some.value.now) (found_some c.args.found c.in-Some.value c.in-Some.is)))
