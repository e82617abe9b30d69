use Rattle.std.proofs.Common.{◌∙◌, ◌+◌, ◌/◌, map, length, refl, subst, true, false, arith}
use Rattle.doc_tree.specs.Place.{place_of}
use Rattle.doc_tree.specs.TreeView.{view}
use Rattle.schema_levels.proofs.Searching.{still}
use Rattle.schema_changes.specs.Again.{HoldsAlong, only}
use Rattle.schema_changes.proofs.Alone.{all_left, one_left, places_of, told_after}
use Rattle.schema_changes.proofs.run.passes_after.Goals as goal

pub holds_along-requires-clause-searched : goal.holds_along-requires-clause-searched
holds_along-requires-clause-searched c = still _ _ c.args.nodes.now c.loop-path.invariant.1 c.requires.searched

pub loop-path-init : goal.loop-path-init
loop-path-init c = (λ known table h. h, refl)

pub loop-path-preserved : goal.loop-path-preserved
loop-path-preserved c = (
  λ known table. one_left known c.args.nodes.now (only ((length c.args.nodes.now + 63) / 64) c.args.number) c.loop-path.path-index c.args.paths.now c.path-item.result (view c.args.value.now) c.loop-path-test.true c.path-item.is
      (subst (λ ss. HoldsAlong known c.args.nodes.now (only ((length c.args.nodes.now + 63) / 64) c.args.number) (map place_of ss) (view c.args.value.now)) c.deref.ensures.value ((c.if-not-holds_along.ensures.value known table).holds refl)) (c.loop-path.invariant.0 known table),
  c.holds_along.ensures.same ∙ c.loop-path.invariant.1,
)

pub returns-then-not-holds_along-clause-value : goal.returns-then-not-holds_along-clause-value
returns-then-not-holds_along-clause-value c = λ known table.
    let words = (length c.args.nodes.now + 63) / 64 in
    told_after words c.args.number (omega (arith, c.requires.number)) known c.args.nodes.now c.requires.order table (omega arith) (places_of c.args.paths.now) (view c.args.value.now) false (λ e. absurd cc) (λ e. (c.if-not-holds_along.ensures.value known table).all e)

pub returns-clause-value : goal.returns-clause-value
returns-clause-value c = λ known table.
    let words = (length c.args.nodes.now + 63) / 64 in
    told_after words c.args.number (omega (arith, c.requires.number)) known c.args.nodes.now c.requires.order table (omega arith) (places_of c.args.paths.now) (view c.args.value.now) true
    (λ e. all_left known c.args.nodes.now (only words c.args.number) c.loop-path.path-index c.args.paths.now (view c.args.value.now) (omega (arith, c.loop-path-test.false)) (c.loop-path.invariant.0 known table)) (λ e. refl)
