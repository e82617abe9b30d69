use Rattle.std.proofs.Common.{◌≡◌, ◌∙◌, ◌||◌, Bool, true, false, refl}
use Rattle.schema_levels.specs.Below.{collect_rules, seen}
use Rattle.schema_levels.proofs.Finding.{get_is}
use Rattle.schema_levels.proofs.Skips.{begins, steps}
use Rattle.schema_levels.proofs.below.collect.Goals as goal

neither : (a b : Bool) → (a || b) ≡ false → (a ≡ false) × (b ≡ false)
neither false b e = (refl, e)
neither true b e = absurd cc

pub loop-number-init : goal.loop-number-init
loop-number-init c = (begins (λ n x now. collect_rules x (seen c.args.spot) x.rules.items now) c.args.asked.now c.args.nodes.now c.next-number.result c.args.found.now c.next-number.ensures.none, λ _. refl)

pub loop-number-preserved : goal.loop-number-preserved
loop-number-preserved c = (
  steps (λ n x now. collect_rules x (seen c.args.spot) x.rules.items now) c.args.asked.now c.args.nodes.now c.loop-number.number c.next-number-in-loop-number.result c.index-nodes-number.result c.loop-number.found c.collect_one-asks.new.found _
      c.loop-number-test.true c.index-nodes-number.is c.collect_one-asks.ensures.found c.next-number-in-loop-number.ensures.at_least c.next-number-in-loop-number.ensures.none c.loop-number.invariant.0,
  λ e. (let both = neither c.loop-number.asks c.collect_one-asks.result e in c.collect_one-asks.ensures.none both.1 ∙ c.loop-number.invariant.1 both.0),
)

pub collect_one-asks-requires : goal.collect_one-asks-requires
collect_one-asks-requires c = λ on. c.requires.known c.loop-number.number c.index-nodes-number.result (get_is c.args.nodes.now c.loop-number.number c.index-nodes-number.result c.loop-number-test.true c.index-nodes-number.is) on
