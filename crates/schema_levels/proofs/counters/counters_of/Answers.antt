use Rattle.std.proofs.Common.{sym, ap, subst, length, arith}
use Rattle.schema_levels.specs.Counters.{EachCounted, HaveCounters, wanted}
use Rattle.schema_levels.proofs.Counting.{drop_all}
use Rattle.schema_levels.proofs.Giving.{kept, nodes_go, wanted_in_left}
use Rattle.schema_levels.proofs.counters.counters_of.Goals as goal

pub loop-node-init : goal.loop-node-init
loop-node-init c = ((λ cs k h. h), (let none = ap length c.new-2.ensures.items in omega (arith, none)))

pub loop-node-preserved : goal.loop-node-preserved
loop-node-preserved c = (
  nodes_go c.loop-node.counters c.in_ok-counters.counters c.args.nodes.now c.args.nodes.now c.loop-node.node-index c.node-item.result c.loop-node-test.true c.node-item.is c.loop-node.invariant.0
      c.in_ok-counters.ensures.given.0 (subst (HaveCounters c.in_ok-counters.counters) c.deref.ensures.value c.in_ok-counters.ensures.given.1),
  (let left = wanted_in_left c.args.nodes.now c.loop-node.node-index c.node-item.result c.loop-node-test.true c.node-item.is in
      let few = ap wanted c.deref.ensures.value in
      omega (arith, left, few, c.loop-node.invariant.1, c.in_ok-counters.ensures.few)),
)

pub returns : goal.returns
returns c = record {
  each = c.loop-node.invariant.0 c.loop-node.counters (kept c.loop-node.counters) (subst (λ l. EachCounted l c.loop-node.counters) (sym (drop_all c.args.nodes.now c.loop-node.node-index (omega (arith, c.loop-node-test.false)))) tt);
  few = omega (arith, c.loop-node.invariant.1, c.requires);
}
