use Rattle.std.proofs.Common.{◌≡◌, ◌∙◌, true, false, refl, sym, ap, arith}
use Rattle.doc_tree.specs.TreeView.{view}
use Rattle.schema_levels.specs.Bits.{bit}
use Rattle.schema_levels.proofs.Searching.{of_node, still}
use Rattle.schema_levels.proofs.Tables.{get_within, within_get}
use Rattle.schema_pattern.specs.Tables.{sources}
use Rattle.schema_changes.specs.Again.{node_again}
use Rattle.schema_changes.proofs.Holding.{node_is, upto_next}
use Rattle.schema_changes.proofs.again.each_holds.Goals.{else-bit-via-then-bit+else-not-node_holds, else-bit-via-else-bit}
use Rattle.schema_changes.proofs.again.each_holds.Goals as goal

pub node_holds-requires : goal.node_holds-requires
node_holds-requires c = of_node _ c.args.nodes.now c.loop-number.number c.index-nodes-number.result c.loop-number-test.true c.index-nodes-number.is (still _ _ c.args.nodes.now c.loop-number.invariant.1 c.requires.searched)

pub returns-then-not-node_holds-clause-value : goal.returns-then-not-node_holds-clause-value
returns-then-not-node_holds-clause-value c =
    let n = c.loop-number.number in
    let x = c.index-nodes-number.result in
    let get = node_is c.args.nodes.now n x c.loop-number-test.true c.index-nodes-number.is in
    record { yes = λ e. absurd cc; all = λ h. c.if-not-node_holds.ensures.value ∙ h n x get (sym c.if-bit.ensures) }

pub loop-number-preserved : goal.loop-number-preserved
loop-number-preserved c =
    let nodes = c.args.nodes.now in
    let asked = c.args.asked.now in
    let n = c.loop-number.number in
    let holds = node_again (bit c.args.passed.now) c.args.in_list (view c.args.value.now) in
    let inv = c.loop-number.invariant in
    let none = c.next-number-in-loop-number.ensures.none in
    elim c.else-bit.branch [
      | else-bit-via-then-bit+else-not-node_holds w ↦ (
        upto_next nodes asked holds n c.next-number-in-loop-number.result w.index-nodes-number.result (node_is nodes n w.index-nodes-number.result c.loop-number-test.true w.index-nodes-number.is) inv.0 (λ _. sym w.if-not-node_holds.ensures.value) none,
        ap sources w.searches-is ∙ w.node_holds.ensures.same ∙ inv.1,
      )
      | else-bit-via-else-bit w ↦ (
        (let r = get_within nodes n c.loop-number-test.true in upto_next nodes asked holds n c.next-number-in-loop-number.result r.0 r.1 inv.0 (λ on. (let no : false ≡ true = w.if-bit.ensures ∙ on in absurd cc)) none),
        ap sources w.searches-is ∙ inv.1,
      )
    ]

pub returns-clause-value : goal.returns-clause-value
returns-clause-value c = record { yes = λ _ i x at on. (let lt = within_get c.args.nodes.now i x at in c.loop-number.invariant.0 i x (omega (arith, lt, c.loop-number-test.false)) at on); all = λ _. refl }
