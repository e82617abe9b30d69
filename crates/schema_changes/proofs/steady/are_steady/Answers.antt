use Rattle.std.proofs.Common.{◌≡◌, ◌∙◌, ℕ, true, false, sym, arith}
use Rattle.schema_levels.proofs.Tables.{get_within, within_get}
use Rattle.schema_levels.specs.declared.node.Node.{Node}
use Rattle.schema_changes.specs.Again.{all_steady}
use Rattle.schema_changes.proofs.Holding.{node_is, upto_next}
use Rattle.schema_changes.proofs.steady.are_steady.Goals.{else-bit-via-then-bit+else-not-all_steady, else-bit-via-else-bit}
use Rattle.schema_changes.proofs.steady.are_steady.Goals as goal

pub loop-number-preserved : goal.loop-number-preserved
loop-number-preserved c =
    let nodes = c.args.nodes.now in
    let asked = c.args.asked.now in
    let n = c.loop-number.number in
    let holds = λ (i : ℕ) (x : Node). all_steady c.args.index x x.rules.items in
    let none = c.next-number-in-loop-number.ensures.none in
    elim c.else-bit.branch [
      | else-bit-via-then-bit+else-not-all_steady w ↦
          upto_next nodes asked holds n c.next-number-in-loop-number.result w.index-nodes-number.result (node_is nodes n w.index-nodes-number.result c.loop-number-test.true w.index-nodes-number.is) c.loop-number.invariant (λ _. sym w.if-not-all_steady.ensures) none
      | else-bit-via-else-bit w ↦
          (let r = get_within nodes n c.loop-number-test.true in upto_next nodes asked holds n c.next-number-in-loop-number.result r.0 r.1 c.loop-number.invariant (λ on. (let no : false ≡ true = w.if-bit.ensures ∙ on in absurd cc)) none)
    ]

pub returns : goal.returns
returns c = λ _ i x at on. (let lt = within_get c.args.nodes.now i x at in c.loop-number.invariant i x (omega (arith, lt, c.loop-number-test.false)) at on)
