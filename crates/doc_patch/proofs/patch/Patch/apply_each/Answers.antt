use Rattle.std.proofs.Common.{◌+◌, ◌∙◌, arith}
use Rattle.doc_tree.specs.TreeView.{view}
use Rattle.doc_patch.specs.Held.{copied, siblings}
use Rattle.doc_patch.proofs.Counts.{counts_end, counts_next, patch_next}
use Rattle.doc_patch.proofs.patch.Patch.apply_each.Goals as goal

pub loop-index-preserved : goal.loop-index-preserved
loop-index-preserved c =
    let l = c.loop-index in
    let items = c.deref-operation-items.result.now in
    let o = c.operation-item.result in
    let d = view l.tree in
    let e = view c.apply.new.tree in
    let made = c.in-Ok.ensures.made in
    let one = c.in-Ok.ensures.counted in
    let less = c.loop-index-test.true in (
      patch_next l.index (l.index + 1) items o d e (omega arith) less c.operation-item.is made.0 ∙ l.invariant.0,
      made.1,
      made.2,
      c.in-Ok.ensures.sound,
      c.in-Ok.ensures.back ∙ l.invariant.4,
      c.in-Ok.ensures.whole,
      counts_next copied l.index (l.index + 1) items o d e l.log.copied c.apply.new.self.copied (omega arith) less c.operation-item.is made.0 one.copied_is ∙ l.invariant.6,
      counts_next siblings l.index (l.index + 1) items o d e l.log.siblings c.apply.new.self.siblings (omega arith) less c.operation-item.is made.0 one.siblings_are ∙ l.invariant.7,
    )

pub returns-clause-counted : goal.returns-clause-counted
returns-clause-counted c =
    let l = c.loop-index in
    let items = c.deref-operation-items.result.now in
    let all = c.args.self.now.operations.items in
    let same = c.deref-operation-items.ensures.value in
    let past = c.loop-index-test.false in
    record {
      copied_is = counts_end copied l.index items all (view c.args.tree.now) (view l.tree) c.args.log.now.copied l.log.copied past same l.invariant.6;
      siblings_are = counts_end siblings l.index items all (view c.args.tree.now) (view l.tree) c.args.log.now.siblings l.log.siblings past same l.invariant.7;
    }
