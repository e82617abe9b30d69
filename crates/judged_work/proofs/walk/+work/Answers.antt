use Rattle.std.proofs.Common.{◌≡◌, ◌<◌, ◌+◌, ◌∙◌, List, ℕ, refl, ap, subst, arith, length, replicate}
use Rattle.std.proofs.lemmas.List.{length-replicate}
use Rattle.std.specs.Prelude.{IfOk, IfErr}
use Rattle.doc_tree.specs.TreeView.{view}
use Rattle.schema_levels.specs.Below.{seen}
use Rattle.schema_levels.proofs.Searching.{still}
use Rattle.judged_work.specs.Work.{work}
use Rattle.judged_work.specs.declared.stop.Stop.TheVariants.{Limit}
use Rattle.judged_work.proofs.Nothing.{begun, idle}
use Rattle.judged_work.proofs.Skipping.{shift}
use Rattle.judged_work.proofs.Steps.{element_adds, elements_past}
use Rattle.judged_work.proofs.walk.+work.Goals as goal

pub on_child-returns-then-not-collect-clause-rest : goal.on_child-returns-then-not-collect-clause-rest
on_child-returns-then-not-collect-clause-rest t c =
    let none = idle c.args.nodes.now c.args.asked.now (seen c.args.spot) (view c.args.child.now) c.args.below.now c.collect.new.found c.requires.empty c.collect.ensures.found (c.if-not-collect.ensures.none refl) in
    omega (arith, none)

pub on_child-returns-then-not-collect-clause-empty : goal.on_child-returns-then-not-collect-clause-empty
on_child-returns-then-not-collect-clause-empty t c = c.if-not-collect.ensures.none refl ∙ c.requires.empty

pub on_child-returns-clause-rest : goal.on_child-returns-clause-rest
on_child-returns-clause-rest t c =
    subst (λ (set : List ℕ). IfOk c.spend_work-outcome.result (λ rest. rest + work c.args.nodes.now set (view c.args.child.now) ≡ c.args.before))
    (begun c.args.nodes.now c.args.asked.now (seen c.args.spot) c.args.below.now c.collect.new.found c.requires.empty c.collect.ensures.found) c.spend_work-outcome.ensures.rest

pub on_child-returns-clause-more : goal.on_child-returns-clause-more
on_child-returns-clause-more t c =
    subst (λ (set : List ℕ). IfErr c.spend_work-outcome.result (λ e. e ≡ Limit → c.args.before < work c.args.nodes.now set (view c.args.child.now)))
    (begun c.args.nodes.now c.args.asked.now (seen c.args.spot) c.args.below.now c.collect.new.found c.requires.empty c.collect.ensures.found) c.spend_work-outcome.ensures.more

pub on_child-returns-clause-empty : goal.on_child-returns-clause-empty
on_child-returns-clause-empty t c =
    c.fill.ensures ∙ ap (λ n. replicate n 0) (c.spend_work-outcome.auto.asked ∙ c.collect.auto.found ∙ ap length c.requires.empty ∙ length-replicate (length c.args.asked.now) 0)

pub on_each_element-loop-index-preserved : goal.on_each_element-loop-index-preserved
on_each_element-loop-index-preserved t c =
    let adds = element_adds c.args.nodes.now c.args.asked.now c.deref-item-items.result.now c.loop-index.index c.item-item.result c.loop-index-test.true c.item-item.is in
    (c.on_child.ensures.empty, shift _ _ _ _ _ _ _ c.loop-index.invariant.1 adds c.in_ok-left.ensures.rest, still _ _ c.args.nodes.now c.on_child.ensures.same c.loop-index.invariant.2, c.on_child.ensures.same ∙ c.loop-index.invariant.3)

pub on_each_element-returns-clause-rest : goal.on_each_element-returns-clause-rest
on_each_element-returns-clause-rest t c =
    let past = elements_past c.args.nodes.now c.args.asked.now c.deref-item-items.result.now c.loop-index.index (omega (arith, c.loop-index-test.false)) in
    omega (arith, past, c.loop-index.invariant.1)
