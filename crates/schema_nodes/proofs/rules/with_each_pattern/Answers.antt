use Rattle.std.proofs.Common.{map, rules, ap, subst, inl, inr, ⊎_elim, string_bytes}
use Rattle.doc_tree.specs.TreeView.{view, members_view}
use Rattle.schema_nodes.specs.Fits.{IsNamePattern}
use Rattle.schema_nodes.proofs.Patterning.{begins, goes_on, ends}
use Rattle.schema_nodes.proofs.rules.with_each_pattern.Goals as goal

pub loop-name-init : goal.loop-name-init
loop-name-init c = search (rules, begins)

pub loop-name-preserved : goal.loop-name-preserved
loop-name-preserved c =
    let ps = map (λ s. s.now) c.args.patterns.now in
    goes_on ps c.args.rules.items (members_view c.args.named.now.entries) c.args.row.now _ (members_view c.next.new.self.a) _ c.next.new.self.b.rest.now c.loop-name.rules.items _ (string_bytes c.in-Some.name.now) (view c.in-Some.field-0-0-1.now) c.in-Some.number.now c.in_ok-pattern.pattern c.loop-name.invariant
    (ap members_view c.in-Some.ensures.steps.0) c.in-Some.ensures.steps.1 (subst (λ k. IsNamePattern ps k c.in_ok-pattern.pattern) c.as_str.ensures.value c.in_ok-pattern.ensures) c.in_ok-push.ensures.items

pub returns : goal.returns
returns c = ends (map (λ s. s.now) c.args.patterns.now) c.args.rules.items (members_view c.args.named.now.entries) c.args.row.now _ _ c.loop-name.rules.items c.loop-name.invariant (⊎_elim (λ x. inl (ap members_view x.1.0)) (λ x. inr x.1.0) c.in-None.ensures.steps)
