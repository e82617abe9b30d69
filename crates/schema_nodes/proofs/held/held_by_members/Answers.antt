use Rattle.std.proofs.Common.{string_bytes, ap, subst, inl, inr, ⊎_elim}
use Rattle.doc_tree.specs.TreeView.{view, members_view}
use Rattle.schema_rules.specs.Keywords.{keyword_of, shape_of}
use Rattle.schema_nodes.specs.Holding.{AddsHeld}
use Rattle.schema_nodes.proofs.Holding.{holding_on, held_all}
use Rattle.schema_nodes.proofs.held.held_by_members.Goals as goal

pub loop-name-preserved : goal.loop-name-preserved
loop-name-preserved c =
    let s = string_bytes c.in-Some.name.now in
    let v = view c.in-Some.value.now in
    let old = c.loop-name.all.items in
    let new = c.in_ok-all.all.items in
    let by_row : AddsHeld (shape_of (keyword_of c.as_str.result.now)) c.as_str.result.now v c.in-Some.row.now.items old new
    = subst (λ w. AddsHeld (shape_of (keyword_of c.as_str.result.now)) c.as_str.result.now v w old new) c.as_slice.ensures.value c.in_ok-all.ensures in
    let added : AddsHeld (shape_of (keyword_of s)) s v c.in-Some.row.now.items old new = subst (λ k. AddsHeld (shape_of (keyword_of k)) k v c.in-Some.row.now.items old new) c.as_str.ensures.value by_row in
    holding_on (members_view c.args.members.now.entries) c.args.rows.now (members_view c.loop-name.name-iterator.a) (members_view c.next.new.self.a) c.loop-name.name-iterator.b.rest.now c.next.new.self.b.rest.now
    s v c.in-Some.row.now old new c.loop-name.invariant (ap members_view c.in-Some.ensures.steps.0) c.in-Some.ensures.steps.1 added

pub returns : goal.returns
returns c = held_all (members_view c.args.members.now.entries) c.args.rows.now (members_view c.loop-name.name-iterator.a) c.loop-name.name-iterator.b.rest.now c.loop-name.all.items c.loop-name.invariant
    (⊎_elim (λ x. inl (ap members_view x.1.0)) (λ x. inr x.1.0) c.in-None.ensures.steps)
