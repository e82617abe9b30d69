use Rattle.std.proofs.Common.{◌≡◌, ◌∙◌, sym, string_bytes, ap, subst, inl, inr, ⊎_elim}
use Rattle.std.proofs.lemmas.Result.{IfOk-from_err}
use Rattle.doc_tree.specs.TreeView.{view, members_view}
use Rattle.schema_rules.specs.Keywords.{keyword_of}
use Rattle.schema_nodes.specs.Fits.{AreFitting, FitAll, known_near}
use Rattle.schema_nodes.proofs.Fitting.{Fitting, sorted, goes_on, ends}
use Rattle.schema_nodes.proofs.rules.rules_of.Goals as goal

pub returns-in_err-rules-clause-sorted : goal.returns-in_err-rules-clause-sorted
returns-in_err-rules-clause-sorted c = sorted c.args.members.now.entries c.iter.ensures.ordered

pub returns-clause-sorted : goal.returns-clause-sorted
returns-clause-sorted c = sorted c.args.members.now.entries c.iter.ensures.ordered

pub returns-clause-fits : goal.returns-clause-fits
returns-clause-fits c =
    let ms = members_view c.args.members.now.entries in
    subst (λ o. AreFitting c.args.targets.now c.args.ranks.now (view c.args.root.now) o ms c.args.rows.now c.loop-name.rules.items) c.near_in-near.ensures
    (ends c.args.targets.now c.args.ranks.now (view c.args.root.now) (known_near c.near_in-near.result) _ ms _ c.args.rows.now c.loop-name.rules.items c.loop-name.invariant (⊎_elim (λ x. inl (ap members_view x.1.0)) (λ x. inr x.1.0) c.in-None.ensures.steps))

pub returns-in_err-rules-clause-fits : goal.returns-in_err-rules-clause-fits
returns-in_err-rules-clause-fits c = IfOk-from_err c.from_residual.result _ c.from_residual.ensures.0

pub loop-name-preserved : goal.loop-name-preserved
loop-name-preserved c =
    let left = members_view c.next.new.self.a in
    let k : c.keyword_named.result ≡ keyword_of (string_bytes c.in-Some.name.now) = c.keyword_named.ensures ∙ ap keyword_of c.as_str.ensures.value in
    let near = known_near c.near_in-near.result in
    let f = c.in_ok-rules.ensures in
    subst (λ l. Fitting c.args.targets.now c.args.ranks.now (view c.args.root.now) near left c.next.new.self.b.rest.now (members_view c.args.members.now.entries) c.args.rows.now l) (sym f.1)
    (goes_on c.args.targets.now c.args.ranks.now (view c.args.root.now) near _ left (members_view c.args.members.now.entries) _ c.next.new.self.b.rest.now c.args.rows.now c.loop-name.rules.items (string_bytes c.in-Some.name.now) (view c.in-Some.value.now) c.in-Some.row.now f.0 c.loop-name.invariant
    (ap members_view c.in-Some.ensures.steps.0) c.in-Some.ensures.steps.1
    (subst (λ x. FitAll c.args.targets.now c.args.ranks.now (view c.args.root.now) near x (view c.in-Some.value.now) c.in-Some.row.now.items f.0) k
    (subst (λ l. FitAll c.args.targets.now c.args.ranks.now (view c.args.root.now) near c.keyword_named.result (view c.in-Some.value.now) l f.0) c.deref.ensures.value f.2)))
