use Rattle.std.proofs.Common.{refl, sym, ap, ◌∙◌, ◌-◌, ◌<◌, get_or, length, subst}
use Rattle.change_history.specs.History.{newest}
use Rattle.change_history.proofs.After.{newest-last}
use Rattle.change_history.proofs.history.History.newest.Goals as goal

pub returns-in-Some-clause-value : goal.returns-in-Some-clause-value
returns-in-Some-clause-value c =
    let q = c.self.inside.told in
    let here : 0 < q.len = c.in-Some.ensures.variant.0 refl in
    let some : 0 < length q.items = subst (λ n. 0 < n) q.ok.0 here in
    let told = c.in-Some.told.now in
    ap (λ t. t.last) (c.told.view_is ∙ c.in-Some.ensures.lookup)
    ∙ ap (λ n. (get_or q.items (n - 1) told).last) q.ok.0
    ∙ sym (newest-last c.self.inside.floor q.items told some)
    ∙ ap (λ r. newest r.history.floor r.history.told) c.self.view_is
