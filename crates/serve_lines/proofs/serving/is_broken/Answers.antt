use Rattle.std.proofs.Common.{ap, subst, ◌∙◌}
use Rattle.doc_changes.specs.State.{Good}
use Rattle.doc_store.specs.declared.status.Status.{Status}
use Rattle.store_commits.specs.Account.{IsStanding, StoreView}
use Rattle.serve_lines.proofs.serving.is_broken.Goals as goal

pub returns-clause-broken : goal.returns-clause-broken
returns-clause-broken g c = ap (λ (s : Status). s.broken) c.status.ensures.status ∙ ap (λ (v : StoreView g.row.D.Denot). v.account.broken) c.store.ensures

pub returns-clause-good : goal.returns-clause-good
returns-clause-good g c = subst (λ (v : StoreView g.row.D.Denot). Good v.account.state) c.store.ensures c.status.ensures.good

pub returns-clause-standing : goal.returns-clause-standing
returns-clause-standing g c = subst (λ (v : StoreView g.row.D.Denot). IsStanding (g.D.SectorDevice.disk v.device) v.account) c.store.ensures c.status.ensures.standing
