use Rattle.std.proofs.Common.{◌∙◌, List, sym, ap, subst}
use Rattle.std.specs.VecDeque.Iter.{deque_iter_rest}
use Rattle.change_history.specs.History.{Told, since}
use Rattle.told_transactions.specs.Told.{AreFrom}
use Rattle.recorded_store.specs.Recorded.{RecordedView}
use Rattle.recorded_store.proofs.Rising.{rises_told}
use Rattle.told_transactions.proofs.Records.{since_each, told_of_those}
use Rattle.recorded_store.proofs.store.RecordedStore.since.Goals as goal

pub returns-clause-transactions : goal.returns-clause-transactions
returns-clause-transactions g c =
    let h = c.self.inside.history.history in
    let kept = c.self.invariant in
    let from = c.args.from in
    let rides = c.self.inside.store.account.rides in
    let same = ap (λ (v : RecordedView g.row.D.Denot). v.store.account.rides) c.self.view_is in
    told_of_those c.args.self.now.store.account.rides c.args.most from deque_iter_rest c.since.result (since h.floor h.told from) c.since.ensures.told
    (λ all is. subst (λ b. AreFrom b from all) same (since_each rides h.floor kept.transactions from all kept.readable (ap (λ (l : List Told). since h.floor l from) (sym kept.told) ∙ is)))

pub returns-clause-rises : goal.returns-clause-rises
returns-clause-rises g c =
    let h = c.self.inside.history.history in
    rises_told deque_iter_rest c.since.result h.floor h.told c.args.from c.args.most c.floor.ensures.kept.rises c.since.ensures.told
