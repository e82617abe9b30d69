use Rattle.std.proofs.Common.{◌≡◌, ◌≤◌, ◌+◌, ◌++◌, map, length, vec_len, vec_capacity}
use Rattle.std.specs.Vec.Iter.{into_iter_items}
use Rattle.doc_changes.specs.State.{Good}
use Rattle.store_commits.specs.Account.{IsStanding}
use Rattle.store_commits.specs.Events.{event_of}
use Rattle.store_commits.specs.Run.{Ran}
use Rattle.doc_store.proofs.store.Store.run.Given as goal

abbrev pub invariant-loop-event : goal.invariant-loop-event
invariant-loop-event g l =
    let disk = g.D.SectorDevice.disk in
    record {
      ran : Ran disk l.fn.self l.self (map event_of l.yielded) l.replies.items;
      standing : IsStanding (disk l.self.device) l.self.account;
      good : Good l.self.account.state;
      left : l.fn.events.items ≡ l.yielded ++ into_iter_items l.event-iterator;
      room : vec_len l.replies + length (into_iter_items l.event-iterator) ≤ vec_capacity l.replies;
      can_next : (goal.iterator-loop-event g).can_next l.event-iterator;
      is_finite : (goal.iterator-loop-event g).is_finite l.event-iterator;
    }
