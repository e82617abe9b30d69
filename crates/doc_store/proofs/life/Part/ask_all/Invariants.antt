use Rattle.std.proofs.Common.{◌≡◌, ◌++◌, map, length}
use Rattle.std.specs.Vec.Iter.{into_iter_items}
use Rattle.store_commits.specs.Account.{IsStanding}
use Rattle.doc_store.specs.Ending.{Told, HasPlaces}
use Rattle.store_commits.specs.Events.{event_of}
use Rattle.doc_store.proofs.life.Part.ask_all.Given as goal

abbrev pub invariant-loop-event : goal.invariant-loop-event
invariant-loop-event g l =
    let disk = g.D.SectorDevice.disk in
    record {
      told : Told disk l.fn.store l.store (map event_of l.yielded) l.self;
      standing : IsStanding (disk l.store.device) l.store.account;
      left : l.fn.events.items ≡ l.yielded ++ into_iter_items l.event-iterator;
      room : HasPlaces (length (into_iter_items l.event-iterator)) l.self;
      can_next : (goal.iterator-loop-event g).can_next l.event-iterator;
      is_finite : (goal.iterator-loop-event g).is_finite l.event-iterator;
    }
