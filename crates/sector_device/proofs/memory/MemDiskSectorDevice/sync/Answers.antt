use Rattle.std.proofs.Common.{ap, ◌∙◌}
use Rattle.sector_device.specs.Kept.{put_all}
use Rattle.sector_device.proofs.Kept.{kept_synced, synced_syncs, synced_torn}
use Rattle.sector_device.proofs.memory.MemDiskSectorDevice.sync.Goals as goal

pub invariant_of-self : goal.invariant_of-self
invariant_of-self c =
    let m = c.args.self.now in
    record {
      kept =
          kept_synced m.history c.of-earlier.result c.of-earlier.ensures m.calls.items c.record.new.calls.items m.settled.items m.current.items m.unsettled.items c.clear.new.self.items m.kept c.settle.new.settled.items
          c.in-Ok.ensures.ok (c.settle.ensures ∙ ap (put_all m.settled.items) c.deref.ensures.value) c.clear.ensures.items;
    }

pub returns-in-Ok-clause-syncs : goal.returns-in-Ok-clause-syncs
returns-in-Ok-clause-syncs c = λ honest. synced_syncs c.args.self.now.history c.of-earlier.result c.of-earlier.ensures _ _ tt

pub returns-in-Ok-clause-torn : goal.returns-in-Ok-clause-torn
returns-in-Ok-clause-torn c = λ torn honest. synced_torn c.args.self.now.history c.of-earlier.result c.of-earlier.ensures _ _ tt torn
