use Rattle.sector_device.proofs.Kept.{kept_written, written_writes, written_tears}
use Rattle.sector_device.proofs.memory.MemDiskSectorDevice.write.Goals as goal

pub invariant_of-self : goal.invariant_of-self
invariant_of-self c =
    let m = c.args.self.now in
    record {
      kept =
          kept_written m.history c.of-earlier.result c.of-earlier.ensures m.calls.items c.record_write.new.calls.items m.settled.items m.current.items m.unsettled.items c.record_write.new.unsettled.items m.kept c.args.at c.args.from.now c.of-content.result
          c.of-content.ensures c.told-from c.requires c.in-Ok.ensures.calls c.in-Ok.ensures.unsettled;
    }

pub returns-in-Ok-clause-writes : goal.returns-in-Ok-clause-writes
returns-in-Ok-clause-writes c = λ honest. written_writes c.args.self.now.history c.of-earlier.result c.of-earlier.ensures _ _ _ c.args.at c.args.from.now c.of-content.result tt c.of-content.ensures

pub returns-in-Ok-clause-torn : goal.returns-in-Ok-clause-torn
returns-in-Ok-clause-torn c = λ torn honest. written_tears c.args.self.now.history c.of-earlier.result c.of-earlier.ensures _ _ _ c.args.at c.args.from.now c.of-content.result c.of-content.ensures torn
