use Rattle.std.proofs.Common.{◌+◌, ℕ, length, ap, subst, sym, ◌∙◌, arith, length-set}
use Rattle.std.proofs.Math.Logic.{∥∥₁_map}
use Rattle.sector_device.specs.Disk.{Image}
use Rattle.sector_device.specs.declared.history.History.{Written}
use Rattle.file_device.specs.Runs.{IsGathered}
use Rattle.file_device.proofs.Gathers.{one_more}
use Rattle.file_device.proofs.Syncing.{written_tears, written_writes}
use Rattle.file_device.proofs.file.FileDeviceSectorDevice.write.Goals as goal

pub invariant_of-self : goal.invariant_of-self
invariant_of-self c =
    let s = c.make_room.new.self in
    let room = c.in-Ok.ensures.room in
    let as_long = ap length c.keep.ensures ∙ length-set s.run.items s.gathered c.args.from.now in
    record {
      has_places = s.has_places;
      whole_run = as_long ∙ s.whole_run;
      in_run = (omega (arith, room.0, as_long, s.whole_run), omega (arith, s.in_run.1, as_long), omega (arith, room.1, c.requires, c.make_room.ensures.same.sectors));
      kept = ∥∥₁_map s.kept (λ kept. subst (λ (n : ℕ). IsGathered s.sectors s.system.told.value (Written c.of-earlier.result c.args.at c.of-content.result) s.first c.keep.new.run.items (s.gathered + 1) n) (sym room.2)
          (subst (λ (run : Image). IsGathered s.sectors s.system.told.value (Written c.of-earlier.result c.args.at c.of-content.result) s.first run (s.gathered + 1) 0) (sym c.keep.ensures)
          (one_more s.sectors s.system.told.value s.history s.first s.run.items s.gathered s.fetched kept c.of-earlier.result c.args.at c.of-content.result c.args.from.now c.of-earlier.ensures c.of-content.ensures c.told-from room.1 (omega (arith, room.0, s.whole_run)))));
    }

pub returns-in-Ok-clause-writes : goal.returns-in-Ok-clause-writes
returns-in-Ok-clause-writes c = λ keeps.
    let s = c.args.self.now in
    let same = c.in-Ok.ensures.same in
    written_writes s.sectors s.failures c.make_room.new.self.sectors c.make_room.new.self.failures c.args.at s.history c.of-earlier.result c.of-content.result c.args.from.now tt same.sectors same.failures (c.of-earlier.ensures ∙ same.history) c.of-content.ensures c.told-from keeps

pub returns-in-Ok-clause-torn : goal.returns-in-Ok-clause-torn
returns-in-Ok-clause-torn c = λ torn keeps.
    let s = c.args.self.now in
    let same = c.in-Ok.ensures.same in
    written_tears s.sectors s.failures c.make_room.new.self.sectors c.make_room.new.self.failures c.args.at s.history c.of-earlier.result c.of-content.result c.args.from.now torn (c.of-earlier.ensures ∙ same.history) c.of-content.ensures
