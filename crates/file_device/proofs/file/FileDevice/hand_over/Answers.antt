use Rattle.std.proofs.Common.{arith}
use Rattle.std.proofs.Math.Logic.{∥∥₁_map}
use Rattle.file_device.proofs.Gathers.{handed_over, not_handed_over}
use Rattle.file_device.proofs.file.FileDevice.hand_over.Goals as goal

pub invariant_of-self : goal.invariant_of-self
invariant_of-self c =
    let s = c.args.self.now in
    let left = rw c.deref.ensures.value at c.write_run.ensures.left in
    record {
      has_places = s.has_places;
      whole_run = s.whole_run;
      in_run = s.in_run;
      kept = ∥∥₁_map s.kept (λ kept. not_handed_over s.sectors s.system.told.value s.history s.first s.run.items s.gathered s.fetched kept c.write_run.new.self.told.value left (c.write_run.ensures.honest s.sectors) c.in_err-write_run.ensures.failed);
    }

pub invariant_of-self-2 : goal.invariant_of-self-2
invariant_of-self-2 c =
    let s = c.args.self.now in
    let left = rw c.deref.ensures.value at c.write_run.ensures.left in
    let written = rw c.deref.ensures.value at c.in_ok-write_run.ensures.written in
    record {
      has_places = s.has_places;
      whole_run = s.whole_run;
      in_run = (omega arith, s.in_run.1, omega (arith, s.in_run.2));
      kept = ∥∥₁_map s.kept (λ kept. handed_over s.sectors s.system.told.value s.history s.first s.run.items s.gathered s.fetched kept c.write_run.new.self.told.value left (c.write_run.ensures.honest s.sectors) written);
    }
