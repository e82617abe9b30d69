use Rattle.std.proofs.Common.{length, ap, subst, sym, ◌∙◌, arith}
use Rattle.std.proofs.Math.Logic.{∥∥₁_map}
use Rattle.std.proofs.lemmas.List.{with_items_is}
use Rattle.sector_device.specs.Disk.{Image}
use Rattle.file_device.specs.Runs.{IsGathered}
use Rattle.file_device.proofs.Gathers.{fetched_run}
use Rattle.file_device.proofs.file.FileDevice.fetch.Goals as goal

pub invariant_of-self : goal.invariant_of-self
invariant_of-self c =
    let s = c.hand_over.new.self in
    let none = c.in_ok-hand_over.ensures.done in
    let read = c.read_run-self.ensures in
    let told = c.read_run-self.new.self.told.value in
    let run = c.read_run-self.new.run in
    let as_long = c.read_run-self.auto.run ∙ ap length c.deref_mut.ensures.value in
    let put = with_items_is s.run run (omega (arith, as_long, s.run.ok.0)) in
    record {
      has_places = s.has_places;
      whole_run = ap length put ∙ as_long ∙ s.whole_run;
      in_run = (omega (arith, none), omega (arith, read.most, as_long, s.whole_run, ap length put), omega (arith, none, c.requires, c.hand_over.ensures.same.sectors));
      kept = ∥∥₁_map s.kept (λ kept. subst (λ (found : Image). IsGathered s.sectors told s.history c.args.at found s.gathered c.read_run-self.result) (sym put)
          (fetched_run s.sectors s.system.told.value s.history s.first s.run.items s.gathered s.fetched none kept told read.seen read.left (read.honest s.sectors) c.args.at run c.read_run-self.result (read.gave s.sectors)));
    }
