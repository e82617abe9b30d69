use Rattle.std.proofs.Common.{[], ◌∙◌, arith}
use Rattle.std.proofs.lemmas.List.{get_or_default}
use Rattle.std.proofs.Math.Logic.{∥∥₁_map}
use Rattle.file_device.proofs.Gathers.{one_read}
use Rattle.file_device.proofs.file.FileDeviceSectorDevice.read.Goals as goal

pub invariant_of-self : goal.invariant_of-self
invariant_of-self c =
    let s = c.fetch.new.self in
    let found = c.in-Ok.ensures.found in
    let content = c.of-content.ensures ∙ c.index.ensures ∙ get_or_default s.run.items c.in-Ok.place c.index.result.now [] (omega (arith, found.0, s.in_run.1)) in
    record {
      has_places = s.has_places;
      whole_run = s.whole_run;
      in_run = s.in_run;
      kept = ∥∥₁_map s.kept (λ kept. one_read s.sectors s.system.told.value s.history s.first s.run.items s.gathered s.fetched kept c.of-earlier.result c.args.at c.of-content.result c.in-Ok.place c.of-earlier.ensures content found.0 found.1);
    }
