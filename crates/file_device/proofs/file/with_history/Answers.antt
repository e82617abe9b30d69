use Rattle.std.proofs.lemmas.Grind.{merely}
use Rattle.std.proofs.Common.{arith}
use Rattle.file_device.proofs.Gathers.{nothing_gathered}
use Rattle.file_device.proofs.file.with_history.Goals as goal

pub invariant_of-result : goal.invariant_of-result
invariant_of-result c = record {
  has_places = c.requires.places;
  whole_run = c.requires.run;
  in_run = (omega arith, omega arith, omega arith);
  kept = merely (nothing_gathered c.args.sectors c.new.result.told.value c.args.history 0 _ c.new.ensures);
}
