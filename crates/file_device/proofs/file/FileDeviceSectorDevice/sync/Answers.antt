use Rattle.std.proofs.Common.{◌∙◌, ℕ, subst, sym}
use Rattle.std.proofs.Math.Logic.{∥∥₁_map}
use Rattle.sector_device.specs.declared.history.History.{Synced}
use Rattle.file_device.specs.Runs.{IsGathered}
use Rattle.file_device.proofs.Gathers.{one_synced}
use Rattle.file_device.proofs.Syncing.{synced_syncs, synced_torn}
use Rattle.file_device.proofs.file.FileDeviceSectorDevice.sync.Goals as goal

pub returns-in-Ok-clause-syncs : goal.returns-in-Ok-clause-syncs
returns-in-Ok-clause-syncs c = λ keeps.
    let s = c.args.self.now in
    let same = c.in-Ok.ensures.same in
    synced_syncs s.sectors s.failures c.settle.new.self.sectors c.settle.new.self.failures s.history c.of-earlier.result tt same.sectors same.failures (c.of-earlier.ensures ∙ same.history) keeps

pub returns-in-Ok-clause-torn : goal.returns-in-Ok-clause-torn
returns-in-Ok-clause-torn c = λ torn keeps.
    let s = c.args.self.now in
    let same = c.in-Ok.ensures.same in
    synced_torn s.sectors s.failures c.settle.new.self.sectors c.settle.new.self.failures s.history c.of-earlier.result tt torn same.sectors same.failures (c.of-earlier.ensures ∙ same.history) keeps

pub invariant_of-self : goal.invariant_of-self
invariant_of-self c =
    let s = c.settle.new.self in
    record {
      has_places = s.has_places;
      whole_run = s.whole_run;
      in_run = s.in_run;
      kept = ∥∥₁_map s.kept (λ kept. subst (λ (n : ℕ). IsGathered s.sectors s.system.told.value (Synced c.of-earlier.result) s.first s.run.items s.gathered n) (sym c.in-Ok.ensures.forgets)
          (one_synced s.sectors s.system.told.value s.history s.first s.run.items s.gathered s.fetched c.in-Ok.ensures.done kept c.of-earlier.result c.of-earlier.ensures c.in-Ok.ensures.settled));
    }
