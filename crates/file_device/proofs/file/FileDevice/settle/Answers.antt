use Rattle.std.proofs.Common.{arith}
use Rattle.std.proofs.Math.Logic.{∥∥₁_map, ∥∥₁_elim}
use Rattle.std.proofs.lemmas.Result.{on_ok_weaker}
use Rattle.std.proofs.Props.{props}
use Rattle.file_device.proofs.Gathers.{tried_to_sync, settled_left}
use Rattle.file_device.proofs.file.FileDevice.settle.Goals as goal

pub invariant_of-self : goal.invariant_of-self
invariant_of-self c =
    let s = c.hand_over.new.self in
    let none = c.in_ok-hand_over.ensures.done in
    let sync = c.sync.ensures in
    record {
      has_places = s.has_places;
      whole_run = s.whole_run;
      in_run = (s.in_run.0, omega arith, s.in_run.2);
      kept = ∥∥₁_map s.kept (λ kept. tried_to_sync s.sectors s.system.told.value s.history s.first s.run.items s.gathered s.fetched none kept c.sync.new.self.told.value sync.seen sync.left (sync.honest s.sectors));
    }

pub returns-clause-settled : goal.returns-clause-settled
returns-clause-settled c =
    let s = c.hand_over.new.self in
    let none = c.in_ok-hand_over.ensures.done in
    let sync = c.sync.ensures in
    on_ok_weaker c.sync.result
    (λ settled torn image is. ∥∥₁_elim s.kept (hlevel props)
    (λ kept. settled_left s.sectors s.system.told.value s.history s.first s.run.items s.gathered s.fetched none kept c.sync.new.self.told.value sync.seen sync.left (sync.honest s.sectors) settled torn image is)) sync.settled
