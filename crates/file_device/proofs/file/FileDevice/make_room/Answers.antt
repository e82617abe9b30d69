use Rattle.std.proofs.Common.{refl, arith}
use Rattle.std.proofs.Math.Logic.{∥∥₁_map}
use Rattle.file_device.proofs.Gathers.{forgotten, elsewhere}
use Rattle.file_device.proofs.file.FileDevice.make_room.Goals as goal

pub invariant_of-self : goal.invariant_of-self
invariant_of-self c =
    let s = c.args.self.now in
    record {
      has_places = s.has_places;
      whole_run = s.whole_run;
      in_run = (s.in_run.0, omega arith, s.in_run.2);
      kept = ∥∥₁_map s.kept (forgotten s.sectors s.system.told.value s.history s.first s.run.items s.gathered s.fetched);
    }

pub invariant_of-self-2 : goal.invariant_of-self-2
invariant_of-self-2 c =
    let s = c.hand_over.new.self in
    let none = c.in_ok-hand_over.ensures.done in
    record {
      has_places = s.has_places;
      whole_run = s.whole_run;
      in_run = (s.in_run.0, omega arith, omega (arith, none, c.requires, c.hand_over.ensures.same.sectors));
      kept = ∥∥₁_map s.kept (λ kept. elsewhere s.sectors s.system.told.value s.history s.first s.run.items s.gathered s.fetched none kept c.args.at);
    }

pub returns-clause-room : goal.returns-clause-room
returns-clause-room c = let none = c.in_ok-hand_over.ensures.done in (omega (arith, none), omega (arith, none), refl)
