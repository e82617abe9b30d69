use Rattle.std.proofs.Common.{◌≡◌, ℕ, List, Bool, Option}
use Rattle.sector_device.specs.Disk.{Image}
use Rattle.sector_device.specs.History.{seen_after, left_by, KeepsTo}
use Rattle.file_device.specs.Runs.{put_run, IsOverSome}
use Rattle.file_device.proofs.system.note_written.Given as goal

abbrev pub invariant-loop-i : goal.invariant-loop-i
invariant-loop-i l =
    record {
      seen : seen_after l.noted.value ≡ put_run (seen_after l.fn.told.value) l.first l.run l.i;
      left : (torn : Option (List ℕ → Bool)) (image : Image) → left_by torn l.noted.value image → IsOverSome torn (left_by torn l.fn.told.value) l.first l.run l.i image;
      honest : (n : ℕ) → KeepsTo n l.noted.value → KeepsTo n l.fn.told.value;
    }
