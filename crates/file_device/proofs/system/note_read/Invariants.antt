use Rattle.std.proofs.Common.{◌≡◌, ◌+◌, ◌<◌, ℕ, [], get_or, List, Bool, Option}
use Rattle.sector_device.specs.Disk.{Image}
use Rattle.sector_device.specs.History.{seen_after, left_by, KeepsTo}
use Rattle.file_device.proofs.system.note_read.Given as goal

abbrev pub invariant-loop-i : goal.invariant-loop-i
invariant-loop-i l =
    record {
      seen : seen_after l.noted.value ≡ seen_after l.fn.told.value;
      left : (torn : Option (List ℕ → Bool)) (image : Image) → left_by torn l.noted.value image → left_by torn l.fn.told.value image;
      honest : (n : ℕ) → KeepsTo n l.noted.value → KeepsTo n l.fn.told.value;
      gave : (n : ℕ) → KeepsTo n l.noted.value → (j : ℕ) → j < l.i → get_or l.run j [] ≡ get_or (seen_after l.fn.told.value) (l.first + j) [];
    }
