use Rattle.std.proofs.Common.{◌≡◌, ◌<◌, ◌≤◌, ℕ, [], ◌∷◌, get_or, length}
use Rattle.sector_device.specs.Kept.{written_to}
use Rattle.sector_device.specs.Pick.{picked_of}
use Rattle.sector_device.proofs.memory.keep_picked.Given as goal

abbrev pub invariant-loop-i : goal.invariant-loop-i
invariant-loop-i l =
    record {
      size : length l.settled.items ≡ length l.fn.settled.items;
      done : (k : ℕ) → k < l.i → get_or l.settled.items k [] ≡ picked_of (get_or l.picks k 0) (get_or l.fn.settled.items k [] ∷ written_to k l.unsettled);
      rest : (k : ℕ) → l.i ≤ k → get_or l.settled.items k [] ≡ get_or l.fn.settled.items k [];
    }
