-- Bytes as they are read.
use Rattle.std.specs.Prelude.{ℕ, zero, suc, List, [], ◌∷◌, ◌++◌}
use Rattle.sector_device.specs.Disk.{Image}
use Rattle.sector_device.specs.Sectors.{byte_at}

-- the first n bytes of the sectors from start on
abbrev pub bytes_read : Image → ℕ → ℕ → List ℕ
bytes_read image start zero = []
bytes_read image start (suc n) = bytes_read image start n ++ byte_at image start n ∷ []
