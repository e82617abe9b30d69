-- For the clauses within the crate: remainders of a byte and bytes of zeros, which a table has.
use Rattle.std.specs.Prelude.{ℕ, zero, suc}
use Rattle.checksum.specs.Crc.{times_x}

-- x^count times it
abbrev pub moved : ℕ → ℕ → ℕ
moved zero left = left
moved (suc count) left = moved count (times_x left)

-- with a byte of zeros after it
unfoldable pub past_byte : ℕ → ℕ
past_byte left = moved 8 left

-- with `count` bytes of zeros after it
abbrev pub past_bytes : ℕ → ℕ → ℕ
past_bytes zero left = left
past_bytes (suc count) left = past_byte (past_bytes count left)
