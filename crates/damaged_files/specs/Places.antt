-- The places of a part's bytes on the device.
use Rattle.std.specs.Prelude.{ℕ, ◌+◌, ◌-◌, ◌*◌, ◌/◌, ◌%◌, ◌^◌, min, nat_lt, if◌then◌else◌}
use Rattle.store_parts.specs.declared.part.Part.{Part}
use Rattle.damaged_files.specs.declared.place.Place.{Place}

-- the number of a sector has 64 bits
abbrev pub sector_at : ℕ → ℕ
sector_at n = min n 0xffff_ffff_ffff_ffff

-- of the byte `at` of a tail, in the slot that begins with this sector: the first sector has 424 bytes of it, after the numbers, and each other one 484
abbrev pub place_in_slot : ℕ → ℕ → Place
place_in_slot slot at =
    if nat_lt at 424 then record { sector = slot; byte = 88 + at } else record { sector = sector_at (slot + (1 + (at - 424) / 484)); byte = 28 + (at - 424) % 484 }

-- of the byte `at` of a part: in its half, or after that in the slot that has its tail
abbrev pub place_of : Part → ℕ → Place
place_of part at = if nat_lt at part.len then record { sector = sector_at (part.first + at / 512); byte = at % 512 } else place_in_slot part.slot (at - part.len)
