-- The states that an append and a switch make, and the calls that these take.
use Rattle.std.specs.Prelude.{ℕ, ◌+◌, ◌-◌, ◌*◌, ◌/◌, ◌%◌, List, ◌++◌, length, Bool, nat_le, if◌then◌else◌}
use Rattle.commit_slots.specs.Slots.{count_of}
use Rattle.commit_slots.specs.declared.slot.Slot.{Slot}
use Rattle.slot_commits.specs.States.{State}

-- more bytes after `used` ones fit the slot, with those that fill no block before them
abbrev pub fits_slot : ℕ → ℕ → Bool
fits_slot used more = nat_le (used % 4096 + more) 15428

-- how many blocks the slot names then: if they fit, none that the commit writes, so it needs no sync of them
abbrev pub named_after : ℕ → ℕ → ℕ
named_after used more = if fits_slot used more then used / 4096 else (used + more) / 4096

-- the bytes with more after them, and `adds` changes more
abbrev pub appended : State → List ℕ → ℕ → ℕ → State
appended c more adds opens = record { half = c.half; bytes = c.bytes ++ more; seq = c.seq + adds; opens = opens; blocks = named_after (length c.bytes) (length more); identity = c.identity }

-- the slot that names it, but for the checksum
abbrev pub slot_appended : Slot → ℕ → ℕ → ℕ → ℕ → Slot
slot_appended slot more adds opens check =
    record {
      number = slot.number + 1;
      length = slot.length + more;
      seq = slot.seq + adds;
      opens = opens;
      sectors = slot.sectors;
      half = slot.half;
      blocks = named_after slot.length more;
      check = check;
      identity = slot.identity;
    }

-- the calls: a write of each sector of the new blocks, a sync of them if the slot names them, both copies of the slot, sync
abbrev pub append_calls : ℕ → ℕ → ℕ
append_calls used more =
    8 * ((used + more) / 4096 - used / 4096) + ((if fits_slot used more then 0 else 1) + (2 * count_of (used + more - 4096 * named_after used more) + 1))

-- the target in the other half, which holds all its whole blocks, and `adds` changes more
abbrev pub switched : State → List ℕ → ℕ → State
switched c target adds = record { half = 1 - c.half; bytes = target; seq = c.seq + adds; opens = c.opens; blocks = length target / 4096; identity = c.identity }

-- the slot that names it, but for the checksum
abbrev pub slot_switched : Slot → ℕ → ℕ → ℕ → Slot
slot_switched slot used adds check =
    record {
      number = slot.number + 1;
      length = used;
      seq = slot.seq + adds;
      opens = slot.opens;
      sectors = slot.sectors;
      half = 1 - slot.half;
      blocks = used / 4096;
      check = check;
      identity = slot.identity;
    }

-- the calls: sync, both copies of the slot, sync
abbrev pub switch_calls : ℕ → ℕ
switch_calls used = 1 + (2 * count_of (used % 4096) + 1)

-- what was read, opened so often
abbrev pub opened : State → ℕ → State
opened c opens = record { half = c.half; bytes = c.bytes; seq = c.seq; opens = opens; blocks = c.blocks; identity = c.identity }

-- the slot that names it
abbrev pub slot_opened : Slot → ℕ → ℕ → Slot
slot_opened slot number opens =
    record {
      number = number;
      length = slot.length;
      seq = slot.seq;
      opens = opens;
      sectors = slot.sectors;
      half = slot.half;
      blocks = slot.blocks;
      check = slot.check;
      identity = slot.identity;
    }
