-- The calls of the device that a journal's calls make, by the format.
use Rattle.std.specs.Prelude.{ℕ, ◌+◌, ◌-◌, ◌*◌, ◌/◌, min, Bool, true, false}
use Rattle.sector_device.specs.Sectors.{sectors_of}
use Rattle.half_journal.specs.Writes.{touched}
use Rattle.slot_commits.specs.Converts.{convert_calls}
use Rattle.slot_commits.specs.Renewals.{renew_calls}
use Rattle.slot_journal.specs.Journaled.{append_calls as slot_append_calls, switch_calls as slot_switch_calls}

-- the sectors that a step of a copy writes: at most `max`, from the one that holds byte `from` to the end of `bytes`
-- bytes
abbrev pub step_count : ℕ → ℕ → ℕ → ℕ
step_count bytes from max = min max (sectors_of bytes - from / 512)

-- those of an append
abbrev pub append_calls : Bool → ℕ → ℕ → ℕ
append_calls false used more = touched used more + 3
append_calls true used more = slot_append_calls used more

-- those of a switch
abbrev pub switch_calls : Bool → ℕ → ℕ
switch_calls false used = 3
switch_calls true used = slot_switch_calls used

-- The calls that count an opening. In format 3, if none was counted yet, they write anew what the slot holds, which are the bytes after the blocks that it names.
abbrev pub count_calls : Bool → Bool → ℕ → ℕ → ℕ
count_calls false settled used blocks = 2
count_calls true true used blocks = slot_append_calls used 0
count_calls true false used blocks = renew_calls (used - 4096 * blocks)

-- those of an upgrade: sync, a read of each sector of the slots, and the conversion
abbrev pub upgrade_calls : ℕ → ℕ
upgrade_calls used = 129 + convert_calls used

-- those of a downgrade: a write of each sector of the target, sync, write 0, sync, a write of each of 120 sectors of the slots, sync
abbrev pub downgrade_calls : ℕ → ℕ
downgrade_calls used = sectors_of used + 124
