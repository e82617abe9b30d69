-- The properties of what an open journal knows of its state.
use Rattle.std.specs.Prelude.{◌≡◌, ℕ, ◌+◌, ◌-◌, ◌*◌, ◌/◌, ◌%◌, ◌<◌, ◌≤◌, ◌^◌, List, length, take, drop}
use Rattle.checksum.specs.Crc.{crc_of}
use Rattle.commit_slots.specs.Slots.{block_start, half_blocks, slots_capacity}
use Rattle.slot_commits.specs.States.{State, blocks_of, slot_of}
use Rattle.slot_journal.specs.declared.known.Known.{Known}

-- its numbers fit a device of `sectors` sectors, and its buffer is as long as a slot's tail
pub record IsFormed (sectors : ℕ) (known : Known) : Type 0 where
  pub size : known.slot.sectors ≡ sectors
  pub at_least : 160 ≤ sectors
  pub at_most : sectors ≤ 2 ^ 32
  pub half_fits : known.slot.half ≤ 1
  pub used_fits : known.slot.length ≤ slots_capacity sectors
  pub blocks_fit : 4096 * known.slot.blocks ≤ known.slot.length
  pub check_fits : known.check < 2 ^ 32
  pub identity_fits : known.slot.identity < 2 ^ 128
  pub room : length known.tail.items ≡ 15428

-- so it has to be for this state: the slot, the checksum of all whole blocks, and the bytes after them
pub record Knows (known : Known) (c : State) : Type 0 where
  pub slot_is : known.slot ≡ slot_of c known.slot.sectors known.slot.number
  pub check_is : known.check ≡ crc_of (blocks_of (length c.bytes / 4096) c.bytes)
  pub tail_is : take (length c.bytes % 4096) known.tail.items ≡ drop (4096 * (length c.bytes / 4096)) c.bytes

-- before its opening is counted: the slot, its checksum, and the bytes after the blocks that it names
pub record KnowsFound (known : Known) (c : State) : Type 0 where
  pub slot_is : known.slot ≡ slot_of c known.slot.sectors known.slot.number
  pub check_is : known.check ≡ known.slot.check
  pub tail_is : take (known.slot.length - 4096 * known.slot.blocks) known.tail.items ≡ drop (4096 * c.blocks) c.bytes

-- sector k is in the half that doesn't count
pub record IsOtherHalf (known : Known) (k : ℕ) : Type 0 where
  pub from : block_start known.slot.sectors (1 - known.slot.half) ≤ k
  pub below : k < block_start known.slot.sectors (1 - known.slot.half) + 8 * half_blocks known.slot.sectors
