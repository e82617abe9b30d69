-- For the clauses within the crate: room for replies that take no memory.
use Rattle.std.specs.Prelude.{◌+◌, ◌≤◌}
use Rattle.std.specs.Vec.{vec_len}
use Rattle.protocol.specs.declared.outbox.Outbox.{Outbox}
use Rattle.protocol.specs.declared.outbox.TheConstants.{ROOM, SHORT_REPLY}

-- a line that takes no memory has room after what waits
abbrev pub HasRoom : Outbox → Type 0
HasRoom outbox = vec_len outbox.bytes + SHORT_REPLY ≤ ROOM
