-- The view of a journal's fields.
use Rattle.std.specs.Prelude.{◌≡◌, false}
use Rattle.sector_device.specs.declared.device.SectorDevice.{Ghosts}
use Rattle.store_journal.specs.Held.{IsOf, bytes_in, numbers_of, other_bytes}
use Rattle.store_journal.specs.JournalView.{JournalView, carried_of}
use Rattle.store_journal.specs.declared.journal.Journal.TheInside.{Inside}

-- the bytes that are committed, and those with which the other half is known to begin, as they are read
abbrev pub view_of : {D : Type 0} {G : Ghosts D} → Inside D G → JournalView D
view_of {D} {G} fields = record {
  device = fields.device;
  sectors = (numbers_of fields.held).sectors;
  version = (numbers_of fields.held).version;
  rides = (numbers_of fields.held).rides;
  half = (numbers_of fields.held).half;
  bytes = bytes_in (G.disk fields.device).seen fields.held;
  seq = (numbers_of fields.held).seq;
  opens = (numbers_of fields.held).opens;
  identity = (numbers_of fields.held).identity;
  broken = fields.broken;
  settled = (numbers_of fields.held).settled;
  next = (numbers_of fields.held).next;
  blocks = (numbers_of fields.held).blocks;
  copied = other_bytes (G.disk fields.device).seen fields.held fields.copied;
}

-- of a working journal on an honest device the images carry the bytes that are read
abbrev pub IsSound : {D : Type 0} {G : Ghosts D} → Inside D G → Type 0
IsSound {D} {G} fields = (G.disk fields.device).honest → fields.broken ≡ false → IsOf (G.disk fields.device) fields.held (carried_of (view_of fields))
