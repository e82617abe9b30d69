-- The document that a reply is.
use Rattle.std.specs.Prelude.{◌≡◌}
use Rattle.doc_tree.specs.Doc.{Doc}
use Rattle.protocol.specs.Reply.{change_reply, snapshot_reply, pump_reply, sealed_reply, revision_reply, refusal_reply, line_of}
use Rattle.protocol.specs.declared.reply.Reply.{Reply}
use Rattle.protocol.specs.declared.reply.Reply.TheVariants.{Changed, Snapshot, Pumped, Sealed, Revision, Refused, Line}

-- the document that a reply says
abbrev pub Says : Reply → Doc → Type 0
Says (Changed seq) said = said ≡ change_reply seq
Says (Snapshot used) said = said ≡ snapshot_reply used
Says (Pumped pump) said = said ≡ pump_reply pump
Says Sealed said = said ≡ sealed_reply
Says (Revision revision) said = said ≡ revision_reply revision
Says (Refused refusal) said = said ≡ refusal_reply refusal
Says (Line line) said = line.items ≡ line_of said
