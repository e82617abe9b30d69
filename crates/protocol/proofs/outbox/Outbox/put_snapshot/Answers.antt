use Rattle.std.proofs.Common.{◌++◌, ap, ◌∙◌, sym}
use Rattle.protocol.proofs.Texts.{line_of-snapshot_reply, joined}
use Rattle.protocol.proofs.outbox.Outbox.put_snapshot.Goals as goal

pub returns : goal.returns
returns c =
    joined _ _ _ _ _ _ _ c.put.ensures.text c.put_number.ensures.text c.put-2.ensures.text ∙ ap (λ t. c.args.self.now.bytes.items ++ t) (sym (line_of-snapshot_reply c.args.used))
