use Rattle.std.proofs.Common.{◌++◌, ap, ◌∙◌, sym}
use Rattle.protocol.proofs.Texts.{line_of-sealed_reply}
use Rattle.protocol.proofs.outbox.Outbox.put_sealed.Goals as goal

pub returns : goal.returns
returns c = c.put.ensures.text ∙ ap (λ t. c.args.self.now.bytes.items ++ t) (sym line_of-sealed_reply)
