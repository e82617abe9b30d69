use Rattle.std.proofs.Common.{map}
use Rattle.protocol.specs.Reply.{names_reply}
use Rattle.protocol.proofs.text.names_line.Goals as goal

pub returns : goal.returns
returns c = c.shown_line.ensures (names_reply (map (λ n. n.now) c.args.names.now)) (λ log sent. sent)
