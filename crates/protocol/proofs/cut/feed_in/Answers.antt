use Rattle.protocol.proofs.Cuts.{first_is}
use Rattle.protocol.proofs.cut.feed_in.Goals as goal

pub returns : goal.returns
returns c = first_is c.args.bytes.now c.memchr.result c.memchr.ensures
