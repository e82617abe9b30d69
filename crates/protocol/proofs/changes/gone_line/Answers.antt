use Rattle.std.proofs.Common.{[], ◌++◌, codes, decimal, append_assoc, ap, sym, ◌∙◌}
use Rattle.std.proofs.lemmas.Result.{IfOk-weaker}
use Rattle.protocol.proofs.Texts.{joined_five}
use Rattle.protocol.proofs.Told.{line_of-gone_reply}
use Rattle.protocol.proofs.changes.gone_line.Goals as goal

pub returns : goal.returns
returns c = IfOk-weaker c.with_bytes-2.result _ _ (λ line is.
    joined_five [] (codes "{\"from\":") (decimal c.args.from) (codes ",\"gone\":true,\"ok\":true,\"seq\":") (decimal c.args.seq) (codes "}\n")
    c.in_ok-opened.opened.items c.in_ok-numbered.numbered.items c.in_ok-parted.parted.items c.in_ok-counted.counted.items line.items
    c.in_ok-opened.ensures c.in_ok-numbered.ensures c.in_ok-parted.ensures c.in_ok-counted.ensures is
    ∙ sym (line_of-gone_reply c.args.seq c.args.from)) c.with_bytes-2.ensures
