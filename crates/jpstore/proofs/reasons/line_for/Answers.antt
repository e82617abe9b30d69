use Rattle.std.proofs.Common.{◌≡◌, ℕ, List, IfOk, subst}
use Rattle.jpstore.specs.Reasons.{reason_reply}
use Rattle.protocol.specs.Reply.{line_of}
use Rattle.jpstore.proofs.reasons.line_for.Goals as goal

pub returns : goal.returns
returns c =
    let errno = c.args.refused.errno in
    let path = c.args.path.now in
    subst (λ (cause : List ℕ). IfOk c.shown_line.result (λ line. line.items ≡ line_of (reason_reply cause errno path))) c.word.ensures
    (c.shown_line.ensures (reason_reply c.word.result.now errno path) (λ log sent. sent))
