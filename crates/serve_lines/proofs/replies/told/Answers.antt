use Rattle.std.proofs.Common.{Option, String, Global, ap, sym, subst, inl}
use Rattle.protocol.specs.Says.{Says}
use Rattle.protocol.specs.declared.reply.Reply.{Reply}
use Rattle.serve_lines.specs.LineReplies.{key_in}
use Rattle.serve_lines.specs.Session.{shown_reply, told_in}
use Rattle.serve_lines.proofs.Saying.{says_shown}
use Rattle.serve_lines.proofs.replies.told.Goals as goal

pub returns-in-None : goal.returns-in-None
returns-in-None g c = (
  shown_reply c.args.said.now,
  subst (λ (r : Reply). Says r (shown_reply c.args.said.now)) (sym c.shown.ensures) (says_shown c.args.said.now),
  inl (ap (λ (k : Option (String Global)). told_in c.args.store.now.account.state (key_in k) c.args.said.now) (sym c.in-None.is)),
)
