use Rattle.std.proofs.Common.{List, [], inl, inr, refl, sym, subst, ◌∙◌}
use Rattle.protocol.specs.declared.reply.Reply.{Reply}
use Rattle.serve_lines.specs.LineReplies.{AllSay}
use Rattle.serve_lines.proofs.session.Session.end_line.Goals as goal

pub returns-then-is_blank-clause-ends : goal.returns-then-is_blank-clause-ends
returns-then-is_blank-clause-ends g c = λ line h.
    ([], subst (λ (l : List Reply). AllSay l []) (sym c.requires.taken) tt, inl (sym (c.is_blank.ensures line h) ∙ c.if-is_blank.true, refl, refl, refl))

pub returns-else-is_blank-clause-ends : goal.returns-else-is_blank-clause-ends
returns-else-is_blank-clause-ends g c = λ line h.
    let done = c.do_line.ensures.ends line h in
    (done.0, done.1, inr (sym (c.is_blank.ensures line h) ∙ c.if-is_blank.false, done.2))
