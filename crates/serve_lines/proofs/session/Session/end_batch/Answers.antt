use Rattle.std.proofs.Common.{List, ◌∷◌, ◌++◌, ◌∙◌, [], ap, sym, inr, map, refl, subst}
use Rattle.doc_machine.specs.Transaction.{transaction_of}
use Rattle.protocol.specs.declared.reply.Reply.{Reply}
use Rattle.serve_lines.specs.LineReplies.{AllSay}
use Rattle.serve_lines.proofs.Saying.{says_append}
use Rattle.serve_lines.proofs.session.Session.end_batch.Goals as goal

pub returns-clause-ends : goal.returns-clause-ends
returns-clause-ends g c = λ line asked within.
    let b = c.commit.ensures.batch in
    let reply = c.answer-reply.result in
    let a = c.answer-reply.ensures c.args.self.now.options line asked within in
    let items = c.push.ensures.pushed ∙ ap (λ (l : List Reply). l ++ reply ∷ []) (b.2 ∙ ap (λ (l : List Reply). l ++ b.0) c.requires.taken) in (
      b.1 ++ a.0 ∷ [],
      subst (λ (l : List Reply). AllSay l (b.1 ++ a.0 ∷ [])) (sym items) (says_append b.0 (reply ∷ []) b.1 (a.0 ∷ []) b.3 (a.1, tt)),
      inr (inr (
          record {
            mid = c.commit.new.store;
            before = b.1;
            reply = a.0;
            batch = b.4;
            answered = a.2;
            replies_are = refl;
            left_are = ap (map transaction_of) c.commit.ensures.none.0;
          }
          )),
    )
