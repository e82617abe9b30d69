use Rattle.std.proofs.Common.{◌≡◌, refl, ap, sym, append_assoc, ◌++◌, ◌∷◌, [], ◌∙◌, List, subst}
use Rattle.std.proofs.lemmas.List.{append-nil}
use Rattle.doc_tree.specs.Doc.{Doc}
use Rattle.protocol.specs.declared.reply.Reply.{Reply}
use Rattle.protocol.specs.Reply.{count_of, reply_lines}
use Rattle.serve_lines.specs.Progress.{HasWritten, HasReplied}
use Rattle.serve_lines.specs.LineReplies.{AllSay}
use Rattle.serve_lines.proofs.Saying.{says_none}
use Rattle.serve_lines.proofs.Hearing.{first_says}
use Rattle.serve_lines.proofs.progress.Progress.tell_rest.Goals as goal

pub replies-init : goal.replies-init
replies-init g c = record {
  told = λ before said docs h t. ([], docs, refl, h, subst (λ (m : List Doc). HasReplied before (g.W.Write.contents c.args.writer.now) c.args.self.now m) (sym (append-nil said)) t);
}

pub replies-preserved : goal.replies-preserved
replies-preserved g c = record {
  told = λ before said docs h t.
      let now = c.replies.invariant.told before said docs h t in
      let first = first_says c.in-Some.reply c.ready_reply.new.self.ready.items now.1 (subst (λ (l : List Reply). AllSay l now.1) c.in-Some.ensures.0 now.3) in
      let told = c.in_ok-tell.ensures.told before (said ++ now.0) first.said first.says (record { tells = now.4.tells; counted = now.4.counted }) in (
        now.0 ++ first.said ∷ [],
        first.more,
        now.2 ∙ ap (λ (l : List Doc). now.0 ++ l) first.docs_are ∙ sym (append_assoc now.0 (first.said ∷ []) first.more),
        subst (λ x. AllSay x.ready.items first.more) (sym c.in_ok-tell.ensures.session) first.others,
        subst (λ (m : List Doc). HasReplied before (g.W.Write.contents c.tell.new.writer) c.tell.new.self m) (append_assoc said now.0 (first.said ∷ [])) told,
      );
}

pub returns : goal.returns
returns g c = record {
  told = λ before said docs h t.
      let now = c.replies.invariant.told before said docs h t in
      let none = says_none now.1 (subst (λ (l : List Reply). AllSay l now.1) c.in_default.ensures.0 now.3) in
      let all : said ++ now.0 ≡ said ++ docs = ap (λ (l : List Doc). said ++ l) (sym (now.2 ∙ ap (λ (l : List Doc). now.0 ++ l) none ∙ append-nil now.0)) in
      record {
        tells = subst (λ (m : List Doc). HasWritten before (g.W.Write.contents c.replies.writer) c.replies.self.outbox (reply_lines m)) all now.4.tells;
        counted = now.4.counted ∙ ap count_of all;
      };
}
