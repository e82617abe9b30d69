use Rattle.std.proofs.Common.{List, ◌∷◌, ◌++◌, ◌∙◌, [], ap, sym, inl, inr, map, refl, subst, arith}
use Rattle.std.proofs.lemmas.List.{length-map, map-append}
use Rattle.doc_machine.specs.Transaction.{transaction_of}
use Rattle.protocol.specs.declared.reply.Reply.{Reply}
use Rattle.serve_lines.specs.Progress.{waiting_in}
use Rattle.serve_lines.specs.LineReplies.{AllSay}
use Rattle.serve_lines.proofs.Batching.{batch_of_some}
use Rattle.serve_lines.proofs.session.Session.wait.Goals as goal

pub returns-then-is_full-clause-ends : goal.returns-then-is_full-clause-ends
returns-then-is_full-clause-ends g c = λ line asks.
    let d = transaction_of c.args.transaction in
    let cs = waiting_in c.args.self.now in
    let b = c.commit.ensures.batch in
    let all = ap (map transaction_of) c.hold.ensures.held ∙ map-append transaction_of c.args.self.now.waiting.items (c.args.transaction ∷ []) in (
      b.1,
      subst (λ (l : List Reply). AllSay l b.1) (sym (b.2 ∙ ap (λ (l : List Reply). l ++ b.0) c.requires.taken)) b.3,
      inr (inl (
          record {
            c = d;
            asks = asks;
            full = omega (arith, length-map c.args.self.now.waiting.items transaction_of, c.len.ensures, c.hold.ensures.len, c.is_full.ensures.yes c.if-is_full.true);
            batch = batch_of_some g.D.SectorDevice.disk c.args.self.now.options c.args.store.now c.commit.new.store cs d (map transaction_of c.hold.new.waiting.items) b.1 all b.4;
            left_are = ap (map transaction_of) c.commit.ensures.none.0;
          }
          )),
    )

pub returns-else-is_full-clause-ends : goal.returns-else-is_full-clause-ends
returns-else-is_full-clause-ends g c = λ line asks. (
  [],
  subst (λ (l : List Reply). AllSay l []) (sym c.requires.taken) tt,
  inl (
      record {
        c = transaction_of c.args.transaction;
        asks = asks;
        fewer = omega (arith, length-map c.args.self.now.waiting.items transaction_of, c.len.ensures, c.hold.ensures.len, c.is_full.ensures.no c.if-is_full.false);
        none = refl;
        same = refl;
        left_are = ap (map transaction_of) c.hold.ensures.held ∙ map-append transaction_of c.args.self.now.waiting.items (c.args.transaction ∷ []);
      }
      ),
)
