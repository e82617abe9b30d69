use Rattle.std.proofs.Common.{[], ◌∷◌, ◌++◌, List, ap, sym, ◌∙◌, arith, append_assoc}
use Rattle.std.proofs.lemmas.List.{append-nil}
use Rattle.protocol.specs.declared.reply.Reply.{Reply}
use Rattle.serve_lines.proofs.Saying.{all_told, get_or_any, one_told, says_append}
use Rattle.serve_lines.proofs.replies.say.Goals as goal

pub loop-place-init : goal.loop-place-init
loop-place-init g c = record {
  said = ([], [], sym (append-nil c.args.ready.now.items), tt, λ more told. told);
  len = omega arith;
  room = omega arith;
}

pub loop-place-preserved : goal.loop-place-preserved
loop-place-preserved g c =
    let l = c.loop-place in
    let before = l.invariant.said in
    let one = c.told.ensures in
    record {
      said = (
        before.0 ++ c.told.result ∷ [],
        before.1 ++ one.0 ∷ [],
        c.push.ensures.pushed ∙ ap (λ (xs : List Reply). xs ++ c.told.result ∷ []) before.2 ∙ append_assoc c.args.ready.now.items before.0 (c.told.result ∷ []),
        says_append before.0 (c.told.result ∷ []) before.1 (one.0 ∷ []) before.3 (one.1, tt),
        one_told c.args.store.now.account.state c.args.keys.now c.args.said.now l.place c.index-keys-place.result _ (omega (arith, c.loop-place-test.true, c.requires.each)) (omega (arith, c.loop-place-test.true)) c.index-keys-place.is (get_or_any c.args.said.now l.place _ _ (omega (arith, c.loop-place-test.true))) before.1 before.4 one.0 one.2,
      );
      len = omega (arith, c.push.ensures.len, l.invariant.len);
      room = omega (arith, c.push.ensures.room, l.invariant.room);
    }

pub returns-clause-said : goal.returns-clause-said
returns-clause-said g c =
    let l = c.loop-place in
    let before = l.invariant.said in
    (before.0, before.1, before.2, before.3, all_told c.args.store.now.account.state c.args.keys.now c.args.said.now l.place (omega (arith, c.loop-place-test.false, c.requires.each)) (omega (arith, c.loop-place-test.false)) before.1 before.4)
