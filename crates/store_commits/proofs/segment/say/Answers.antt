use Rattle.std.proofs.Common.{◌≡◌, ◌∙◌, ◌++◌, ◌∷◌, [], ◌+◌, ap, sym, List, map, length, arith, add-one}
use Rattle.std.proofs.lemmas.List.{map-append, append_assoc}
use Rattle.std.specs.Vec.Iter.{into_iter_items}
use Rattle.store_commits.specs.Inside.{answered}
use Rattle.store_commits.specs.declared.event.Reply.{Reply}
use Rattle.store_commits.proofs.segment.say.Goals as goal

pub loop-reply-preserved : goal.loop-reply-preserved
loop-reply-preserved c =
    let l = c.loop-reply in
    let r = c.in-Some.reply in
    let rest = into_iter_items c.next.new.self in
    let steps = c.in-Some.ensures.steps.0 in
    let items = rw c.unwrap.ensures at c.push.ensures.items in
    let pushed = rw c.unwrap.ensures at c.push.ensures.len in
    let len : length (into_iter_items l.reply-iterator) ≡ length rest + 1 = ap length steps ∙ sym (add-one (length rest)) in
    let room = l.invariant.room in
    let all = l.invariant.len in
    let wide = l.invariant.capacity in
    let capacity = c.push.ensures.capacity in
    let first = c.args.said.now.items in
    record {
      said = items ∙ (λ i. l.invariant.said i ++ c.answer.ensures i ∷ []) ∙ append_assoc first (map (answered c.args.fate) l.yielded) (answered c.args.fate r ∷ [])
          ∙ ap (λ (more : List Reply). first ++ more) (sym (map-append (answered c.args.fate) l.yielded (r ∷ [])));
      left = l.invariant.left ∙ ap (λ (es : List Reply). l.yielded ++ es) steps ∙ sym (append_assoc l.yielded (r ∷ []) rest);
      room = omega (arith, len, room, pushed, capacity);
      len = omega (arith, len, all, pushed);
      capacity = omega (arith, wide, capacity);
    }
