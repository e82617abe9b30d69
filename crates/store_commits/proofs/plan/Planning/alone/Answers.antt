use Rattle.std.proofs.Common.{rules, ◌≡◌, ◌+◌, ◌++◌, ◌∷◌, [], ℕ, List, ap, subst, sym, ◌∙◌, refl, arith}
use Rattle.store_commits.specs.Inside.{IsEmpty}
use Rattle.store_commits.specs.Run.{Done, Reply}
use Rattle.store_commits.specs.declared.segment.Segment.{Segment}
use Rattle.store_commits.proofs.plan.Planning.alone.Goals as goal

pub returns : goal.returns
returns c =
    let p = c.args.self.now in
    let sum : c.in-Some.bytes ≡ p.bytes + c.len.result = search rules in
    let len = c.len.ensures in
    let ok = c.args.frames.ok in
    let fits = c.requires.fits in
    let other : Segment = record { base = c.args.base; frames = c.args.frames; each = c.in_ok-each.each; adds = c.args.adds; replies = c.push-2.new.self } in
    record {
      other = other;
      closed = record {
        segments = c.in_ok-push-3.ensures.items ∙ ap (λ (l : List Segment). l ++ other ∷ []) (c.in_ok-push.ensures.items ∙ ap (λ (s : Segment). p.segments.items ++ s ∷ []) c.replace-last.ensures.value);
        last = subst IsEmpty (sym c.replace-last.ensures.after) c.new.ensures;
        capacity = refl;
        rides = refl;
      };
      base_is = refl;
      frames_are = refl;
      each_are = c.in_ok-each.ensures ∙ ap (λ (l : List ℕ). l ∷ []) c.deref.ensures.value;
      adds_is = refl;
      replies = c.in_ok-push-2.ensures.items ∙ ap (λ (l : List Reply). l ++ Done c.args.seq ∷ []) c.new-replies.ensures.items;
      left = omega (arith, fits);
      bytes = omega (arith, sum, len, ok);
    }
