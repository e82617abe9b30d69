use Rattle.std.proofs.Common.{◌++◌, ◌∷◌, [], List, ap, subst, sym, ◌∙◌, refl}
use Rattle.doc_changes.specs.declared.refusal.Refusal.{Refusal}
use Rattle.store_commits.specs.Inside.{IsEmpty}
use Rattle.store_commits.specs.Run.{Refused, Reply}
use Rattle.store_commits.specs.declared.segment.Segment.{Segment}
use Rattle.store_commits.proofs.plan.Planning.full.Goals as goal

pub returns : goal.returns
returns c =
    let p = c.args.self.now in
    let none = c.new-full.ensures in
    let other : Segment = record { base = c.new-full.result.base; frames = c.new-full.result.frames; each = c.new-full.result.each; adds = c.new-full.result.adds; replies = c.push-2.new.self } in
    record {
      other = other;
      closed = record {
        segments = c.in_ok-push-3.ensures.items ∙ ap (λ (l : List Segment). l ++ other ∷ []) (c.in_ok-push.ensures.items ∙ ap (λ (s : Segment). p.segments.items ++ s ∷ []) c.replace-last.ensures.value);
        last = subst IsEmpty (sym c.replace-last.ensures.after) c.new.ensures;
        capacity = refl;
        rides = refl;
      };
      base_is = none.base;
      frames_are = none.frames;
      each_are = none.each;
      adds_is = none.adds;
      replies = c.in_ok-push-2.ensures.items ∙ ap (λ (l : List Reply). l ++ Refused c.plain.result ∷ []) none.replies ∙ ap (λ (r : Refusal). Refused r ∷ []) c.plain.ensures;
      left = refl;
      bytes = refl;
    }
