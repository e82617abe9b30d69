use Rattle.std.proofs.Common.{◌≡◌, ◌+◌, ◌-◌, ◌∙◌, ◌++◌, ◌∷◌, ℕ, suc, List, ap, sym, arith, rules, drop, drop-cons, length, map}
use Rattle.std.proofs.lemmas.List.{append_assoc}
use Rattle.record_text.specs.Change.{change_of}
use Rattle.record_text.specs.Frame.{entry}
use Rattle.log_frames.specs.Kinds.{frame_as, logged}
use Rattle.log_frames.specs.declared.kind.Kind.{Kind}
use Rattle.store_commits.specs.Inside.{frames_before, kind_of}
use Rattle.store_commits.proofs.Changes.{frames_step}
use Rattle.store_commits.proofs.frames.frames_before.Goals as goal

-- the frame of this change, and the frames of those that are left
pub loop-command-preserved : goal.loop-command-preserved
loop-command-preserved c =
    let l = c.loop-command in
    let i = l.command-index in
    let items = c.args.commands.now in
    let item = c.command-item.result in
    let before = l.frames.items in
    let after = c.extend_from_slice.new.self.items in
    let rides = c.args.rides in
    let more = c.args.more in
    let in_range = c.loop-command-test.true in
    let counted = l.invariant.1 in
    let here : drop i items ≡ item ∷ drop (suc i) items = drop-cons items i item in_range ∙ ap (λ x. x ∷ drop (suc i) items) (sym c.command-item.is) in
    let count : (l.left - 1) + suc i ≡ length items + more = omega (arith, counted, in_range) in
    let last : c.in_ok-last.last ≡ l.last + 1 = search rules in
    let next : i + 1 ≡ suc i = omega arith in
    let f = frame_as (logged (kind_of rides (l.left - 1)) (entry (l.last + 1) (change_of item))) in
    let rest = frames_before rides more (l.last + 1) (map change_of (drop (suc i) items)) in
    let frame : c.deref.result.now ≡ f =
    c.deref.ensures.value ∙ c.in_ok-bytes.ensures ∙ ap (λ (k : Kind). frame_as (logged k (entry (l.last + 1) (change_of item)))) c.kind_of.ensures in (
      ap (λ (n : ℕ). after ++ frames_before rides more n (map change_of (drop (i + 1) items))) last
          ∙ ap (λ (n : ℕ). after ++ frames_before rides more (l.last + 1) (map change_of (drop n items))) next
          ∙ ap (λ (x : List ℕ). x ++ rest) (c.in-Ok.ensures.items ∙ ap (λ (x : List ℕ). before ++ x) frame) ∙ append_assoc before f rest
          ∙ ap (λ (x : List ℕ). before ++ x) (frames_step rides more change_of items i (l.left - 1) l.last item here count) ∙ l.invariant.0,
      omega (arith, counted, in_range),
    )
