use Rattle.std.proofs.Common.{◌≡◌, ◌∙◌, ◌++◌, ℕ, List, Some, ap, sym, subst, map, slice_get}
use Rattle.log_frames.specs.Kinds.{frame_as, logged}
use Rattle.log_frames.specs.declared.kind.Kind.TheVariants.{Noted}
use Rattle.doc_changes.specs.Marks.{IsMark, Mark}
use Rattle.doc_changes.specs.MarkView.{mark_in}
use Rattle.store_commits.specs.Notes.{noted_entry}
use Rattle.store_commits.proofs.Snapshots.{mapped_at, mark_at, mark_goes}
use Rattle.store_commits.proofs.snapshot.mark_frames.Goals as goal

-- each of them is a mark, so its frame has room
pub noted_frame-requires : goal.noted_frame-requires
noted_frame-requires c =
    let item = c.mark-item.result in
    let i = c.loop-mark.mark-index in
    let marks = map mark_in c.args.marks.now in
    let lent : Mark = record { key = c.deref.result.now; value = c.deref-in-loop-mark.result.now; seq = item.seq } in
    let same : mark_in item ≡ lent = λ j. record { key = sym c.deref.ensures j; value = sym c.deref-in-loop-mark.ensures j; seq = item.seq } in
    let there : slice_get marks i ≡ Some (mark_in item) = mapped_at mark_in c.args.marks.now i item c.loop-mark-test.true c.mark-item.is in
    (c.marks_are_framed.ensures lent (subst IsMark same (mark_at marks i (mark_in item) c.requires there))).small

pub loop-mark-preserved : goal.loop-mark-preserved
loop-mark-preserved c =
    let item = c.mark-item.result in
    let i = c.loop-mark.mark-index in
    let marks = map mark_in c.args.marks.now in
    let before = c.loop-mark.frames.items in
    let after = c.extend_from_slice.new.self.items in
    let lent : Mark = record { key = c.deref.result.now; value = c.deref-in-loop-mark.result.now; seq = item.seq } in
    let same : lent ≡ mark_in item = λ j. record { key = c.deref.ensures j; value = c.deref-in-loop-mark.ensures j; seq = item.seq } in
    let there : slice_get marks i ≡ Some (mark_in item) = mapped_at mark_in c.args.marks.now i item c.loop-mark-test.true c.mark-item.is in
    let frame : c.deref-in-loop-mark-2.result.now ≡ frame_as (logged Noted (noted_entry (mark_in item))) =
    c.deref-in-loop-mark-2.ensures.value ∙ c.in_ok-frame.ensures ∙ ap (λ (m : Mark). frame_as (logged Noted (noted_entry m))) same in
    mark_goes marks i (mark_in item) before after there (c.in_ok-extend_from_slice.ensures.items ∙ ap (λ (l : List ℕ). before ++ l) frame) ∙ c.loop-mark.invariant
