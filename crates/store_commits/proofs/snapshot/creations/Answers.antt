use Rattle.std.proofs.Common.{◌∙◌, ◌++◌, ap, List, ℕ}
use Rattle.doc_changes.specs.StateView.{lent_of}
use Rattle.store_commits.proofs.Snapshots.{frame_goes, storable_at}
use Rattle.store_commits.proofs.snapshot.creations.Goals as goal

pub snapshot_frame-requires : goal.snapshot_frame-requires
snapshot_frame-requires c =
    let d = lent_of c.at-lent.result in
    (c.storable_documents_are_framed.ensures d (storable_at c.args.look.now.documents c.loop-place.place d c.len-documents.ensures.good.storable c.at-lent.ensures.document)).small

pub loop-place-preserved : goal.loop-place-preserved
loop-place-preserved c =
    let before = c.loop-place.frames.items in
    frame_goes c.args.rides c.args.look.now.documents c.loop-place.place (lent_of c.at-lent.result) before c.extend_from_slice.new.self.items c.at-lent.ensures.document
    (c.in_ok-extend_from_slice.ensures.items ∙ ap (λ (l : List ℕ). before ++ l) (c.deref.ensures.value ∙ c.in_ok-frame.ensures))
    ∙ c.loop-place.invariant
