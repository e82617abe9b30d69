use Rattle.std.proofs.Common.{List, ℕ, length, set, ap, ◌∙◌, arith}
use Rattle.doc_tree.specs.TreeView.{view}
use Rattle.record_text.specs.Change.{create}
use Rattle.record_text.specs.Frame.{entry}
use Rattle.log_frames.specs.declared.kind.Kind.TheVariants.{Kept}
use Rattle.log_frames.proofs.Frames.{frame_as-set}
use Rattle.log_frames.proofs.write.kept_frame.Goals as goal

pub as_kind-requires : goal.as_kind-requires
as_kind-requires c = omega (arith, ap length c.in_ok-bytes.ensures)

pub returns : goal.returns
returns c =
    c.as_kind.ensures ∙ ap (λ (bytes : List ℕ). set bytes 0 2) c.in_ok-bytes.ensures
    ∙ frame_as-set Kept (entry c.args.revision (create c.args.name.now (view c.args.schema.now) (view c.args.doc.now))) c.requires
