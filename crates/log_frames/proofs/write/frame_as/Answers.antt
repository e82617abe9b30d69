use Rattle.std.proofs.Common.{List, ℕ, length, set, ap, ◌∙◌, arith}
use Rattle.record_text.specs.Change.{change_of}
use Rattle.record_text.specs.Frame.{entry}
use Rattle.log_frames.specs.Kinds.{code_of}
use Rattle.log_frames.proofs.Frames.{frame_as-set}
use Rattle.log_frames.proofs.write.frame_as.Goals as goal

pub as_kind-requires : goal.as_kind-requires
as_kind-requires c = omega (arith, ap length c.in_ok-bytes.ensures.frame)

pub returns-clause-frame : goal.returns-clause-frame
returns-clause-frame c =
    c.as_kind.ensures ∙ ap (λ (bytes : List ℕ). set bytes 0 (code_of c.args.kind)) c.in_ok-bytes.ensures.frame
    ∙ frame_as-set c.args.kind (entry c.args.seq (change_of c.args.command.now)) c.in_ok-bytes.ensures.small
