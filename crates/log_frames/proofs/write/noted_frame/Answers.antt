use Rattle.std.proofs.Common.{length, ap, arith}
use Rattle.log_frames.proofs.write.noted_frame.Goals as goal

pub as_kind-requires : goal.as_kind-requires
as_kind-requires c = omega (arith, ap length c.in_ok-bytes.ensures)
