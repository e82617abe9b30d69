use Rattle.std.proofs.Common.{None}
use Rattle.record_text.specs.Change.{patch}
use Rattle.log_frames.proofs.Frames.{begins}
use Rattle.log_frames.proofs.read.patch_frame_as.Goals as goal

pub returns-clause-begins : goal.returns-clause-begins
returns-clause-begins c = λ ops is sound low.
    let p = c.in-Ok.parts in
    let text = c.in_ok-name.ensures ops is sound low in
    begins c.args.bytes.now p.body.now p.kind p.seq (patch c.in_ok-name.name.now ops None) c.in-Ok.ensures c.type_inv.bytes text
