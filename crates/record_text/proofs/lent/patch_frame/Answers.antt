use Rattle.std.proofs.Common.{rules, ◌<◌, ◌^◌, None}
use Rattle.record_text.specs.Change.{patch}
use Rattle.record_text.proofs.Frames.{begins}
use Rattle.record_text.proofs.lent.patch_frame.Goals as goal

pub returns-clause-begins : goal.returns-clause-begins
returns-clause-begins c = λ ops is sound low.
    let b = c.in-Ok-body_within.ensures in
    let fits : c.in-Ok.seq < 2 ^ 64 = search rules in
    let text = c.in_ok-name.ensures ops is sound low in
    begins c.args.bytes.now c.in-Ok-body_within.body.now c.in-Ok.seq (patch c.in_ok-name.name.now ops None) b.0 b.1 b.2 c.in-Ok.ensures.1 fits c.type_inv.bytes text
