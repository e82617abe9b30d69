use Rattle.std.proofs.Common.{refl}
use Rattle.told_transactions.proofs.Cutting.{is_cut}
use Rattle.told_transactions.proofs.frame.first_frame.Goals as goal

pub returns-clause-begins : goal.returns-clause-begins
returns-clause-begins c =
    let parts = c.split_at.ensures in
    is_cut c.args.bytes.now c.in_ok-head.head.now c.in_ok-head.rest.now c.in_ok-seq.seq.now c.in_ok-seq.rest.now c.from_be_bytes-stated.result c.from_be_bytes.result _ c.in_ok-kind.kind
    c.split_at.result.0.now c.split_at.result.1.now c.in_ok-head.ensures.cases c.in_ok-seq.ensures.cases c.from_be_bytes-stated.ensures c.from_be_bytes.ensures c.in_ok-kind.ensures refl parts.front parts.back
