use Rattle.log_frames.proofs.Frames.{are_stated}
use Rattle.log_frames.proofs.read.parts_within.Goals as goal

pub returns : goal.returns
returns c =
    are_stated c.args.bytes.now c.in-Some.first.now c.in-Some.rest.now c.in-Some-split_first_chunk.seq.now c.in-Some-split_first_chunk.rest.now
    c.from_be_bytes.result c.from_be_bytes-2.result c.in_ok-kind.len c.in_ok-kind.kind
    c.in-Some.ensures.cases c.in-Some-split_first_chunk.ensures.cases
    c.from_be_bytes.ensures c.from_be_bytes-2.ensures c.from_be_bytes-2.type_inv c.in_ok-kind.ensures c.if-rest-len.false
