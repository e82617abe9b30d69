use Rattle.store_parts.proofs.findings.in_slots.Goals as goal

pub returns-clause-seq : goal.returns-clause-seq
returns-clause-seq c = c.seq_of-seq.ensures c.in_ok-size.size c.args.slots.now c.in_ok-best.ensures
