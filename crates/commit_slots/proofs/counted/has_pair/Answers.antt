use Rattle.commit_slots.proofs.counted.has_pair.Goals as goal

pub returns : goal.returns
returns c = λ image long begins. c.is_either.ensures image c.args.pair c.requires.pair (c.in_ok-first.ensures image long begins) (c.in_ok-mate.ensures image long begins)
