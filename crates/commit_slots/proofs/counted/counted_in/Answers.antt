use Rattle.commit_slots.proofs.Four.{best_of_four, best_of_one}
use Rattle.commit_slots.proofs.counted.counted_in.Goals as goal

pub returns : goal.returns
returns c = λ image long begins.
    let first = best_of_one image c.in_ok-first.first (c.in_ok-first.ensures image long begins) in
    let even = c.higher-even.ensures image 1 first (c.in_ok-second.ensures image long begins) in
    let three = c.higher-three.ensures image 2 even (c.in_ok-third.ensures image long begins) in
    best_of_four image c.higher.result (c.higher.ensures image 3 three (c.in_ok-fourth.ensures image long begins))
