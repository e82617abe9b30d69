use Rattle.std.proofs.Common.{List, Vec, Global, ℕ, length, arith}
use Rattle.std.proofs.lemmas.List.{at_drop_all}
use Rattle.change_history.specs.Frames.{bytes_all}
use Rattle.change_history.proofs.batch.bytes_in.Goals as goal

pub returns : goal.returns
returns c =
    let l = c.loop-one in
    let none = at_drop_all (λ (vs : List (Vec ℕ Global)). length (bytes_all vs)) c.args.each.now l.one-index c.loop-one-test.false in
    let all = l.invariant.all in
    let most = l.invariant.most in
    omega (arith, none, all, most)
