use Rattle.std.proofs.Common.{◌+◌, ◌-◌, length, arith, ap}
use Rattle.std.proofs.lemmas.Slice.{drop-put_mid}
use Rattle.commit_slots.proofs.spread.put.Goals as goal

pub returns-clause-rest : goal.returns-clause-rest
returns-clause-rest c =
    let at = c.args.at in
    let n = length c.args.bytes.now in
    drop-put_mid at (at + n - at) c.args.piece.now c.copy_from_slice.new.self (at + n) (omega arith) (omega (arith, c.told-piece)) (omega (arith, ap length c.copy_from_slice.ensures.after))
