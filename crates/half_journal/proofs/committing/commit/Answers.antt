use Rattle.std.proofs.Common.{rules}
use Rattle.half_journal.proofs.Commits.{Starts, can_write, knows_after, tried_failed}
use Rattle.half_journal.proofs.committing.commit.Goals as goal

pub returns-in_err-write_commit-clause-tried : goal.returns-in_err-write_commit-clause-tried
returns-in_err-write_commit-clause-tried g c = λ state honest knows carried copied.
    let starts : Starts c.args.known.now c.args.update c.start-start.result c.opens_after.result = search (rules, c.start-start.ensures, c.opens_after.ensures) in
    tried_failed c.write_commit.result c.from_residual.result c.from_residual.ensures.0 (c.write_commit.ensures.tried state
    (can_write starts state knows (g.D.SectorDevice.disk c.args.device.now) c.requires.formed.size honest carried copied c.requires.version c.requires.seq))

pub returns-clause-knows : goal.returns-clause-knows
returns-clause-knows g c = λ state knows.
    let starts : Starts c.args.known.now c.args.update c.start-start.result c.opens_after.result = search (rules, c.start-start.ensures, c.opens_after.ensures) in
    knows_after starts state knows c.sector_at-known.result c.sector_at-known.ensures

pub returns-clause-tried : goal.returns-clause-tried
returns-clause-tried g c = λ state honest knows carried copied.
    let starts : Starts c.args.known.now c.args.update c.start-start.result c.opens_after.result = search (rules, c.start-start.ensures, c.opens_after.ensures) in
    c.in_ok-write_commit.ensures.tried state (can_write starts state knows (g.D.SectorDevice.disk c.args.device.now) c.requires.formed.size honest carried copied c.requires.version c.requires.seq)
