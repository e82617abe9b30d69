use Rattle.std.proofs.Common.{[], sym, arith}
use Rattle.half_journal.proofs.Fillings.{LacksStore, all_done, none_or_all}
use Rattle.half_journal.proofs.Since.{begin}
use Rattle.half_journal.proofs.filling.format_empty.Goals as goal

pub returns-clause-any_moment : goal.returns-clause-any_moment
returns-clause-any_moment g c = λ honest none.
    let old = g.D.SectorDevice.disk c.args.device.now in
    let coherent = g.met.D.SectorDevice.coherent c.args.device.now in
    none_or_all old (g.D.SectorDevice.disk c.replace_commit.new.device) c.args.sectors [] 0 0 c.requires.sized (omega arith) (omega arith) (omega arith) (coherent honest) (sym c.requires.size) (λ image left i lt. absurd (omega (arith, lt)))
    old c.replace_commit.result (begin old c.args.sectors LacksStore honest coherent (sym c.requires.size) none) (c.replace_commit.ensures.replaces honest)

pub returns-clause-done : goal.returns-clause-done
returns-clause-done g c = λ honest.
    let old = g.D.SectorDevice.disk c.args.device.now in
    all_done old (g.D.SectorDevice.disk c.replace_commit.new.device) c.args.sectors [] 0 0 c.requires.sized (omega arith) (omega arith) (omega arith) (g.met.D.SectorDevice.coherent c.args.device.now honest) (sym c.requires.size)
    (λ image left i lt. absurd (omega (arith, lt))) c.replace_commit.result (c.replace_commit.ensures.replaces honest)
