use Rattle.store_salvage.proofs.OfParts.{made_without}
use Rattle.store_salvage.proofs.making.with_part.Goals as goal

pub returns-clause-made : goal.returns-clause-made
returns-clause-made g c = λ h best.
    let old = g.D.SectorDevice.disk c.args.device.now in
    let made = c.in_ok-made.made in
    c.newer.ensures.made old.seen c.args.found.now best
    (made_without old.seen c.args.found.now c.args.place c.args.part.now made c.requires.none c.requires.there c.in_ok-made.ensures.place (c.in_ok-made.ensures.made h))
