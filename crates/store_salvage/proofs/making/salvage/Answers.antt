use Rattle.std.proofs.Common.{length, refl}
use Rattle.store_salvage.proofs.OfParts.{made_first, there}
use Rattle.store_salvage.proofs.making.salvage.Goals as goal

pub returns-in_ok-made-in-Some-clause-made : goal.returns-in_ok-made-in-Some-clause-made
returns-in_ok-made-in-Some-clause-made g c = λ h.
    let found = c.args.found.now in
    let part = c.in-Some.part.now in
    let made = c.in_ok-made-in-Some.made in
    made_first (g.D.SectorDevice.disk c.args.device.now).seen found part made
    (there c.deref.result.now found.parts.items 0 part c.deref.ensures.value c.in-Some.ensures.lookup.3.0 c.in-Some.ensures.lookup.1) c.in_ok-made-in-Some.ensures.place (c.in_ok-made-in-Some.ensures.made h)
