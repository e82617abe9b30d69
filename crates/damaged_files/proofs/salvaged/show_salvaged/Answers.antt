use Rattle.std.proofs.Common.{subst}
use Rattle.sector_device.specs.Disk.{Image}
use Rattle.store_parts.specs.Parts.{HaveTails}
use Rattle.store_salvage.specs.Making.{IsMade}
use Rattle.store_salvage.proofs.Gathers.{of_found}
use Rattle.damaged_files.proofs.salvaged.show_salvaged.Goals as goal

pub returns-clause-made : goal.returns-clause-made
returns-clause-made g c = λ h.
    let seen = (g.D.SectorDevice.disk c.args.device.now).seen in
    let found = c.in-Some.found in
    let made = c.in-Some-2.made in
    let before = c.salvage.ensures.same.honest h in
    record {
      tails = of_found (λ f. HaveTails seen f.parts.items) c.in_ok-found.field-0 found c.in-Some.is (c.in_ok-found.ensures.tails before);
      made = subst (λ (image : Image). IsMade image found made) (c.examine.ensures.unwritten before).seen (of_found _ c.in_ok-made.field-0 made c.in-Some-2.is (c.in_ok-made.ensures.made h));
    }
