use Rattle.std.proofs.Common.{◌≡◌, ◌∙◌, ◌∷◌, ◌+◌, ℕ, [], List, ap, drop, subst, sym, arith}
use Rattle.std.specs.Io.KnownBytes.{Appends}
use Rattle.std.proofs.lemmas.List.{drop_all}
use Rattle.sector_device.specs.Disk.{Image}
use Rattle.sector_device.proofs.Charges.{read_joined, read_none}
use Rattle.store_parts.specs.Parts.{AreParts, HasPart}
use Rattle.store_parts.specs.declared.part.Part.{Part}
use Rattle.store_parts.proofs.Keeps.{keeps_joined, keeps_none}
use Rattle.store_salvage.proofs.Later.{all_later}
use Rattle.damaged_files.specs.Frames.{IsPartText, IsPartsText}
use Rattle.damaged_files.proofs.Listed.{rest_is}
use Rattle.damaged_files.proofs.PartTexts.{wrote_all, wrote_more, wrote_none}
use Rattle.damaged_files.proofs.parts.show_parts.Goals as goal

pub loop-part-init : goal.loop-part-init
loop-part-init g c =
    let device = c.args.device.now in
    let disk = g.D.SectorDevice.disk in
    record {
      same = read_none (disk device);
      keeps = λ h. keeps_none (disk device) (g.met.D.SectorDevice.coherent device h);
      parts = subst (λ (ps : List Part). AreParts (disk device).sectors ps) (sym c.deref-part-items.ensures.value) c.requires;
      shown = λ h. wrote_none (disk device).seen c.args.found.now _ _;
    }

pub loop-part-preserved : goal.loop-part-preserved
loop-part-preserved g c =
    let disk = g.D.SectorDevice.disk in
    let old = disk c.args.device.now in
    let mid = disk c.loop-part.device in
    let new = disk c.part_text.new.device in
    let inv = c.loop-part.invariant in
    let read = c.part_text.ensures in
    let parts = c.deref-part-items.result.now in
    let i = c.loop-part.part-index in
    let here : drop i parts ≡ c.part-item.result ∷ drop (i + 1) parts = rest_is parts i c.part-item.result c.loop-part-test.true ∙ ap (λ (p : Part). p ∷ drop (i + 1) parts) (sym c.part-item.is) in
    record {
      same = read_joined old mid new inv.same read.same;
      keeps = λ h. keeps_joined old mid new (inv.keeps (read.same.honest h)) (read.unwritten h);
      parts = all_later (HasPart old.sectors) parts i inv.parts;
      shown = λ h.
          let text = subst (λ (image : Image). IsPartText image c.args.found.now c.part-item.result c.in_ok-text.text.items) (inv.keeps (read.same.honest h)).seen (c.in_ok-text.ensures.text h) in
          wrote_more old.seen c.args.found.now parts i c.part-item.result c.in_ok-text.text.items _ _ _ here (inv.shown (read.same.honest h)) text
          (subst (λ (l : List ℕ). Appends (g.O.Write.contents c.loop-part.writer) (g.O.Write.contents c.show.new.writer) l) c.deref.ensures.value c.in_ok-show.ensures);
    }

pub returns-clause-shown : goal.returns-clause-shown
returns-clause-shown g c = λ h.
    let old = g.D.SectorDevice.disk c.args.device.now in
    let parts = c.deref-part-items.result.now in
    subst (λ (ps : List Part). (x : List ℕ) × IsPartsText old.seen c.args.found.now ps x × Appends (g.O.Write.contents c.args.writer.now) (g.O.Write.contents c.loop-part.writer) x) c.deref-part-items.ensures.value
    (wrote_all old.seen c.args.found.now parts c.loop-part.part-index _ _ (drop_all c.loop-part.part-index parts (omega arith)) (c.loop-part.invariant.shown h))
