use Rattle.std.proofs.Common.{ℕ, List, Bool, Option, ap, subst, sym, ◌∙◌}
use Rattle.sector_device.specs.Disk.{Image}
use Rattle.sector_device.specs.Coherence.{seen_by}
use Rattle.sector_device.specs.History.{seen_after, left_by}
use Rattle.sector_device.specs.declared.history.History.{History}
use Rattle.file_device.proofs.system.SystemFile.sync.Goals as goal

pub returns-in-Ok-clause-left : goal.returns-in-Ok-clause-left
returns-in-Ok-clause-left c =
    let told = c.args.self.now.told.value in
    subst (λ (h : History). (torn : Option (List ℕ → Bool)) (image : Image) → left_by torn h image → left_by torn told image) (sym c.of.ensures) (λ torn image is. subst (left_by torn told) (sym (is ∙ ap seen_after c.take_told-earlier.ensures)) (seen_by torn told))
