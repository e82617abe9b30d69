use Rattle.std.proofs.Common.{◌≡◌, ◌+◌, ℕ, [], get_or, refl, List, set, ap, sym, subst, ◌∙◌, Bool, Option}
use Rattle.sector_device.specs.Disk.{Image}
use Rattle.sector_device.specs.History.{seen_after, OrWritten, left_by, KeepsTo}
use Rattle.sector_device.specs.declared.history.History.{History}
use Rattle.file_device.specs.Runs.{put_run, IsOverSome}
use Rattle.file_device.proofs.Runs.{over_self, over_some_set, put_run_more}
use Rattle.file_device.proofs.system.note_written.Goals as goal

pub loop-i-init : goal.loop-i-init
loop-i-init c = record { seen = refl; left = λ torn image is. (image, is, over_self torn c.args.first c.args.run.now 0 image); honest = λ n keeps. keeps }

pub loop-i-preserved : goal.loop-i-preserved
loop-i-preserved c =
    let inv = c.loop-i.invariant in
    let told = c.args.told.value in
    let noted = c.loop-i.noted.value in
    let first = c.args.first in
    let run = c.args.run.now in
    let i = c.loop-i.i in
    subst (λ (h : History). record { seen : seen_after h ≡ put_run (seen_after told) first run (i + 1); left : (torn : Option (List ℕ → Bool)) (image : Image) → left_by torn h image → IsOverSome torn (left_by torn told) first run (i + 1) image; honest : (n : ℕ) → KeepsTo n h → KeepsTo n told }) (sym c.of-noted.ensures) (record {
      seen = ap (λ (s : List ℕ). set (seen_after noted) (first + i) s) c.of-content.ensures ∙ ap (λ (m : Image). set m (first + i) (get_or run i [])) inv.seen ∙ sym (put_run_more (seen_after told) first run i);
      left = λ torn. subst (λ (s : List ℕ). (image : Image) → OrWritten torn (left_by torn noted) (first + i) s image → IsOverSome torn (left_by torn told) first run (i + 1) image) (sym c.of-content.ensures) (over_some_set torn first run i (left_by torn told) (left_by torn noted) (inv.left torn));
      honest = λ n keeps. inv.honest n keeps.0;
    })
