use Rattle.std.proofs.Common.{◌≡◌, ◌+◌, ◌<◌, ℕ, [], get_or, ap, sym, subst, ◌∙◌, arith, below_more, List, Bool, Option}
use Rattle.sector_device.specs.Disk.{Image}
use Rattle.sector_device.specs.History.{seen_after, left_by, KeepsTo}
use Rattle.sector_device.specs.declared.history.History.{History}
use Rattle.file_device.proofs.system.note_read.Goals as goal

pub loop-i-preserved : goal.loop-i-preserved
loop-i-preserved c =
    let inv = c.loop-i.invariant in
    let told = c.args.told.value in
    let noted = c.loop-i.noted.value in
    let first = c.args.first in
    let run = c.args.run.now in
    let i = c.loop-i.i in
    subst (λ (h : History). record { seen : seen_after h ≡ seen_after told; left : (torn : Option (List ℕ → Bool)) (image : Image) → left_by torn h image → left_by torn told image; honest : (n : ℕ) → KeepsTo n h → KeepsTo n told; gave : (n : ℕ) → KeepsTo n h → (j : ℕ) → j < i + 1 → get_or run j [] ≡ get_or (seen_after told) (first + j) [] }) (sym c.of-noted.ensures) (record {
      seen = inv.seen;
      left = inv.left;
      honest = λ n keeps. inv.honest n keeps.0;
      gave = λ n keeps. below_more (λ j. get_or run j [] ≡ get_or (seen_after told) (first + j) []) i (inv.gave n keeps.0) (sym c.of-content.ensures ∙ keeps.1 ∙ ap (λ (image : Image). get_or image (first + i) []) inv.seen);
    })

pub returns-clause-gave : goal.returns-clause-gave
returns-clause-gave c = λ n keeps j lt. c.loop-i.invariant.gave n keeps j (omega (arith, lt))
