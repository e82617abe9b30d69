-- The bytes with which the other half is known to begin.
use Rattle.std.proofs.Common.{◌≡◌, ℕ, ◌+◌, ◌*◌, ◌<◌, ◌≤◌, min, List, length, take, drop, sym, ◌∙◌, arith}
use Rattle.std.proofs.lemmas.List.{length-take, get_or-take}
use Rattle.sector_device.specs.Disk.{Image}
use Rattle.sector_device.specs.Sectors.{Begins, Over, SectorsHold}
use Rattle.half_journal.specs.Reads.{bytes_read}
use Rattle.half_journal.proofs.Images.{holds_more}
use Rattle.half_journal.proofs.Views.{read_begins}

-- a run of writes of the target, over a half that begins with its first bytes
pub stepped : (old new : Image) (start place count from answer : ℕ) (target : List ℕ) → 512 * place ≤ from → from ≤ length target → answer ≡ min (length target) (512 * (place + count)) → Begins old start (take from target)
    → Over (start + place) count (drop (512 * place) target) old new → SectorsHold new (start + place) count (drop (512 * place) target) → bytes_read new start answer ≡ take answer target
stepped old new start place count from answer target under within answer_is begins over written =
    let size : answer ≡ length (take answer target) = omega (arith, length-take answer target, answer_is) in
    read_begins new start answer (take answer target)
    (λ i lt.
    let low : i < answer = omega (arith, lt, size) in
    holds_more start target from answer place count old new (λ k lower. begins k (omega (arith, lower, within, length-take from target)) ∙ get_or-take from target k 0 lower) over written under (λ k above below. omega (arith, below, answer_is)) i low
    ∙ sym (get_or-take answer target i 0 low))
    size
