-- Batches of one change.
use Rattle.std.proofs.Common.{◌≡◌, ap, sym, ◌∙◌, subst, ℕ, List, ◌++◌, length, arith}
use Rattle.std.proofs.lemmas.List.{append-nil}
use Rattle.sector_device.specs.Disk.{Disk}
use Rattle.serve_lines.specs.Serve.{OneNeverWaits, Writes}
use Rattle.serve_lines.proofs.Batching.{none_long}
use Rattle.serve_lines.proofs.Ending.{asked_length}

pub one_never_waits : {D : Type 0} (disk : D → Disk) → OneNeverWaits disk
one_never_waits disk options old new lines before after one p =
    let none : length p.changes ≡ 0 = omega (arith, p.fewer, one) in
    let all : p.done ≡ lines = sym (p.parts ∙ ap (λ (l : List (List ℕ)). p.done ++ l) (none_long p.waiting (asked_length p.waiting p.changes p.asked ∙ none)) ∙ append-nil p.done) in
    subst (λ (ls : List (List ℕ)). Writes disk options old ls before new after) all p.writes
