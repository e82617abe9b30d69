use Rattle.std.proofs.Common.{◌≡◌, ℕ, List, ◌+◌, ◌++◌, length, Option}
use Rattle.recorded_store.specs.Recorded.{RecordedView}
use Rattle.serve_lines.specs.Progress.{held_in, SoFar}
use Rattle.serve_lines.specs.declared.options.Options.{Options}
use Rattle.serve_lines.proofs.progress.Progress.take.Given as goal

abbrev pub invariant-lines : goal.invariant-lines
invariant-lines g l =
    (options : Options) (start : RecordedView g.row.D.Denot) (read : List ℕ) (before : Option (List ℕ)) → SoFar g.D.SectorDevice.disk options start read before l.fn.store l.fn.self (g.W.Write.contents l.fn.writer)
    → (so_far : List ℕ) × (so_far ++ l.rest ≡ read ++ l.fn.piece) × SoFar g.D.SectorDevice.disk options start so_far before l.store l.self (g.W.Write.contents l.writer)

abbrev pub decreases-lines : goal.decreases-lines
decreases-lines g l = length l.rest + held_in l.self.session
