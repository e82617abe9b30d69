use Rattle.std.proofs.Common.{◌≡◌, [], ℕ, List, ◌≤◌, ◌*◌, length}
use Rattle.std.specs.Vec.{vec_len}
use Rattle.std.specs.Io.KnownBytes.{Consumes}
use Rattle.serve_lines.specs.Progress.{SoFar}
use Rattle.serve_lines.proofs.serving.answer_all.Given as goal

abbrev pub invariant-loop : goal.invariant-loop
invariant-loop g l = record {
  so_far : (read : List ℕ) × Consumes (g.R.Read.remaining l.fn.reader) (g.R.Read.remaining l.reader) read
      × SoFar g.D.SectorDevice.disk l.fn.options l.fn.store read (g.W.Write.contents l.fn.writer) l.store l.progress (g.W.Write.contents l.writer)
      × (l.counter ≤ length read) × (length read ≤ 65_536 * l.counter);
  empty : l.progress.outbox.bytes.items ≡ [];
  taken : l.progress.session.ready.items ≡ [];
  room : vec_len l.piece ≡ 65_536;
}
