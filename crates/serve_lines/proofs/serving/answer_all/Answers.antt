use Rattle.std.proofs.Common.{◌≡◌, ◌≤◌, ◌++◌, [], ℕ, List, take, length, length-append, arith, ap, subst, sym}
use Rattle.std.specs.Io.KnownBytes.{Consumes}
use Rattle.std.proofs.lemmas.List.{append-nil, length-take-le}
use Rattle.store_commits.specs.Account.{IsStanding, StoreView}
use Rattle.store_commits.proofs.Modelled.{both_models}
use Rattle.serve_lines.specs.Serve.{BreaksOff}
use Rattle.serve_lines.proofs.Hearing.{hears_start}
use Rattle.serve_lines.proofs.Telling.{appends_none}
use Rattle.serve_lines.proofs.Pausing.{pauses}
use Rattle.serve_lines.proofs.Reading.{consumes_none, consumes_more, consumes_end, consumes_kept}
use Rattle.serve_lines.proofs.serving.answer_all.Goals as goal

pub loop-init : goal.loop-init
loop-init g c = record {
  so_far = (
    [],
    consumes_none (g.R.Read.remaining c.args.reader.now),
    record {
      replies = [];
      hears = hears_start g.D.SectorDevice.disk c.args.options.now (both_models g.D.SectorDevice.disk g.met.D.SectorDevice.coherent g.met.D.SectorDevice.torn_coherent) c.args.store.now c.in-Ok.progress.session [] (subst (λ (v : StoreView g.row.D.Denot). IsStanding (g.D.SectorDevice.disk v.device) v.account) c.store.ensures c.know.ensures.standing) c.in-Ok.ensures.options c.in-Ok.ensures.waiting c.in-Ok.ensures.taken c.in-Ok.ensures.line;
      told = record {
        tells = record { written = []; wrote = appends_none (g.W.Write.contents c.args.writer.now); whole = sym c.in-Ok.ensures.empty };
        counted = c.in-Ok.ensures.none;
      };
    },
    omega arith,
    omega arith,
  );
  empty = c.in-Ok.ensures.empty;
  taken = c.in-Ok.ensures.taken;
  room = omega (arith, c.in-Ok-vec.ensures.len);
}

pub returns-in_err-count-clause-reader : goal.returns-in_err-count-clause-reader
returns-in_err-count-clause-reader g c = λ e.
    let s = c.loop.invariant.so_far in (
      s.0,
      consumes_kept (g.R.Read.remaining c.args.reader.now) (g.R.Read.remaining c.loop.reader) (g.R.Read.remaining c.read_piece.new.reader) s.0 s.1 c.in_err-count.ensures.err.1,
      pauses g.D.SectorDevice.disk c.args.options.now c.args.store.now s.0 (g.W.Write.contents c.args.writer.now) c.loop.store c.loop.progress (g.W.Write.contents c.loop.writer) c.loop.invariant.empty c.loop.invariant.taken s.2,
    )

pub returns-clause-turns : goal.returns-clause-turns
returns-clause-turns g c = λ e.
    let s = c.loop.invariant.so_far in (
      s.0,
      s.1,
      pauses g.D.SectorDevice.disk c.args.options.now c.args.store.now s.0 (g.W.Write.contents c.args.writer.now) c.loop.store c.loop.progress (g.W.Write.contents c.loop.writer) c.loop.invariant.empty c.loop.invariant.taken s.2,
      omega (arith, s.3),
      omega (arith, s.4),
    )

pub returns-in_err-finish-clause-writer : goal.returns-in_err-finish-clause-writer
returns-in_err-finish-clause-writer g c = λ e.
    let s = c.loop.invariant.so_far in (
      s.0,
      consumes_end (g.R.Read.remaining c.args.reader.now) (g.R.Read.remaining c.loop.reader) (g.R.Read.remaining c.read_piece.new.reader) s.0 c.read_piece.new.piece.items c.in_ok-count.count s.1 c.in_ok-count.ensures.ok.1 c.if-count-eq0.true,
      c.in_err-finish.ensures.err c.args.options.now c.args.store.now s.0 (g.W.Write.contents c.args.writer.now) s.2 (g.R.Read.remaining c.read_piece.new.reader) (c.in_ok-count.ensures.ok.2 c.if-count-eq0.true),
    )

pub returns-then-count-eq0-clause-ok : goal.returns-then-count-eq0-clause-ok
returns-then-count-eq0-clause-ok g c =
    let s = c.loop.invariant.so_far in (
      s.0,
      consumes_end (g.R.Read.remaining c.args.reader.now) (g.R.Read.remaining c.loop.reader) (g.R.Read.remaining c.read_piece.new.reader) s.0 c.read_piece.new.piece.items c.in_ok-count.count s.1 c.in_ok-count.ensures.ok.1 c.if-count-eq0.true,
      c.in_ok-count.ensures.ok.2 c.if-count-eq0.true,
      c.in_ok-finish.ensures.ok c.args.options.now c.args.store.now s.0 (g.W.Write.contents c.args.writer.now) s.2,
      omega (arith, s.4),
    )

pub returns-in_err-turn-clause-writer : goal.returns-in_err-turn-clause-writer
returns-in_err-turn-clause-writer g c = λ e.
    let s = c.loop.invariant.so_far in
    let piece = take c.in_ok-count.count c.deref.result.now in
    let taken = subst (λ (p : List ℕ). Consumes (g.R.Read.remaining c.loop.reader) (g.R.Read.remaining c.read_piece.new.reader) (take c.in_ok-count.count p)) (sym c.deref.ensures.value) c.in_ok-count.ensures.ok.1 in (
      s.0 ++ piece,
      consumes_more (g.R.Read.remaining c.args.reader.now) (g.R.Read.remaining c.loop.reader) (g.R.Read.remaining c.read_piece.new.reader) s.0 piece s.1 taken,
      subst (λ (t : List ℕ). BreaksOff g.D.SectorDevice.disk c.args.options.now c.args.store.now t (g.R.Read.remaining c.read_piece.new.reader) c.turn.new.store) (append-nil (s.0 ++ piece))
          (c.in_err-turn.ensures.err c.args.options.now c.args.store.now s.0 (g.W.Write.contents c.args.writer.now) s.2 [] (g.R.Read.remaining c.read_piece.new.reader)),
    )

pub loop-preserved : goal.loop-preserved
loop-preserved g c =
    let s = c.loop.invariant.so_far in
    let piece = take c.in_ok-count.count c.deref.result.now in
    let taken = subst (λ (p : List ℕ). Consumes (g.R.Read.remaining c.loop.reader) (g.R.Read.remaining c.read_piece.new.reader) (take c.in_ok-count.count p)) (sym c.deref.ensures.value) c.in_ok-count.ensures.ok.1 in
    let longer = length-append s.0 piece in
    let few : c.in_ok-count.count ≤ 65_536 = omega (arith, c.in_ok-count.ensures.ok.0, c.read_piece.ensures.len, c.loop.invariant.room) in
    let size : length piece ≡ c.in_ok-count.count = length-take-le c.in_ok-count.count c.deref.result.now (omega (arith, c.in_ok-count.ensures.ok.0, ap length c.deref.ensures.value)) in
    record {
      so_far = (
        s.0 ++ piece,
        consumes_more (g.R.Read.remaining c.args.reader.now) (g.R.Read.remaining c.loop.reader) (g.R.Read.remaining c.read_piece.new.reader) s.0 piece s.1 taken,
        c.in_ok-turn.ensures.ok c.args.options.now c.args.store.now s.0 (g.W.Write.contents c.args.writer.now) s.2,
        omega (arith, longer, size, s.3),
        omega (arith, longer, size, few, s.4),
      );
      empty = c.in_ok-turn.ensures.empty;
      taken = c.in_ok-turn.ensures.taken;
      room = omega (arith, c.read_piece.ensures.len, c.loop.invariant.room);
    }
