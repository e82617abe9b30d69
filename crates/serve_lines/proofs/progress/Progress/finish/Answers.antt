use Rattle.std.proofs.Common.{◌++◌}
use Rattle.serve_lines.proofs.Ending.{breaks_off_end}
use Rattle.serve_lines.proofs.Telling.{any_err, tells_all}
use Rattle.serve_lines.proofs.progress.Progress.finish.Goals as goal

pub returns-in_err-tell_rest-clause-err : goal.returns-in_err-tell_rest-clause-err
returns-in_err-tell_rest-clause-err g c = any_err c.from_residual.result (λ options start read before s left end.
    let e = c.finish.ensures.ended c.requires.taken options start read s.replies s.hears in
    breaks_off_end g.D.SectorDevice.disk options start read left c.finish.new.store (s.replies ++ e.ready) end e.session)

pub returns-in_err-deliver-clause-err : goal.returns-in_err-deliver-clause-err
returns-in_err-deliver-clause-err g c = any_err c.from_residual-in_err-deliver.result (λ options start read before s left end.
    let e = c.finish.ensures.ended c.requires.taken options start read s.replies s.hears in
    breaks_off_end g.D.SectorDevice.disk options start read left c.finish.new.store (s.replies ++ e.ready) end e.session)

pub returns-clause-ok : goal.returns-clause-ok
returns-clause-ok g c = λ options start read before s.
    let e = c.finish.ensures.ended c.requires.taken options start read s.replies s.hears in
    let rest = c.in_ok-tell_rest.ensures.told before s.replies e.ready e.says (record { tells = s.told.tells; counted = s.told.counted }) in
    let told = c.in_ok-deliver.ensures.ok before (s.replies ++ e.ready) rest in
    record {
      told = record {
        replies = s.replies ++ e.ready;
        session = e.session;
        wrote = tells_all before (g.W.Write.contents c.deliver.new.writer) c.deliver.new.self.outbox _ c.in_ok-deliver.ensures.empty told.tells;
      };
      counted = told.counted;
    }
