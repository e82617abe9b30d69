use Rattle.std.proofs.Common.{ap, ◌++◌, ◌∙◌, sym, subst}
use Rattle.serve_lines.specs.Progress.{HasRead}
use Rattle.serve_lines.specs.declared.session.Session.{Session}
use Rattle.serve_lines.proofs.Telling.{with_ok, any_err}
use Rattle.serve_lines.proofs.Ending.{breaks_off}
use Rattle.serve_lines.proofs.progress.Progress.turn.Goals as goal

pub returns-clause-ok : goal.returns-clause-ok
returns-clause-ok g c = with_ok c.deliver.result c.deliver.ensures.ok c.deliver.ensures.session (λ delivers same options start read before s.
    let now = c.in_ok-take.ensures.ok options start read before s in
    record {
      replies = now.replies;
      hears = subst (λ (x : Session). HasRead g.D.SectorDevice.disk options start (read ++ c.args.piece.now) c.take.new.store x now.replies) (sym same) now.hears;
      told = delivers before now.replies now.told;
    })

pub returns-clause-taken : goal.returns-clause-taken
returns-clause-taken g c = with_ok c.deliver.result c.deliver.ensures.session c.deliver.ensures.session (λ same _. ap (λ (x : Session). x.ready.items) same ∙ c.in_ok-take.ensures.taken)

pub returns-clause-err : goal.returns-clause-err
returns-clause-err g c = any_err c.deliver.result (λ options start read before s more left.
    let now = c.in_ok-take.ensures.ok options start read before s in
    breaks_off g.D.SectorDevice.disk options start (read ++ c.args.piece.now) more left c.take.new.store _ _ now.hears.rest now.hears.reached)
