use Rattle.std.proofs.Common.{ap, sym, append_assoc, arith, ◌++◌, ◌∷◌, [], ◌∙◌, List, ℕ, subst}
use Rattle.serve_lines.specs.Progress.{HasRead, held_in}
use Rattle.serve_lines.specs.Serve.{BreaksOff}
use Rattle.serve_lines.specs.declared.session.Session.{Session}
use Rattle.serve_lines.proofs.Ending.{breaks_off}
use Rattle.serve_lines.proofs.Telling.{any_err}
use Rattle.serve_lines.proofs.progress.Progress.take.Goals as goal

pub returns-in_err-tell-clause-err : goal.returns-in_err-tell-clause-err
returns-in_err-tell-clause-err g c = any_err c.from_residual.result (λ options start read before s more left.
    let now = c.lines.invariant options start read before s in
    let one = c.in-Some.ensures.heard in
    let behind = c.in-Some.behind.now in
    let h = one.hears options start now.0 now.2.replies now.2.hears in
    subst (λ (t : List ℕ). BreaksOff g.D.SectorDevice.disk options start t left c.next_reply.new.store)
    (sym (append_assoc (now.0 ++ one.taken) behind more) ∙ ap (λ (t : List ℕ). t ++ more) (append_assoc now.0 one.taken behind ∙ ap (λ (x : List ℕ). now.0 ++ x) one.split ∙ now.1))
    (breaks_off g.D.SectorDevice.disk options start (now.0 ++ one.taken) (behind ++ more) left c.next_reply.new.store _ _ h.2.rest h.2.reached))

pub lines-preserved : goal.lines-preserved
lines-preserved g c = λ options start read before s.
    let now = c.lines.invariant options start read before s in
    let one = c.in-Some.ensures.heard in
    let behind = c.in-Some.behind.now in
    let h = one.hears options start now.0 now.2.replies now.2.hears in (
      now.0 ++ one.taken,
      append_assoc now.0 one.taken behind ∙ ap (λ (x : List ℕ). now.0 ++ x) one.split ∙ now.1,
      record {
        replies = now.2.replies ++ h.0 ∷ [];
        hears = subst (λ (x : Session). HasRead g.D.SectorDevice.disk options start (now.0 ++ one.taken) c.next_reply.new.store x (now.2.replies ++ h.0 ∷ [])) (sym c.in_ok-tell.ensures.session) h.2;
        told = c.in_ok-tell.ensures.told before now.2.replies h.0 h.1 (record { tells = now.2.told.tells; counted = now.2.told.counted });
      },
    )

pub returns-clause-ok : goal.returns-clause-ok
returns-clause-ok g c = λ options start read before s.
    let now = c.lines.invariant options start read before s in
    let h = c.in_default.ensures.heard options start now.0 now.2.replies now.2.hears in
    record {
      replies = now.2.replies;
      hears = subst (λ (t : List ℕ). HasRead g.D.SectorDevice.disk options start t c.next_reply.new.store c.next_reply.new.self now.2.replies) now.1 h;
      told = record { tells = now.2.told.tells; counted = now.2.told.counted };
    }

pub lines-smaller : goal.lines-smaller
lines-smaller g c = omega (arith, c.in-Some.ensures.heard.less, ap held_in c.in_ok-tell.ensures.session)
