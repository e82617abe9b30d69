use Rattle.std.proofs.Common.{sym, ◌∙◌, ⊎_elim, arith}
use Rattle.store_commits.proofs.segment.append.Goals as goal

pub returns-in-Err-clause-appended : goal.returns-in-Err-clause-appended
returns-in-Err-clause-appended g c = record {
  outcome = (
    (λ no. absurd (cc no)),
    (λ _.
        ⊎_elim (λ broke. broke.1)
        (λ other. ⊎_elim (λ is. (let contrary = sym c.requires.takes.works ∙ is.1 in absurd (cc contrary)))
        (⊎_elim (λ is. (let over = is.2 in let fits = c.requires.takes.fits in absurd (omega (arith, over, fits))))
        (⊎_elim (λ is. ⊎_elim (λ over. (let fits = c.requires.takes.seq_fits in absurd (omega (arith, over, fits)))) (λ end. (let left = c.requires.takes.next_fits in absurd (omega (arith, end, left)))) is.3) (λ is. absurd (other.0 is.0)))) c.in-Err.ensures.refused)
        c.in-Err.ensures.err),
    c.in-Err.ensures.copied,
  );
  any_moment = λ honest. c.in-Err.ensures.any_moment honest c.requires.takes.works;
  kept = c.in-Err.ensures.kept;
  honest = c.in-Err.ensures.honest;
}
