use Rattle.std.proofs.Common.{inl, inr, sym, refl, ◌∙◌}
use Rattle.serve_lines.proofs.batch.follow.Goals as goal

pub returns-then-has_done : goal.returns-then-has_done
returns-then-has_done g c = inl (sym c.has_done.ensures ∙ c.if-has_done.true, c.go_on.ensures)

pub returns-else-has_done : goal.returns-else-has_done
returns-else-has_done g c = inr ((λ done. let contrary = sym done ∙ sym c.has_done.ensures ∙ c.if-has_done.false in absurd (cc contrary)), refl)
