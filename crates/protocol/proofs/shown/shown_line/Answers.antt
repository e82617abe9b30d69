use Rattle.std.proofs.Common.{◌++◌, codes, ap, ◌∙◌}
use Rattle.protocol.proofs.shown.shown_line.Goals as goal

pub returns : goal.returns
returns g c = λ reply shows. c.in_ok-push.ensures.items ∙ ap (λ l. l ++ codes "\n") (c.in_ok-line.ensures reply shows)
