use Rattle.std.proofs.Common.{ℕ, List, refl, sym, ap, subst, inl, ◌∙◌}
use Rattle.path_grammar.specs.Reading.{read_digits}
use Rattle.path_words.specs.CappedNumbers.{IsCapped}
use Rattle.path_words.proofs.Capped.{capped_law}
use Rattle.path_words.proofs.integers.digits.Goals as goal

pub returns-clause-size : goal.returns-clause-size
returns-clause-size c =
    let law = capped_law c.args.first c.args.first c.args.text.now (inl refl) in
    subst (λ (p : ℕ × List ℕ). IsCapped p.0 (read_digits c.args.first c.args.text.now).0) (sym c.capped_digits.ensures) law.0

pub returns-clause-rest : goal.returns-clause-rest
returns-clause-rest c =
    let law = capped_law c.args.first c.args.first c.args.text.now (inl refl) in
    ap (λ (p : ℕ × List ℕ). p.1) c.capped_digits.ensures ∙ law.1
