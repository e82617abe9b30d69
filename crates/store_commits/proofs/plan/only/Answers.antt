use Rattle.std.proofs.Common.{◌++◌, ◌∷◌, [], ◌∙◌, ap, ℕ, List, Vec, Global}
use Rattle.store_commits.specs.Given.{bytes_each}
use Rattle.store_commits.proofs.plan.only.Goals as goal

pub returns : goal.returns
returns c =
    ap bytes_each (c.in_ok-push.ensures.items ∙ ap (λ (vs : List (Vec ℕ Global)). vs ++ c.extend_from_slice.new.self ∷ []) c.new-each.ensures.items)
    ∙ ap (λ (l : List ℕ). l ∷ []) (c.in_ok-extend_from_slice.ensures.items ∙ ap (λ (l : List ℕ). l ++ c.args.bytes.now) c.new-copy.ensures.items)
