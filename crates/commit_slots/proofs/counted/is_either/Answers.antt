use Rattle.std.proofs.Common.{◌≡◌, ◌+◌, ◌*◌, Bool, true, false, subst, Option}
use Rattle.commit_slots.specs.Finding.{IsFoundAt}
use Rattle.commit_slots.specs.declared.counted.Counted.{Counted}
use Rattle.commit_slots.proofs.Four.{pair_none}
use Rattle.commit_slots.proofs.counted.is_either.Goals as goal

pub returns : goal.returns
returns c = λ image pair low first mate. (
  λ no. let contrary : false ≡ true = no in cc contrary,
  λ has. absurd (pair_none image pair low (subst (λ (o : Option Counted). IsFoundAt (2 * pair) image o) c.in-None-None.is-0 first) (subst (λ (o : Option Counted). IsFoundAt (2 * pair + 1) image o) c.in-None-None.is-1 mate) has),
)
