-- A piece that is written from its front.
use Rattle.std.proofs.Common.{◌≡◌, ℕ, ◌+◌, ◌-◌, ◌≤◌, List, [], ◌++◌, length, take, drop, replicate, refl, sym, ◌∙◌, ap, arith}
use Rattle.std.proofs.lemmas.List.{drop-drop, drop-replicate}

-- the first bytes are these, and zeros follow
pub record Built (at : ℕ) (written sector : List ℕ) : Type 0 where
  pub front : take at sector ≡ written
  pub zeros : drop at sector ≡ replicate (484 - at) 0

pub built_start : Built 0 [] (replicate 484 0)
built_start = record { front = refl; zeros = refl }

pub built_put : (at more : ℕ) (front old new given bytes : List ℕ) → Built at front old → take (at + length given) new ≡ take at old ++ given → drop (at + length given) new ≡ drop (at + length given) old
    → given ≡ bytes → at + length bytes ≡ more → more ≤ 484 → Built more (front ++ bytes) new
built_put at more front old new given bytes was front_is rest_is same total fits =
    let size : at + length given ≡ more = ap (λ (l : List ℕ). at + length l) same ∙ total in
    record {
      front = ap (λ (n : ℕ). take n new) (sym size) ∙ front_is ∙ ap (λ (l : List ℕ). l ++ given) was.front ∙ ap (λ (l : List ℕ). front ++ l) same;
      zeros =
          ap (λ (n : ℕ). drop n new) (sym size) ∙ rest_is ∙ sym (drop-drop (length given) at old) ∙ ap (λ (l : List ℕ). drop (length given) l) was.zeros ∙ drop-replicate (length given) (484 - at) 0
          ∙ ap (λ (n : ℕ). replicate n 0) (omega (arith, size));
    }
