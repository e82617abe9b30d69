use Rattle.std.proofs.Common.{◌≡◌, ℕ, Option, Some, IfOk, ap, refl, subst, sym, option_map, string_bytes}
use Rattle.std.proofs.lemmas.Result.{IfOk-weaker}
use Rattle.status_lines.specs.Status.{identity_text}
use Rattle.status_lines.proofs.status.id_text.Goals as goal

pub returns-in-Some : goal.returns-in-Some
returns-in-Some c =
    subst (λ (o : Option ℕ). IfOk c.identity_text.result (λ text. option_map (λ (n : ℕ). string_bytes text) o ≡ option_map identity_text o)) (sym c.in-Some.is)
    (IfOk-weaker c.identity_text.result (λ text. string_bytes text ≡ identity_text c.in-Some.identity) (λ text. option_map (λ (n : ℕ). string_bytes text) (Some c.in-Some.identity) ≡ option_map identity_text (Some c.in-Some.identity))
    (λ text same. ap Some same) c.identity_text.ensures)

pub returns-in-None : goal.returns-in-None
returns-in-None c = subst (λ (o : Option ℕ). option_map (λ (n : ℕ). string_bytes c.new.result) o ≡ option_map identity_text o) (sym c.in-None.is) refl
