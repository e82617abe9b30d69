-- Texts that are added one after another.
use Rattle.std.proofs.Common.{◌≡◌, List, ℕ, ◌++◌, append_assoc, ap, ◌∙◌, Result, Ok, Err, OnOk}
use Rattle.std.specs.Prelude.{is_ok, if◌then◌else◌}

-- these and then those
pub both : (these those old mid new : List ℕ) → mid ≡ old ++ these → new ≡ mid ++ those → new ≡ old ++ (these ++ those)
both these those old mid new first later = later ∙ ap (λ x. x ++ those) first ∙ append_assoc old these those

-- what is added if memory allows
pub on_ok_items : {A E : Type 0} (r : Result A E) (new old more : List ℕ) → new ≡ (if is_ok r then old ++ more else old) → OnOk r (new ≡ old ++ more)
on_ok_items (Ok x) new old more is = is
on_ok_items (Err e) new old more is = tt
