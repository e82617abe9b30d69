-- What a filter takes of a list, one after the other, and what is refused of it.
use Rattle.std.proofs.Common.{◌≡◌, ◌++◌, ◌||◌, ◌∙◌, Bool, true, false, List, [], ◌∷◌, filter, append_assoc, sym, ap, if◌then◌else◌}
use Rattle.std.specs.List.{list_any}
use Rattle.path_select.specs.Gives.{Stops}
use Rattle.path_select.specs.declared.stop.Stop.{Stop}
use Rattle.path_select.specs.declared.stop.Stop.TheVariants.{Memory, TooMany}

-- `found` is taken so far, and `x` comes next
module _ {A : Type 0} (takes : A → Bool) (found : List A) (x : A) (rest total : List A) (so_far : found ++ filter takes (x ∷ rest) ≡ total) where
  pub takes_it : takes x ≡ true → (found ++ x ∷ []) ++ filter takes rest ≡ total
  takes_it is = append_assoc found (x ∷ []) (filter takes rest) ∙ ap (λ b. found ++ (if b then x ∷ filter takes rest else filter takes rest)) (sym is) ∙ so_far

  pub leaves_it : takes x ≡ false → found ++ filter takes rest ≡ total
  leaves_it is = ap (λ b. found ++ (if b then x ∷ filter takes rest else filter takes rest)) (sym is) ∙ so_far

module _ {A : Type 0} (refuses : A → Bool) (x : A) (rest : List A) (any : Bool) (same : list_any refuses (x ∷ rest) ≡ any) where
  pub none_here : refuses x ≡ false → list_any refuses rest ≡ any
  none_here is = ap (λ b. b || list_any refuses rest) (sym is) ∙ same

  pub stops_here : (e : Stop) → Stops e (refuses x) → Stops e any
  stops_here Memory h = tt
  stops_here TooMany h = sym same ∙ ap (λ b. b || list_any refuses rest) h
