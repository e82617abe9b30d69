-- The answer of a function of the evaluation: it is what is defined, unless there are too many nodes.
use Rattle.std.specs.Prelude.{◌≡◌, ⊤, Bool, true, false, Result, Ok, Err}
use Rattle.path_select.specs.declared.stop.Stop.{Stop}
use Rattle.path_select.specs.declared.stop.Stop.TheVariants.{Memory, TooMany}

-- evaluating stops if it is refused, or if memory ran out
abbrev pub Stops : Stop → Bool → Type 0
Stops Memory refused = ⊤
Stops TooMany refused = refused ≡ true

-- what is seen of the value returned is what is defined, and evaluating is not refused
abbrev pub Gives : {X Y : Type 0} → (X → Y) → Result X Stop → Bool → Y → Type 0
Gives view (Ok x) refused y = (refused ≡ false) × (view x ≡ y)
Gives view (Err e) refused y = Stops e refused
