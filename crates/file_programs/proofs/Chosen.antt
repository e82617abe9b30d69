-- What is said once no identity could be drawn.
use Rattle.std.proofs.Common.{ℕ, List, Option, Some, None, Result, Ok, Err, IsErrAnd, refl, arith}
use Rattle.file_programs.specs.Identity.{IsChosen}
use Rattle.file_programs.specs.Shown.{Shows}
use Rattle.file_programs.specs.declared.fault.Fault.{Fault}

-- an identity may always be chosen
pub some_chosen : (asked : Option ℕ) → (identity : ℕ) × IsChosen asked identity
some_chosen None = (0, omega arith)
some_chosen (Some asked) = (asked, refl)

-- after a fault nothing was written
pub shows_none : {T : Type 0} (ended : Result T Fault) (P : Fault → Type 0) (line : List ℕ) (before : Option (List ℕ)) → IsErrAnd ended P → Shows ended line before before
shows_none (Ok done) P line before is = absurd is
shows_none (Err fault) P line before is = λ apart. refl
