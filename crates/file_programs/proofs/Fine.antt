-- A result that is Ok.
use Rattle.std.proofs.Common.{◌≡◌, Result, Ok, Err, IfOk, OnOk, subst}
use Rattle.file_programs.specs.declared.fault.Fault.{Fault}

pub if_ok : {T E : Type 0} {P Q : T → Type 0} (result : Result T E) → ((value : T) → P value → Q value) → IfOk result P → IfOk result Q
if_ok (Ok value) f h = f value h
if_ok (Err fault) f h = tt

pub given : {P : Type 0} (result : Result (Unit {0}) Fault) → OnOk result P → result ≡ Ok tt → P
given {P} result h is = subst (λ (r : Result (Unit {0}) Fault). OnOk r P) is h
