-- From what is told of a session's end to how it ended.
use Rattle.std.proofs.Common.{◌≡◌, ◌∙◌, inl, inr, Result, Ok, Err, IfOk, Bool, true, false, refl, sym, if◌then◌else◌}
use Rattle.std.specs.Prelude.{IsErrOf, IsOk}
use Rattle.refusals.specs.declared.numbers.TheConstants.{DEVICE}
use Rattle.serve_lines.specs.declared.serving.Served.{Served}
use Rattle.protocol.specs.declared.serve_fault.ServeFault.{ServeFault}
use Rattle.protocol.specs.declared.serve_fault.ServeFault.TheVariants.{Reader, Writer, Turns, Memory}
use Rattle.jpstore.specs.Faults.{told_of}
use Rattle.file_programs.specs.Files.{WentToTheEnd, fault_of}
use Rattle.file_programs.specs.declared.fault.Fault.{Fault}
use Rattle.file_programs.specs.declared.fault.Fault.TheVariants.{Session}

-- how a program ended
abbrev End : Type 0
End = Result (Unit {0}) Fault

-- of a session whose device failed, or not
abbrev end_if : Bool → End
end_if broken = if broken then Err (fault_of DEVICE) else Ok tt

works_if : (broken : Bool) → end_if broken ≡ Ok tt → broken ≡ false
works_if true e = let bad : Err (fault_of DEVICE) ≡ Ok tt = e in cc
works_if false e = refl

broke_if : (broken : Bool) → end_if broken ≡ Err (fault_of DEVICE) → broken ≡ true
broke_if true e = refl
broke_if false e = let bad : Ok tt ≡ Err (fault_of DEVICE) = e in cc

no_fault_if : (broken : Bool) (fault : ServeFault) → end_if broken ≡ Err (Session fault) → ⊥
no_fault_if true fault e = cc
no_fault_if false fault e = cc

-- a session of which that is told went to the end of its input
pub ok_of : {P : Served → Type 0} (r : Result Served ServeFault) → WentToTheEnd (told_of r) → IfOk r P → (served : Served) × P served
ok_of (Ok served) to_end h = (served, h)
ok_of (Err fault) (inl e) h = cc
ok_of (Err fault) (inr e) h = cc

pub works_of : {b : Bool} (r : Result Served ServeFault) → IfOk r (λ served. served.broken ≡ b) → told_of r ≡ Ok tt → b ≡ false
works_of (Ok served) same e = sym same ∙ works_if served.broken e
works_of (Err fault) same e = cc

pub broke_of : {b : Bool} (r : Result Served ServeFault) → IfOk r (λ served. served.broken ≡ b) → told_of r ≡ Err (fault_of DEVICE) → b ≡ true
broke_of (Ok served) same e = sym same ∙ broke_if served.broken e
broke_of (Err fault) same e = cc

-- the fault that is told is the one that ended it
pub ended_by : (r : Result Served ServeFault) (fault : ServeFault) → told_of r ≡ Err (Session fault) → IsErrOf r fault
ended_by (Ok served) fault e = absurd (no_fault_if served.broken fault e)
ended_by (Err other) fault e = cc

-- a session that went to the end of its input ended well
pub is_ok : (r : Result Served ServeFault) → WentToTheEnd (told_of r) → IsOk r
is_ok (Ok served) to_end = refl
is_ok (Err fault) (inl e) = cc
is_ok (Err fault) (inr e) = cc

-- where another fault than the writer's is told, the writer didn't fail
pub not_writer : (r : Result Served ServeFault) → (told_of r ≡ Err (Session Writer) → ⊥) → IsErrOf r Writer → ⊥
not_writer (Ok served) other is = cc
not_writer (Err Writer) other is = other refl
not_writer (Err Reader) other is = cc
not_writer (Err Turns) other is = cc
not_writer (Err Memory) other is = cc
