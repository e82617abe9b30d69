-- A switch by which no changes are added.
use Rattle.std.proofs.Common.{◌≡◌, ◌+◌, ◌-◌, ℕ, List, arith}
use Rattle.store_journal.specs.Carries.{Carried, replaced, switched}

-- seq stays
pub none_more : (c : Carried) (target : List ℕ) → replaced c target 0 ≡ switched c target
none_more c target = let same : c.seq + 0 ≡ c.seq = omega arith in λ i. record c { half = 1 - c.half; bytes = target; seq = same i }
