use Rattle.std.proofs.Common.{◌≡◌, ◌≤◌, ◌-◌, map, drop, length}
use Rattle.schema_nodes.specs.Fits.{number_in}
use Rattle.schema_nodes.proofs.Searches.{further}
use Rattle.schema_nodes.proofs.rules.number_in.Given as goal

abbrev pub invariant-loop-number : goal.invariant-loop-number
invariant-loop-number l = (l.number ≤ length l.texts) × (further l.number (number_in (drop l.number (map (λ s. s.now) l.texts)) l.text) ≡ number_in (map (λ s. s.now) l.texts) l.text)

abbrev pub decreases-loop-number : goal.decreases-loop-number
decreases-loop-number l = length l.texts - l.number
