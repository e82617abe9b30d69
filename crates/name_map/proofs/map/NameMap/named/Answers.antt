use Rattle.std.proofs.Common.{ap, length}
use Rattle.std.proofs.iter.runs.Sources.{from_front}
use Rattle.std.specs.Map.{values_of}
use Rattle.std.specs.Map.Iter.{TakesFirst, deref_pair}
use Rattle.name_map.proofs.map.NameMap.named.Goals as goal

-- each run shows what was left, in order
pub returns-clause-runs : goal.returns-clause-runs
returns-clause-runs g c = from_front (TakesFirst deref_pair) deref_pair (λ s. s) (λ s t h. ap length h.0) (λ s x t h. h)

-- and its values
pub returns-clause-values_run : goal.returns-clause-values_run
returns-clause-values_run g c = from_front (TakesFirst deref_pair) (λ x. (deref_pair x).1) values_of (λ s t h. ap (λ l. length (values_of l)) h.0) (λ s x t h. ap values_of h)
