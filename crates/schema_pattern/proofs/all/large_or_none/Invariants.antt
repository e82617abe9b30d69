use Rattle.std.proofs.Common.{◌≡◌, map, drop}
use Rattle.schema_pattern.specs.Tables.{are_patterns}
use Rattle.schema_pattern.proofs.all.large_or_none.Given as goal

abbrev pub invariant-loop-text : goal.invariant-loop-text
invariant-loop-text l = are_patterns (map (λ t. t.now) (drop l.text-index l.texts)) ≡ are_patterns (map (λ t. t.now) l.texts)
