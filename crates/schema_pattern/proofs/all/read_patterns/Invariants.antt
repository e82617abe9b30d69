use Rattle.std.proofs.Common.{◌≡◌, ◌≤◌, ◌++◌, ◌^◌, map, drop}
use Rattle.schema_pattern.specs.Tables.{are_patterns, pattern_sources}
use Rattle.schema_pattern.proofs.all.read_patterns.Given as goal

abbrev pub invariant-loop-text : goal.invariant-loop-text
invariant-loop-text l =
    (l.left ≤ 2 ^ 32)
    × (pattern_sources l.patterns.items ++ map (λ t. t.now) (drop l.text-index l.texts) ≡ map (λ t. t.now) l.texts)
    × (are_patterns (map (λ t. t.now) (drop l.text-index l.texts)) ≡ are_patterns (map (λ t. t.now) l.texts))
