use Rattle.std.proofs.Common.{◌≡◌, drop, length, map, nat_lt}
use Rattle.std.specs.List.{list_any}
use Rattle.doc_schema.proofs.patterns.some_is_long.Given as goal

abbrev pub invariant-loop-text : goal.invariant-loop-text
invariant-loop-text l = list_any (λ p. nat_lt 4_096 (length p)) (map (λ s. s.now) (drop l.text-index l.texts)) ≡ list_any (λ p. nat_lt 4_096 (length p)) (map (λ s. s.now) l.texts)
