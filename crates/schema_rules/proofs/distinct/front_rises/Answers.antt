use Rattle.std.proofs.Common.{ℕ, ◌≤◌, sym, subst, arith}
use Rattle.std.proofs.lemmas.List.{length-take-le}
use Rattle.schema_rules.proofs.distinct.front_rises.Goals as goal

pub rise_sorted_in-requires-clause-room : goal.rise_sorted_in-requires-clause-room
rise_sorted_in-requires-clause-room c = subst (λ (n : ℕ). n ≤ 262144) (sym (length-take-le 262144 c.args.items.now c.requires)) (omega arith)
