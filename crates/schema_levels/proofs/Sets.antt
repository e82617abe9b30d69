-- Sets of numbers and lists of nodes.
use Rattle.std.proofs.Common.{◌≡◌, ℕ, zero, suc, ◌+◌, ◌-◌, ◌<◌, ◌≤◌, List, [], ◌∷◌, true, false, length, get_or, refl, sym, ap, ◌∙◌, if◌then◌else◌, arith}
use Rattle.schema_levels.specs.Bits.{bit}
use Rattle.schema_levels.specs.Closure.{rules_at, mark_rules, close}
use Rattle.schema_levels.specs.declared.node.Node.{Node}

pub rules_at_index : (nodes : List Node) (i : ℕ) (d : Node) → i < length nodes → rules_at nodes i ≡ (get_or nodes i d).rules.items
rules_at_index [] i d lt = absurd (omega arith)
rules_at_index (x ∷ xs) zero d lt = refl
rules_at_index (x ∷ xs) (suc i) d lt = rules_at_index xs i d (omega arith)

pub close_step : (nodes : List Node) (i k : ℕ) (bs bs' : List ℕ) (x : Node) → k ≡ suc i → i < length nodes → true ≡ bit bs i → bs' ≡ mark_rules (get_or nodes i x).rules.items bs
    → close nodes i bs' ≡ close nodes k bs
close_step nodes i k bs bs' x e lt on h =
    ap (close nodes i) (h ∙ sym (ap (λ rs. mark_rules rs bs) (rules_at_index nodes i x lt)) ∙ ap (λ b. if b then mark_rules (rules_at nodes i) bs else bs) on) ∙ ap (λ n. close nodes n bs) (sym e)

-- numbers that aren't in the set may be passed over
skip_by : (nodes : List Node) (d i : ℕ) (bs : List ℕ) → ((k : ℕ) → i ≤ k → k < i + d → bit bs k ≡ false) → close nodes (i + d) bs ≡ close nodes i bs
skip_by nodes zero i bs none = let e : i + 0 ≡ i = omega arith in ap (λ n. close nodes n bs) e
skip_by nodes (suc d) i bs none =
    let e : i + suc d ≡ suc (i + d) = omega arith in
    ap (λ n. close nodes n bs) e ∙ ap (λ b. close nodes (i + d) (if b then mark_rules (rules_at nodes (i + d)) bs else bs)) (none (i + d) (omega arith) (omega arith)) ∙ skip_by nodes d i bs (λ k le lt. none k le (omega arith))

pub close_skip : (nodes : List Node) (i j : ℕ) (bs : List ℕ) → i ≤ j → ((k : ℕ) → i ≤ k → k < j → bit bs k ≡ false) → close nodes j bs ≡ close nodes i bs
close_skip nodes i j bs le none = let e : i + (j - i) ≡ j = omega arith in sym (ap (λ n. close nodes n bs) e) ∙ skip_by nodes (j - i) i bs (λ k l lt. none k l (omega arith))
