-- On the way down numbers that aren't in the set may be passed over; and nodes of a list by their index.
use Rattle.std.proofs.Common.{◌≡◌, ℕ, zero, suc, ◌+◌, ◌-◌, ◌<◌, ◌≤◌, List, [], ◌∷◌, Some, true, false, length, get_or, refl, sym, ap, ◌∙◌, if◌then◌else◌, arith}
use Rattle.schema_levels.specs.Bits.{bit}
use Rattle.schema_levels.specs.Closure.{rules_at}
use Rattle.schema_levels.specs.Nodes.{node_get}
use Rattle.schema_levels.specs.declared.node.Node.{Node}
use Rattle.schema_levels.proofs.Sets.{rules_at_index}
use Rattle.schema_changes.specs.Again.{close_must, mark_must}

pub close_step : (nodes : List Node) (i k : ℕ) (bs bs' : List ℕ) (x : Node) → k ≡ suc i → i < length nodes → true ≡ bit bs i → bs' ≡ mark_must (get_or nodes i x).rules.items bs
    → close_must nodes i bs' ≡ close_must nodes k bs
close_step nodes i k bs bs' x e lt on h =
    ap (close_must nodes i) (h ∙ sym (ap (λ rs. mark_must rs bs) (rules_at_index nodes i x lt)) ∙ ap (λ b. if b then mark_must (rules_at nodes i) bs else bs) on) ∙ ap (λ n. close_must nodes n bs) (sym e)

skip_by : (nodes : List Node) (d i : ℕ) (bs : List ℕ) → ((k : ℕ) → i ≤ k → k < i + d → bit bs k ≡ false) → close_must nodes (i + d) bs ≡ close_must nodes i bs
skip_by nodes zero i bs none = let e : i + 0 ≡ i = omega arith in ap (λ n. close_must nodes n bs) e
skip_by nodes (suc d) i bs none =
    let e : i + suc d ≡ suc (i + d) = omega arith in
    ap (λ n. close_must nodes n bs) e ∙ ap (λ b. close_must nodes (i + d) (if b then mark_must (rules_at nodes (i + d)) bs else bs)) (none (i + d) (omega arith) (omega arith)) ∙ skip_by nodes d i bs (λ k le lt. none k le (omega arith))

pub close_skip : (nodes : List Node) (i j : ℕ) (bs : List ℕ) → i ≤ j → ((k : ℕ) → i ≤ k → k < j → bit bs k ≡ false) → close_must nodes j bs ≡ close_must nodes i bs
close_skip nodes i j bs le none = let e : i + (j - i) ≡ j = omega arith in sym (ap (λ n. close_must nodes n bs) e) ∙ skip_by nodes (j - i) i bs (λ k l lt. none k l (omega arith))

pub node_at : (nodes : List Node) (i : ℕ) (d : Node) → i < length nodes → node_get nodes i ≡ Some (get_or nodes i d)
node_at [] i d lt = absurd (omega arith)
node_at (x ∷ xs) zero d lt = refl
node_at (x ∷ xs) (suc i) d lt = node_at xs i d (omega arith)
