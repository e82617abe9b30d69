use Rattle.std.proofs.Common.{map, ap, subst, ◌∙◌}
use Rattle.schema_references.specs.Listed.{HasAll}
use Rattle.schema_references.proofs.whole.Whole.of.Goals as goal

pub invariant_of-result : goal.invariant_of-result
invariant_of-result c =
    subst (λ l. HasAll l c.in_ok-anchors.anchors.names c.in_ok-anchors.anchors.are_different) (ap (map (λ s. s.now)) c.deref.ensures.value ∙ c.in_ok-names.ensures) c.in_ok-anchors.ensures
