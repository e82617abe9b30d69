use Rattle.std.proofs.Common.{◌≡◌, ◌∷◌, [], ap, ap₂, subst, sym, ◌∙◌}
use Rattle.schema_graph.specs.Walks.{first}
use Rattle.schema_levels.specs.Below.{below, seen, where_found}
use Rattle.schema_levels.specs.Known.{Knows}
use Rattle.schema_levels.specs.NamePatterns.{patterns_by}
use Rattle.schema_levels.specs.declared.node.ChildPlace.TheVariants.{Name}
use Rattle.schema_levels.specs.declared.node.Rule.TheVariants.{Matching}
use Rattle.schema_levels.proofs.below.below.Goals as goal

pub returns-in-Name-spot : goal.returns-in-Name-spot
returns-in-Name-spot c =
    let p = c.in-Matching.pattern in
    let place = Name c.in-Name-spot.field-0 c.in-Name-spot.found in
    let known : Knows place (p ∷ []) = subst (λ s. Knows s (p ∷ [])) c.in-Name-spot.is (subst (λ r. Knows c.args.spot (patterns_by r)) c.in-Matching.is c.requires) in
    c.where_found.ensures ∙ ap (λ b. where_found b c.in-Matching.number) (c.has.ensures ∙ known p first)
    ∙ sym (ap₂ (λ s r. below c.args.node.now r (seen s)) c.in-Name-spot.is c.in-Matching.is)
