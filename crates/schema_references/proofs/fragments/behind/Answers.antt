use Rattle.std.proofs.Common.{option_map, sym, ap, ◌∙◌}
use Rattle.schema_rules.specs.Fragments.{behind}
use Rattle.schema_references.proofs.Fronts.{front_is}
use Rattle.schema_references.proofs.fragments.behind.Goals as goal

pub returns-in-Some : goal.returns-in-Some
returns-in-Some c =
    front_is c.in-Some.identifier.now c.args.reference.now c.strip_prefix.result c.strip_prefix.ensures.cases
    ∙ sym (ap (λ o. behind (option_map (λ s. s.now) o) c.args.reference.now) c.in-Some.is)
