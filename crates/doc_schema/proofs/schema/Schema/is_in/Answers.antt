use Rattle.std.proofs.Common.{◌≡◌, true, refl, sym, subst}
use Rattle.std.specs.Prelude.{◌↔◌}
use Rattle.doc_tree.specs.TreeView.{view}
use Rattle.doc_schema.specs.Faults.{IsFaultless}
use Rattle.schema_rules.specs.declared.profile.Profile.TheVariants.{Two, Three}
use Rattle.doc_schema.proofs.schema.Schema.is_in.Goals as goal

pub returns-in-Two : goal.returns-in-Two
returns-in-Two c =
    subst (λ p. (c.self.inside.earlier ≡ true) ↔ IsFaultless p (view c.args.self.now)) (sym c.in-Two.is)
    (subst (λ s. (c.self.inside.earlier ≡ true) ↔ IsFaultless Two (view s)) c.self.view_is c.self.invariant.4)

pub returns-in-Three : goal.returns-in-Three
returns-in-Three c =
    let here : IsFaultless Three (view c.args.self.now) = subst (λ s. IsFaultless Three (view s)) c.self.view_is c.self.invariant.0 in
    (λ _. subst (λ p. IsFaultless p (view c.args.self.now)) (sym c.in-Three.is) here, λ _. refl)
