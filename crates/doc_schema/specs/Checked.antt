-- For the clauses within the crate: a schema before loops are looked for.
use Rattle.doc_tree.specs.Doc.{Doc}
use Rattle.schema_rules.specs.declared.profile.Profile.{Profile}
use Rattle.schema_rules.specs.declared.profile.Profile.TheVariants.{Two}
use Rattle.doc_schema.specs.Defects.{HasDefect}
use Rattle.doc_schema.specs.Faults.{IsTooLarge, IsMalformed}
use Rattle.doc_schema.specs.declared.defects.Defect.TheVariants.{LeftOut, Reference}

-- no position has a defect, and neither the schema nor its patterns are too large
pub record IsChecked (profile : Profile) (s : Doc) : Type 0 where
  pub size : IsTooLarge profile s → ⊥
  pub form : IsMalformed profile s → ⊥
  pub keywords : HasDefect profile LeftOut s → ⊥
  pub references : HasDefect profile Reference s → ⊥

-- profile 2 leaves out no keyword of it, and each reference names a schema there
abbrev pub IsEarlier : Doc → Type 0
IsEarlier s = (HasDefect Two LeftOut s → ⊥) × (HasDefect Two Reference s → ⊥)
