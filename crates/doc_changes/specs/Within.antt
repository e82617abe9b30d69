-- Documents in another profile: whether a state there may hold them.
use Rattle.std.specs.Prelude.{◌≡◌, ◌⊎◌, ◌≤◌, ◌<◌, List, length}
use Rattle.refusals.specs.declared.numbers.TheConstants.{NEWER_SCHEMA, TOO_MANY}
use Rattle.schema_rules.specs.declared.profile.Profile.{Profile}
use Rattle.doc_changes.specs.Refusals.{plain}
use Rattle.doc_changes.specs.State.{AreOffered, Document, most_documents}
use Rattle.doc_changes.specs.declared.refusal.Refusal.{Refusal}

-- it may: there aren't too many, and no schema has a fault in the profile
pub record AreWithin (profile : Profile) (ds : List Document) : Type 0 where
  pub few : length ds ≤ most_documents profile
  pub offered : AreOffered profile ds

-- why it may not: there are too many, or else a schema has a fault in the profile
abbrev pub AreBeyond : Profile → List Document → Refusal → Type 0
AreBeyond profile ds r =
    ((r ≡ plain TOO_MANY) × (most_documents profile < length ds))
    ⊎ ((r ≡ plain NEWER_SCHEMA) × (length ds ≤ most_documents profile) × (AreOffered profile ds → ⊥))
