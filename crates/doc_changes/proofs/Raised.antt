-- What a profile accepts, profile 3 accepts.
use Rattle.std.proofs.Common.{◌≡◌, ◌≤◌, ℕ, List, [], ◌∷◌, Option, None, Some, length, nat_le, refl, ap, arith}
use Rattle.std.proofs.lemmas.Bool.{leb-false, lt-leb}
use Rattle.std.specs.List.{AllByRecursion}
use Rattle.doc_tree.specs.Doc.{Doc}
use Rattle.doc_schema.specs.Faults.{IsFaultless}
use Rattle.record_text.specs.Change.{Change, create, patch, set_schema, delete}
use Rattle.schema_rules.specs.declared.profile.Profile.{Profile}
use Rattle.schema_rules.specs.declared.profile.Profile.TheVariants.{Three, Two}
use Rattle.refusals.specs.declared.numbers.TheConstants.{TOO_MANY}
use Rattle.doc_changes.specs.Refusals.{first, refused_if}
use Rattle.doc_changes.specs.Schema.{schema_refusal}
use Rattle.doc_changes.specs.State.{AreOffered, Document, most_documents}
use Rattle.doc_changes.specs.Step.{refusals_in, room_refusal}
use Rattle.doc_changes.specs.Within.{AreWithin}
use Rattle.doc_changes.specs.declared.refusal.Refusal.{Refusal}
use Rattle.doc_changes.proofs.Reasons.{none_first, not_refused}
use Rattle.doc_changes.proofs.Schemas.{NoneIsFound, faultless, unrefused}

-- where none of them is a reason, no first one is found
first_none : (rs : List (Option Refusal)) → AllByRecursion (λ r. r ≡ None) rs → first rs ≡ None
first_none [] h = refl
first_none (None ∷ rs) h = first_none rs h.1
first_none (Some r ∷ rs) h = absurd (cc)

-- there is room in profile 3 if there is in any
raised_room : (profile : Profile) (ds : List Document) → room_refusal profile ds ≡ None → room_refusal Three ds ≡ None
raised_room Three ds none = none
raised_room Two ds none =
    let few = leb-false (most_documents Two) (length ds) (not_refused _ _ none) in
    ap (λ b. refused_if b TOO_MANY) (lt-leb (most_documents Three) (length ds) (omega (arith, few)))

raised_few : (profile : Profile) (n : ℕ) → n ≤ most_documents profile → n ≤ most_documents Three
raised_few Three n few = few
raised_few Two n few = omega (arith, few)

module _ (found : (profile : Profile) → NoneIsFound profile) (stays : (profile : Profile) (s : Doc) → IsFaultless profile s → IsFaultless Three s) where
  raised_schema : (profile : Profile) (s : Doc) → schema_refusal profile s ≡ None → schema_refusal Three s ≡ None
  raised_schema profile s none = unrefused Three (found Three) s (stays profile s (faultless profile (found profile) s none))

  raised_all : (profile : Profile) (ds : List Document) (c : Change) → AllByRecursion (λ r. r ≡ None) (refusals_in profile ds c) → AllByRecursion (λ r. r ≡ None) (refusals_in Three ds c)
  raised_all profile ds (create name schema doc) none = (none.0, (none.1.0, (raised_room profile ds none.1.1.0, (raised_schema profile schema none.1.1.1.0, none.1.1.1.1))))
  raised_all profile ds (patch name ops if_rev) none = none
  raised_all profile ds (set_schema name schema) none = (none.0, (none.1.0, (raised_schema profile schema none.1.1.0, none.1.1.1)))
  raised_all profile ds (delete name) none = none

  pub raised : (profile : Profile) (ds : List Document) (c : Change) → first (refusals_in profile ds c) ≡ None → first (refusals_in Three ds c) ≡ None
  raised profile ds c none = first_none (refusals_in Three ds c) (raised_all profile ds c (none_first (refusals_in profile ds c) none))

raised_schemas : ((profile : Profile) (s : Doc) → IsFaultless profile s → IsFaultless Three s) → (profile : Profile) (ds : List Document) → AreOffered profile ds → AreOffered Three ds
raised_schemas stays profile [] offered = tt
raised_schemas stays profile (d ∷ ds) offered = (stays profile d.schema offered.0, raised_schemas stays profile ds offered.1)

pub raised_documents : ((profile : Profile) (s : Doc) → IsFaultless profile s → IsFaultless Three s) → (profile : Profile) (ds : List Document) → AreWithin profile ds → AreWithin Three ds
raised_documents stays profile ds within = record { few = raised_few profile (length ds) within.few; offered = raised_schemas stays profile ds within.offered }
