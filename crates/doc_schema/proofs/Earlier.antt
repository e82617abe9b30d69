-- A schema that profile 2 accepts too.
use Rattle.std.proofs.Common.{◌≡◌, Bool, true, false, not, refl, sym, subst}
use Rattle.std.specs.Prelude.{◌↔◌}
use Rattle.std.specs.List.{list_any}
use Rattle.doc_tree.specs.Doc.{Doc}
use Rattle.schema_rules.specs.declared.profile.Profile.TheVariants.{Two, Three}
use Rattle.doc_schema.specs.Checked.{IsEarlier}
use Rattle.doc_schema.specs.Defects.{HasDefect, has_defect}
use Rattle.doc_schema.specs.Faults.{IsFaultless}
use Rattle.doc_schema.specs.Positions.{offered_positions}
use Rattle.doc_schema.specs.declared.defects.Defect.TheVariants.{LeftOut, Reference}
use Rattle.doc_schema.proofs.Anywhere.{told, untold}
use Rattle.doc_schema.proofs.Offered.{faultless_back}

-- a keyword is left out there
pub later : (s : Doc) → true ≡ list_any (has_defect Two LeftOut s) (offered_positions Two s) → (false ≡ true) ↔ IsEarlier s
later s e = (λ (h : false ≡ true). absurd cc, λ h. absurd (h.0 (told Two LeftOut s e)))

-- none is, and the references were followed
pub earlier_by : (s : Doc) (b : Bool) → (HasDefect Two LeftOut s → ⊥) → b ≡ list_any (has_defect Two Reference s) (offered_positions Two s) → (not b ≡ true) ↔ IsEarlier s
earlier_by s true none e = (λ (h : false ≡ true). absurd cc, λ h. absurd (h.1 (told Two Reference s e)))
earlier_by s false none e = (λ _. (none, untold Two Reference s e), λ _. refl)

pub accepted_by : (s t : Doc) (b : Bool) → t ≡ s → IsFaultless Three t → ((b ≡ true) ↔ IsEarlier s) → ((b ≡ true) ↔ IsFaultless Two t)
accepted_by s t b same f e =
    let here : (b ≡ true) ↔ IsEarlier t = subst (λ d. (b ≡ true) ↔ IsEarlier d) (sym same) e in
    (λ h. faultless_back Two t f (here.0 h).0 (here.0 h).1, λ g. here.1 (g.keywords, g.references))
