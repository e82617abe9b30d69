-- The code of a state, by which a proof distinguishes states.
use Rattle.std.specs.Prelude.{◌≡◌, ℕ, Bool, true, false, List, refl}
use Rattle.std.specs.Coded.{Coded, code_by, coded×, coded_ℕ, coded_bool, coded_list}
use Rattle.doc_tree.specs.Doc.{Doc}
use Rattle.doc_patch.specs.CodedDoc.{coded_bytes, coded_doc}
use Rattle.schema_rules.specs.declared.profile.Profile.{Profile}
use Rattle.schema_rules.specs.declared.profile.Profile.TheVariants.{Three, Two}
use Rattle.doc_changes.specs.Marks.{Mark}
use Rattle.doc_changes.specs.State.{Document, State}

abbrev pub coded_document : Coded Document
coded_document =
    code_by (List ℕ × (Doc × (Doc × ℕ))) (coded× coded_bytes (coded× coded_doc (coded× coded_doc coded_ℕ))) (λ d. (d.name, (d.schema, (d.doc, d.revision))))
    (λ p. record { name = p.0; schema = p.1.0; doc = p.1.1.0; revision = p.1.1.1 }) (λ _. refl)

abbrev pub coded_mark : Coded Mark
coded_mark = code_by (List ℕ × (List ℕ × ℕ)) (coded× coded_bytes (coded× coded_bytes coded_ℕ)) (λ m. (m.key, (m.value, m.seq))) (λ p. record { key = p.0; value = p.1.0; seq = p.1.1 }) (λ _. refl)

-- whether it is profile 3
abbrev is_three : Profile → Bool
is_three Two = false
is_three Three = true

abbrev three_if : Bool → Profile
three_if false = Two
three_if true = Three

pub three_if-is_three : (p : Profile) → three_if (is_three p) ≡ p
three_if-is_three Two = refl
three_if-is_three Three = refl

abbrev pub coded_profile : Coded Profile
coded_profile = code_by Bool coded_bool is_three three_if three_if-is_three

abbrev pub coded_state : Coded State
coded_state =
    code_by (List Document × (List Mark × (ℕ × Profile))) (coded× (coded_list coded_document) (coded× (coded_list coded_mark) (coded× coded_ℕ coded_profile)))
    (λ s. (s.documents, (s.marks, (s.seq, s.profile)))) (λ p. record { documents = p.0; marks = p.1.0; seq = p.1.1.0; profile = p.1.1.1 }) (λ _. refl)
