-- What a schema's texts are, if it isn't malformed.
use Rattle.std.proofs.Common.{◌≡◌, inr, Bool, true, false, not, ◌&&◌, refl}
use Rattle.doc_tree.specs.Doc.{Doc}
use Rattle.schema_pattern.specs.Tables.{are_patterns}
use Rattle.schema_rules.specs.Anchors.{anchors_of, are_different, offered_anchors}
use Rattle.schema_rules.specs.PatternTexts.{offered_texts}
use Rattle.schema_rules.specs.Schemas.{schemas}
use Rattle.schema_rules.specs.declared.profile.Profile.TheVariants.{Three}
use Rattle.doc_schema.specs.Checked.{IsChecked}

both_are : (a b : Bool) → ((a && b) ≡ false → ⊥) → b ≡ true
both_are a true h = refl
both_are true false h = absurd (h refl)
both_are false false h = absurd (h refl)

pub different : (s : Doc) → IsChecked Three s → are_different (anchors_of (schemas s)) ≡ true
different s c = both_are (are_patterns (offered_texts Three s)) (are_different (offered_anchors Three s)) (λ e. c.form (inr e))

pub equal_found : (a b : Bool) → true ≡ not b → (a && b) ≡ false
equal_found a true e = absurd cc
equal_found true false e = refl
equal_found false false e = refl

pub all_fit : (a b : Bool) → true ≡ a → false ≡ not b → (a && b) ≡ true
all_fit true true e f = refl
all_fit true false e f = absurd cc
all_fit false b e f = absurd cc
