-- What a patch makes is within the limits, since each operation leaves it so.
use Rattle.std.proofs.Common.{◌≡◌, ℕ, suc, ◌≤◌, Bool, true, false, cond, List, [], ◌∷◌, Result, Ok, Err, refl, ap, ◌∙◌, subst, length, nat_lt}
use Rattle.std.proofs.lemmas.Bool.{ltb-false}
use Rattle.doc_tree.specs.Doc.{Doc, height}
use Rattle.doc_tree.specs.Text.{text_of}
use Rattle.doc_edits.specs.Operation.{Operation, op, change, and_then}
use Rattle.doc_edits.specs.Limits.{within_limits}
use Rattle.doc_patch.specs.Patch.{go_on, patch_from, patch}
use Rattle.doc_patch.specs.Reading.{operations_of}
use Rattle.doc_patch.specs.declared.fault.PatchFault.{PatchFault}
use Rattle.doc_patch.specs.declared.limits.TheConstants.{DOCUMENT_BYTES, DOCUMENT_HEIGHT}
use Rattle.refusals.specs.declared.numbers.TheConstants.{DEPTH, TOO_LARGE}
use Rattle.doc_changes.specs.Patched.{patched, made_by, or_refused}

-- the document is within the limits of documents
pub record IsWithin (d : Doc) : Type 0 where
  pub low : height d ≤ DOCUMENT_HEIGHT
  pub short : length (text_of d) ≤ DOCUMENT_BYTES

limited : (a b : Bool) (d e : Doc) → cond a (Err DEPTH) (cond b (Err TOO_LARGE) (Ok d)) ≡ Ok e → (a ≡ false) × (b ≡ false) × (d ≡ e)
limited true b d e h = absurd (cc)
limited false true d e h = absurd (cc)
limited false false d e h = let same : d ≡ e = cc in (refl, refl, same)

within : (d e : Doc) → within_limits d ≡ Ok e → IsWithin e
within d e h =
    let l = limited (nat_lt DOCUMENT_HEIGHT (height d)) (nat_lt DOCUMENT_BYTES (length (text_of d))) d e h in
    subst IsWithin l.2 (record { low = ltb-false DOCUMENT_HEIGHT (height d) l.0; short = ltb-false DOCUMENT_BYTES (length (text_of d)) l.1 })

within_after : (r : Result Doc ℕ) (e : Doc) → and_then r within_limits ≡ Ok e → IsWithin e
within_after (Ok d) e h = within d e h
within_after (Err n) e h = absurd (cc)

within_patch : (i : ℕ) (os : List Operation) (d e : Doc) → IsWithin d → patch_from i os d ≡ Ok e → IsWithin e
within_patch i [] d e w h = let same : d ≡ e = cc in subst IsWithin same w
within_patch i (o ∷ os) d e w h = by (op o d) refl h (λ f within rest. within_patch (suc i) os f e within rest)
  where
    by : (r : Result Doc ℕ) → op o d ≡ r → go_on i r (patch_from (suc i) os) ≡ Ok e → ((f : Doc) → IsWithin f → patch_from (suc i) os f ≡ Ok e → IsWithin e) → IsWithin e
    by (Err n) is made later = absurd (cc)
    by (Ok f) is made later = later f (within_after (change o d) f is) made

pub made_within : (r : Result (List Operation) PatchFault) (d e : Doc) → IsWithin d → made_by r d ≡ Ok e → IsWithin e
made_within (Err f) d e w h = absurd (cc)
made_within (Ok os) d e w h = by (patch os d) refl h
  where
    by : (r : Result Doc PatchFault) → patch os d ≡ r → or_refused r ≡ Ok e → IsWithin e
    by (Err f) is made = absurd (cc)
    by (Ok f) is made = let same : f ≡ e = cc in within_patch 0 os d e w (is ∙ ap Ok same)

-- what a patch makes of a document within the limits is within them
pub patched_within : (ops d e : Doc) → IsWithin d → patched ops d ≡ Ok e → IsWithin e
patched_within ops d e w h = made_within (operations_of ops) d e w h
