-- A journal can hold what a state accepts.
use Rattle.std.proofs.Common.{◌≡◌, ℕ, ◌<◌, ◌≤◌, ◌^◌, ◌&&◌, if◌then◌else◌, nat_eq, nat_le, Bool, true, false, List, None, Some, Result, Ok, Err, refl, length, arith, nat_lt, is_some, Option, inl}
use Rattle.std.proofs.lemmas.Bool.{or_parts, ltb-false, leb-true}
use Rattle.std.specs.List.{AllByRecursion}
use Rattle.std.specs.Result.{result_err}
use Rattle.doc_tree.specs.Doc.{Doc, height}
use Rattle.doc_tree.specs.Sound.{IsSound}
use Rattle.doc_tree.specs.Text.{text_of}
use Rattle.doc_patch.specs.Reading.{is_too_long}
use Rattle.doc_edits.specs.Size.{size}
use Rattle.doc_patch.specs.declared.limits.TheConstants.{DOCUMENT_BYTES, DOCUMENT_HEIGHT, PATCH_BYTES, PATCH_HEIGHT}
use Rattle.refusals.specs.declared.numbers.TheConstants.{DEPTH, TOO_LARGE}
use Rattle.record_text.proofs.Parts as parts
use Rattle.record_text.specs.Change.{Change, create, patch, set_schema, delete, IsSpelled}
use Rattle.record_text.specs.Frame.{IsFramed}
use Rattle.record_text.specs.Parts.{HasSmallParts}
use Rattle.doc_changes.specs.Judged.{IsSoundChange}
use Rattle.doc_changes.specs.Patched.{patched}
use Rattle.doc_changes.specs.State.{Document, State, IsStorable, find}
use Rattle.doc_changes.specs.Names.{is_name}
use Rattle.doc_changes.specs.Step.{refusals_in, refusal_of, patch_refusal, revision_refusal}
use Rattle.doc_changes.specs.Refusals.{other_revision}
use Rattle.doc_schema.specs.Faults.{IsTooLong}
use Rattle.schema_rules.specs.declared.profile.Profile.{Profile}
use Rattle.doc_changes.specs.declared.refusal.Refusal.{Refusal}
use Rattle.doc_changes.proofs.Reasons.{none_first, first-left, named_if, within_if, at_found}
use Rattle.doc_changes.proofs.Schemas.{NoneIsFound, faultless, schema_height, schema_text}
use Rattle.doc_changes.proofs.NameBytes.{IsUtf8-name, length-quoted-name}

-- what small parts give
abbrev pub SmallAreFramed : Type 0
SmallAreFramed = (c : Change) → HasSmallParts c → IsFramed c

-- ---- each kind of change

framed_create : SmallAreFramed → (name : List ℕ) (schema doc : Doc) → is_name name ≡ true → IsSound schema → (IsTooLong schema → ⊥)
    → IsSound doc → height doc ≤ DOCUMENT_HEIGHT → length (text_of doc) ≤ DOCUMENT_BYTES → IsFramed (create name schema doc)
framed_create small name schema doc named s f d dh ds = small (create name schema doc) (record {
  spelled = tt;
  named = IsUtf8-name name named;
  sound = (s, (d, tt));
  low = omega (arith, schema_height schema f, dh);
  short = omega (arith, length-quoted-name name named, schema_text schema f, ds);
})

framed_patch : SmallAreFramed → (name : List ℕ) (ops : Doc) (if_rev : Option ℕ) → IsSpelled (patch name ops if_rev) → is_name name ≡ true → IsSound ops → height ops ≤ PATCH_HEIGHT → length (text_of ops) ≤ PATCH_BYTES → IsFramed (patch name ops if_rev)
framed_patch small name ops if_rev spelled named o oh os = small (patch name ops if_rev) (record {
  spelled = spelled;
  named = IsUtf8-name name named;
  sound = (o, tt);
  low = omega (arith, oh);
  short = omega (arith, length-quoted-name name named, os);
})

framed_schema : SmallAreFramed → (name : List ℕ) (schema : Doc) → is_name name ≡ true → IsSound schema → (IsTooLong schema → ⊥) → IsFramed (set_schema name schema)
framed_schema small name schema named s f = small (set_schema name schema) (record {
  spelled = tt;
  named = IsUtf8-name name named;
  sound = (s, tt);
  low = omega (arith, schema_height schema f);
  short = omega (arith, length-quoted-name name named, schema_text schema f);
})

framed_delete : SmallAreFramed → (name : List ℕ) → is_name name ≡ true → IsFramed (delete name)
framed_delete small name named = small (delete name) (record {
  spelled = tt;
  named = IsUtf8-name name named;
  sound = tt;
  low = omega arith;
  short = omega (arith, length-quoted-name name named);
})

-- ---- a revision that is asked for

asked_low : (asked revision : ℕ) (same : Bool) (low : Bool) → (low ≡ true → asked < 2 ^ 63) → (if same && low then None else Some (other_revision revision)) ≡ None → asked < 2 ^ 63
asked_low asked revision true true fits h = fits refl
asked_low asked revision true false fits h = absurd (cc)
asked_low asked revision false low fits h = absurd (cc)

-- a revision that isn't refused can be spelled
spelled_asked : (name : List ℕ) (ops : Doc) (if_rev : Option ℕ) (revision : ℕ) → revision_refusal if_rev revision ≡ None → IsSpelled (patch name ops if_rev)
spelled_asked name ops None revision h = tt
spelled_asked name ops (Some asked) revision h =
    asked_low asked revision (nat_eq asked revision) (nat_le asked 0x7fff_ffff_ffff_ffff) (λ low. let most = leb-true asked 0x7fff_ffff_ffff_ffff low in omega (arith, most)) h

-- ---- a patch that is read

pub record IsReadable (ops : Doc) : Type 0 where
  pub low : height ops ≤ PATCH_HEIGHT
  pub short : size ops ≤ PATCH_BYTES

short_enough : (ops : Doc) → is_too_long ops ≡ false → IsReadable ops
short_enough ops h =
    let low = or_parts _ (nat_lt PATCH_HEIGHT (height ops)) h in
    let short = or_parts _ (nat_lt PATCH_BYTES (size ops)) low.0 in
    record { low = ltb-false PATCH_HEIGHT (height ops) low.1; short = ltb-false PATCH_BYTES (size ops) short.1 }

readable : (ops d e : Doc) → patched ops d ≡ Ok e → IsReadable ops
readable ops d e h = by (is_too_long ops) refl h
  where
    by : (b : Bool) → is_too_long ops ≡ b → patched ops d ≡ Ok e → IsReadable ops
    by false is made = short_enough ops is
    by true is made = absurd (cc)

patched_ok : (ops : Doc) (d : Document) → patch_refusal ops d ≡ None → IsReadable ops
patched_ok ops d h = by (patched ops d.doc) refl h
  where
    by : (r : Result Doc Refusal) → patched ops d.doc ≡ r → result_err r ≡ None → IsReadable ops
    by (Ok e) is none = readable ops d.doc e is
    by (Err r) is none = absurd (cc)

-- ---- laws

none_there : (o : Option Document) → o ≡ None → is_some o ≡ true → ⊥
none_there o is h = cc

framed_alone : SmallAreFramed → (profile : Profile) → NoneIsFound profile → (ds : List Document) (c : Change) → AllByRecursion (λ r. r ≡ None) (refusals_in profile ds c) → IsSoundChange c → IsFramed c
framed_alone small profile found ds (create name schema doc) none sound =
    framed_create small name schema doc (named_if (is_name name) _ none.0) sound.0 (λ long. (faultless profile found schema none.1.1.1.0).size (inl long)) sound.1
    (within_if DOCUMENT_HEIGHT (height doc) DEPTH none.1.1.1.1.0) (within_if DOCUMENT_BYTES (length (text_of doc)) TOO_LARGE none.1.1.1.1.1.0)
framed_alone small profile found ds (patch name ops if_rev) none sound =
    let r = found_readable (find name ds) refl in framed_patch small name ops if_rev (found_spelled (find name ds) refl) (named_if (is_name name) _ none.0) sound r.low r.short
  where
    found_readable : (o : Option Document) → find name ds ≡ o → IsReadable ops
    found_readable (Some d) is = patched_ok ops d (at_found (patch_refusal ops) (find name ds) d is none.1.1.1.0)
    found_readable None is = absurd (none_there (find name ds) is (named_if (is_some (find name ds)) _ none.1.0))

    found_spelled : (o : Option Document) → find name ds ≡ o → IsSpelled (patch name ops if_rev)
    found_spelled (Some d) is = spelled_asked name ops if_rev d.revision (at_found (λ x. revision_refusal if_rev x.revision) (find name ds) d is none.1.1.0)
    found_spelled None is = absurd (none_there (find name ds) is (named_if (is_some (find name ds)) _ none.1.0))
framed_alone small profile found ds (set_schema name schema) none sound = framed_schema small name schema (named_if (is_name name) _ none.0) sound (λ long. (faultless profile found schema none.1.1.0).size (inl long))
framed_alone small profile found ds (delete name) none sound = framed_delete small name (named_if (is_name name) _ none.0)

-- every accepted change whose trees are in memory
pub framed : SmallAreFramed → ((profile : Profile) → NoneIsFound profile) → (s : State) (c : Change) → refusal_of s c ≡ None → IsSoundChange c → IsFramed c
framed small found s c h sound = framed_alone small s.profile (found s.profile) s.documents c (none_first (refusals_in s.profile s.documents c) (first-left (refusals_in s.profile s.documents c) _ h)) sound

-- the creation of every document that may be kept
pub creation_framed : SmallAreFramed → (d : Document) → IsStorable d → IsFramed (create d.name d.schema d.doc)
creation_framed small d s = framed_create small d.name d.schema d.doc s.named s.schema_sound s.schema_small s.doc_sound s.doc_height s.doc_text

-- for the store's proofs, which cite it: the one lemma of another crate's proofs here
pub framed_storable : (d : Document) → IsStorable d → IsFramed (create d.name d.schema d.doc)
framed_storable = creation_framed parts.framed
