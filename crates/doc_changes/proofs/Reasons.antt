-- What a change that isn't refused keeps to.
use Rattle.std.proofs.Common.{◌≡◌, ℕ, ◌<◌, ◌≤◌, Bool, true, false, not, List, [], ◌∷◌, ◌++◌, Option, None, Some, Result, Ok, refl, sym, ap, ◌∙◌, length, arith, nat_lt, nat_eq, inl}
use Rattle.std.proofs.lemmas.Bool.{ltb-false, leb-false, eqb-false}
use Rattle.std.specs.List.{AllByRecursion}
use Rattle.doc_tree.specs.Doc.{Doc, height}
use Rattle.doc_tree.specs.Sound.{IsSound}
use Rattle.doc_tree.specs.Text.{text_of}
use Rattle.doc_schema.specs.Faults.{IsFaultless}
use Rattle.schema_rules.specs.declared.profile.Profile.{Profile}
use Rattle.doc_patch.specs.declared.limits.TheConstants.{DOCUMENT_BYTES, DOCUMENT_HEIGHT}
use Rattle.refusals.specs.declared.numbers.TheConstants.{DEPTH, TOO_LARGE}
use Rattle.record_text.specs.Change.{Change, create}
use Rattle.doc_changes.specs.Patched.{on_made}
use Rattle.doc_changes.specs.Refusals.{refused_if, first}
use Rattle.doc_changes.specs.Schema.{is_valid}
use Rattle.doc_changes.specs.State.{Document, State, IsStorable, find, most_documents}
use Rattle.doc_changes.specs.Names.{is_name}
use Rattle.doc_changes.specs.Step.{refusals_in, refusal_of, refusal_at, seq_refusal}
use Rattle.doc_changes.specs.declared.limits.TheConstants.{LAST_SEQ}
use Rattle.doc_changes.specs.declared.refusal.Refusal.{Refusal}
use Rattle.doc_changes.proofs.Entries.{none_found}
use Rattle.doc_changes.proofs.Schemas.{judges_yes}

-- where no first reason is found, none is one
pub none_first : (rs : List (Option Refusal)) → first rs ≡ None → AllByRecursion (λ r. r ≡ None) rs
none_first [] h = tt
none_first (None ∷ rs) h = (refl, none_first rs h)
none_first (Some r ∷ rs) h = absurd (cc)

-- reasons and one more: there is none where neither is
first-parts : (rs : List (Option Refusal)) (r : Option Refusal) → first (rs ++ r ∷ []) ≡ None → (first rs ≡ None) × (r ≡ None)
first-parts [] None h = (refl, refl)
first-parts [] (Some r) h = absurd (cc)
first-parts (None ∷ rs) r h = first-parts rs r h
first-parts (Some x ∷ rs) r h = absurd (cc)

pub first-none : (rs : List (Option Refusal)) (r : Option Refusal) → first rs ≡ None → first (rs ++ r ∷ []) ≡ r
first-none [] None h = refl
first-none [] (Some r) h = refl
first-none (None ∷ rs) r h = first-none rs r h
first-none (Some x ∷ rs) r h = absurd (cc)

pub not_refused : (b : Bool) (n : ℕ) → refused_if b n ≡ None → b ≡ false
not_refused true n h = absurd (cc)
not_refused false n h = refl

negated : (b : Bool) → not b ≡ false → b ≡ true
negated true h = refl
negated false h = absurd (cc)

-- ---- single reasons

pub named_if : (b : Bool) (n : ℕ) → refused_if (not b) n ≡ None → b ≡ true
named_if b n h = negated b (not_refused (not b) n h)

pub within_if : (n m k : ℕ) → refused_if (nat_lt n m) k ≡ None → m ≤ n
within_if n m k h = ltb-false n m (not_refused (nat_lt n m) k h)

-- ---- whole changes

-- a state that accepts a change: its documents do, and it may count one more
pub record Accepts (s : State) (c : Change) : Type 0 where
  pub alone : AllByRecursion (λ r. r ≡ None) (refusals_in s.profile s.documents c)
  pub rises : s.seq < LAST_SEQ

below_last : (n : ℕ) → n ≤ LAST_SEQ → seq_refusal n ≡ None → n < LAST_SEQ
below_last n most h = let other = eqb-false n LAST_SEQ (not_refused (nat_eq n LAST_SEQ) _ h) in omega (arith, most, other)

pub accepts : (s : State) (c : Change) → s.seq ≤ LAST_SEQ → refusal_of s c ≡ None → Accepts s c
accepts s c most h =
    let both = first-parts (refusals_in s.profile s.documents c) (seq_refusal s.seq) h in
    record { alone = none_first (refusals_in s.profile s.documents c) both.0; rises = below_last s.seq most both.1 }

-- a document that may be created
pub record CanCreate (profile : Profile) (ds : List Document) (d : Document) : Type 0 where
  pub new : find d.name ds ≡ None
  pub few : length ds < most_documents profile
  pub storable : IsStorable d

pub can_create : (profile : Profile) (ds : List Document) (d : Document) → AllByRecursion (λ r. r ≡ None) (refusals_in profile ds (create d.name d.schema d.doc)) → IsSound d.schema → IsSound d.doc → IsFaultless profile d.schema → CanCreate profile ds d
can_create profile ds d none schema doc faultless = record {
  new = none_found (find d.name ds) (not_refused _ _ none.1.0);
  few = leb-false (most_documents profile) (length ds) (not_refused _ _ none.1.1.0);
  storable = record {
    named = named_if (is_name d.name) _ none.0;
    doc_sound = doc;
    doc_height = within_if DOCUMENT_HEIGHT (height d.doc) DEPTH none.1.1.1.1.0;
    doc_text = within_if DOCUMENT_BYTES (length (text_of d.doc)) TOO_LARGE none.1.1.1.1.1.0;
    schema_sound = schema;
    schema_small = λ long. faultless.size (inl long);
    valid = judges_yes d.schema d.doc (named_if (is_valid d.schema d.doc) _ none.1.1.1.1.1.1.0);
  };
}

-- what holds at a document that is found
pub at_found : (f : Document → Option Refusal) (o : Option Document) (d : Document) → o ≡ Some d → refusal_at f o ≡ None → f d ≡ None
at_found f o d is h = sym (ap (refusal_at f) is) ∙ h

pub of_made : (f : Doc → Option Refusal) (r : Result Doc Refusal) (d : Doc) → r ≡ Ok d → on_made f r ≡ None → f d ≡ None
of_made f r d is h = sym (ap (on_made f) is) ∙ h

pub first-left : (rs : List (Option Refusal)) (r : Option Refusal) → first (rs ++ r ∷ []) ≡ None → first rs ≡ None
first-left rs r h = (first-parts rs r h).0
