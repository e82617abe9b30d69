-- A schema is refused by its first fault alone.
use Rattle.std.proofs.Common.{◌≡◌, ◌⊎◌, inl, inr, ℕ, zero, suc, ◌+◌, ◌*◌, ◌<◌, ◌≤◌, Bool, true, Option, None, Some, Result, Ok, Err, MatchResult, option_map, refl, ap, sym, ◌∙◌, length, arith}
use Rattle.std.specs.Prelude.{◌↔◌}
use Rattle.std.specs.Result.{IsErrAnd}
use Rattle.doc_tree.specs.Doc.{Doc, boolean, height}
use Rattle.doc_tree.specs.Text.{text_of}
use Rattle.refusals.specs.declared.numbers.TheConstants.{MEMORY}
use Rattle.doc_schema.proofs.FirstFaults.{faultless_told}
use Rattle.doc_schema.specs.Faults.{IsFaultless, IsFaultOf, IsFirstFault, IsTooLong, first_fault}
use Rattle.doc_schema.specs.Judge.{Judges, judge, enough}
use Rattle.doc_schema.specs.Positions.{positions}
use Rattle.doc_schema.specs.Steps.{settled}
use Rattle.doc_schema.specs.declared.fault.SchemaFault.{SchemaFault}
use Rattle.schema_rules.specs.declared.profile.Profile.{Profile}
use Rattle.doc_changes.specs.Refusals.{plain}
use Rattle.doc_changes.specs.Schema.{is_true, is_valid, schema_refusal}
use Rattle.doc_changes.specs.declared.refusal.Refusal.{Refusal}

-- ---- refusals, by the laws of first faults

-- a number is found exactly where it is that of the first fault
abbrev pub FaultsAreFound : Profile → Type 0
FaultsAreFound profile = (s : Doc) (n : ℕ) → (first_fault profile s ≡ Some n) ↔ IsFirstFault profile s n

-- and none exactly where nothing is wrong
abbrev pub NoneIsFound : Profile → Type 0
NoneIsFound profile = (s : Doc) → (first_fault profile s ≡ None) ↔ IsFaultless profile s

number_in : Option Refusal → ℕ
number_in None = 0
number_in (Some r) = r.number

same_plain : (n m : ℕ) → Some (plain n) ≡ Some (plain m) → n ≡ m
unfolding number_in
same_plain n m e = ap number_in e

of_none : (o : Option ℕ) → option_map plain o ≡ None → o ≡ None
of_none None e = refl
of_none (Some n) e = absurd (cc)

of_some : (o : Option ℕ) (n : ℕ) → option_map plain o ≡ Some (plain n) → o ≡ Some n
of_some None n e = absurd (cc)
of_some (Some m) n e = ap Some (same_plain m n e)

pub refused_by : (profile : Profile) → FaultsAreFound profile → (s : Doc) (n : ℕ) → IsFirstFault profile s n → schema_refusal profile s ≡ Some (plain n)
unfolding schema_refusal
refused_by profile found s n f = ap (option_map plain) ((found s n).1 f)

pub unrefused : (profile : Profile) → NoneIsFound profile → (s : Doc) → IsFaultless profile s → schema_refusal profile s ≡ None
unfolding schema_refusal
unrefused profile found s f = ap (option_map plain) ((found s).1 f)

-- for the store's proofs, which cite it: the one lemma of another crate's proofs here
pub refused_not : (profile : Profile) (s : Doc) → IsFaultless profile s → schema_refusal profile s ≡ None
unfolding schema_refusal
refused_not profile s f = ap (option_map plain) (faultless_told profile s f)

pub faultless : (profile : Profile) → NoneIsFound profile → (s : Doc) → schema_refusal profile s ≡ None → IsFaultless profile s
unfolding schema_refusal
faultless profile found s h = (found s).0 (of_none (first_fault profile s) h)

pub fault_of : (profile : Profile) → FaultsAreFound profile → (s : Doc) (n : ℕ) → schema_refusal profile s ≡ Some (plain n) → IsFirstFault profile s n
unfolding schema_refusal
fault_of profile found s n h = (found s n).0 (of_some (first_fault profile s) n h)

-- what reading refuses, as a refusal
pub as_refused : {A : Type 0} → (profile : Profile) → FaultsAreFound profile → (r : Result A Refusal) (fault : SchemaFault) (s : Doc) (P : A → Type 0) → IsFaultOf profile s fault → IsErrAnd r (λ y. y ≡ plain fault.number)
    → MatchResult r P (λ y. (y ≡ plain MEMORY) ⊎ (schema_refusal profile s ≡ Some y))
as_refused profile found (Ok a) fault s P f is = absurd is
as_refused profile found (Err y) fault s P (inl f) is = inr (refused_by profile found s fault.number f ∙ ap Some (sym is))
as_refused profile found (Err y) fault s P (inr memory) is = inl (is ∙ ap plain memory)

-- ---- the limits of schemas

below_or_not : (a b : ℕ) → (a < b) ⊎ (b ≤ a)
below_or_not a b = grind arith

pub schema_height : (s : Doc) → (IsTooLong s → ⊥) → height s ≤ 64
schema_height s none = by (below_or_not 64 (height s))
  where
    by : (64 < height s) ⊎ (height s ≤ 64) → height s ≤ 64
    by (inl high) = absurd (none (inr high))
    by (inr low) = low

pub schema_text : (s : Doc) → (IsTooLong s → ⊥) → length (text_of s) ≤ 262_144
schema_text s none = by (below_or_not 262_144 (length (text_of s)))
  where
    by : (262_144 < length (text_of s)) ⊎ (length (text_of s) ≤ 262_144) → length (text_of s) ≤ 262_144
    by (inl long) = absurd (none (inl long))
    by (inr short) = short

-- ---- validity

settled_yes : (o : Option Bool) → settled o ≡ true → o ≡ Some true
settled_yes None h = absurd (cc)
settled_yes (Some b) h = ap Some h

pub judges_yes : (s d : Doc) → is_valid s d ≡ true → Judges s d true
judges_yes s d h = settled_yes (judge s (enough s d) s d) h

-- the test is what the judgement says
pub valid_as_judged : (s d : Doc) (b : Bool) → Judges s d b → is_valid s d ≡ b
valid_as_judged s d b h = ap settled h

product : (a b : ℕ) → 1 ≤ (a + 1) * (b + 1)
product a b = omega arith

-- under `true` every document is valid
decided : (n : ℕ) (d : Doc) → 1 ≤ n → judge (boolean true) n (boolean true) d ≡ Some true
decided zero d h = absurd (omega arith)
decided (suc n) d h = refl

pub true_accepts : (s d : Doc) → is_true s ≡ true → is_valid s d ≡ true
true_accepts s d h = ap (λ x. is_valid x d) (same s h) ∙ valid_as_judged (boolean true) d true (decided (enough (boolean true) d) d (product (height d) (length (positions (boolean true)))))
  where
    same : (s : Doc) → is_true s ≡ true → s ≡ boolean true
    same (boolean b) h = ap boolean h
    same _ h = absurd (cc)
