-- The first fault that the tests find is the schema's first.
use Rattle.std.proofs.Common.{◌≡◌, ◌⊎◌, ◌||◌, not, inl, inr, ℕ, zero, suc, ◌≤◌, Bool, true, false, ◌∷◌, [], length, Option, Some, None, nat_lt, nat_le, refl, sym, ap, subst, arith, ⊎_elim}
use Rattle.std.proofs.lemmas.Bool.{leb-true, le-leb, ltb-true, lt-ltb, or_cases, or_left, or_right}
use Rattle.std.specs.Bool.{Decides}
use Rattle.std.specs.List.{list_any}
use Rattle.doc_tree.specs.Doc.{Doc, height}
use Rattle.doc_tree.specs.Same.{same}
use Rattle.doc_tree.specs.Text.{text_of}
use Rattle.doc_tree.proofs.Sameness.{same-Decides}
use Rattle.schema_graph.specs.Walks.{In, Walk, depth}
use Rattle.schema_graph.proofs.Ranks.{any_length, front, long_walk, node_at, over_edge, walk_of}
use Rattle.schema_graph.proofs.Rounds.{any_walk}
use Rattle.schema_rules.specs.PatternTexts.{offered_texts}
use Rattle.schema_rules.specs.declared.profile.Profile.{Profile}
use Rattle.doc_schema.specs.Defects.{HasDefect}
use Rattle.doc_schema.specs.Faults.{IsFaultless, IsFirstFault, IsMalformed, IsTooLarge, IsTooLong, are_too_large, too_large, malformed, left_out, dangling, looped, is_malformed, is_too_large, is_too_long, is_marred, is_looped, texts_fit, first_number, first_fault}
use Rattle.doc_schema.specs.Loops.{HasSchemaLoop}
use Rattle.doc_schema.specs.Schemas.{applied, schemas}
use Rattle.doc_schema.specs.declared.defects.Defect.{Defect}
use Rattle.doc_schema.specs.declared.defects.Defect.TheVariants.{Form, LeftOut, Reference}
use Rattle.refusals.specs.declared.numbers.TheConstants.{SCHEMA_FORM, SCHEMA_KEYWORD, SCHEMA_LOOP, SCHEMA_REF, SCHEMA_SIZE}
use Rattle.doc_schema.proofs.Anywhere.{told, untold, some_passes, none_passes}
use Rattle.doc_schema.proofs.Closed.{closed_applied}
use Rattle.doc_schema.proofs.Lifted.{loop_above, loop_below}

-- ---- a test that tells of a fact

unless_false : (b : Bool) → (b ≡ false → ⊥) → b ≡ true
unless_false true h = refl
unless_false false h = absurd (h refl)

off : {P : Type 0} (b : Bool) → Decides b P → (P → ⊥) → b ≡ false
off true d none = absurd (none (d.0 refl))
off false d none = refl

refuted : {P : Type 0} (b : Bool) → Decides b P → b ≡ false → P → ⊥
refuted b d e p = let yes = d.1 p in cc

-- ---- each test

long : (s : Doc) → Decides (is_too_long s) (IsTooLong s)
long s = (
  λ e. ⊎_elim (λ long. inl (ltb-true 262_144 (length (text_of s)) long)) (λ high. inr (ltb-true 64 (height s) high)) (or_cases (nat_lt 262_144 (length (text_of s))) (nat_lt 64 (height s)) e),
  λ h. ⊎_elim (λ long. or_left (nat_lt 262_144 (length (text_of s))) (nat_lt 64 (height s)) (lt-ltb 262_144 (length (text_of s)) long)) (λ high. or_right (nat_lt 262_144 (length (text_of s))) (nat_lt 64 (height s)) (lt-ltb 64 (height s) high)) h,
)

-- of either of two
either : {P Q : Type 0} (a b : Bool) → Decides a P → Decides b Q → Decides (a || b) (P ⊎ Q)
either a b p q = (λ e. ⊎_elim (λ x. inl (p.0 x)) (λ y. inr (q.0 y)) (or_cases a b e), λ h. ⊎_elim (λ x. or_left a b (p.1 x)) (λ y. or_right a b (q.1 y)) h)

none_of : (b : Bool) → Decides (not b) (b ≡ false)
none_of true = (λ e. absurd cc, λ e. absurd cc)
none_of false = (λ e. refl, λ e. refl)

large : (profile : Profile) (s : Doc) → Decides (is_too_large profile s) (IsTooLarge profile s)
large profile s = either (is_too_long s) (are_too_large (offered_texts profile s)) (long s) (λ e. e, λ e. e)

marred : (profile : Profile) (defect : Defect) (s : Doc) → Decides (is_marred profile defect s) (HasDefect profile defect s)
marred profile defect s = (λ e. told profile defect s (sym e), λ h. unless_false (is_marred profile defect s) (λ e. untold profile defect s (sym e) h))

malformed_is : (profile : Profile) (s : Doc) → Decides (is_malformed profile s) (IsMalformed profile s)
malformed_is profile s = either (is_marred profile Form s) (not (texts_fit profile s)) (marred profile Form s) (none_of (texts_fit profile s))

-- a walk is no longer than the longest
reaches : (s : Doc) (k : ℕ) (a b : Doc) → Walk (applied s) a b k → k ≤ depth (applied s) k a
unfolding depth
reaches s zero a b w = omega arith
reaches s (suc k) a b w = let more = over_edge (depth (applied s) k) (applied s a) w.0 w.1 in let rest = reaches s k w.0 b w.2 in omega (arith, more, rest)

module _ (s : Doc) where
  count : ℕ
  count = length (schemas s)

  deep : Doc → ℕ
  deep a = depth (applied s) count a

  is_deep : Doc → Bool
  is_deep a = nat_le count (deep a)

  -- a walk of as many edges as there are schemas comes back somewhere
  deep_loops : (a : Doc) → In a (schemas s) → is_deep a ≡ true → HasSchemaLoop s
  unfolding is_deep deep count
  deep_loops a i e =
      let w = walk_of (applied s) count a (deep a) refl in
      let start = front (applied s) a w.0 (deep a) count w.1 (leb-true count (deep a) e) in
      loop_above s (any_length (applied s) (schemas s) (long_walk (applied s) same same-Decides (schemas s) (closed_applied s) a (node_at (applied s) a w.0 (deep a) w.1 count) i start))

  -- and from where a walk comes back there is one
  loops_deep : HasSchemaLoop s → list_any is_deep (schemas s) ≡ false → ⊥
  unfolding is_deep deep count
  loops_deep h none =
      let l = loop_below s h in
      let w = any_walk (applied s) l.0 l.2 l.3 count in
      none_passes is_deep (schemas s) none l.0 l.1 (le-leb count (deep l.0) (reaches s count l.0 w.0 w.1))

  pub looping : Decides (is_looped s) (HasSchemaLoop s)
  unfolding is_deep deep count
  looping = (λ e. let r = some_passes is_deep (schemas s) e in deep_loops r.0 r.1 r.2, λ h. unless_false (is_looped s) (loops_deep h))

-- ---- whole schemas

-- what is found is so
abbrev pub IsFound : Profile → Doc → Option ℕ → Type 0
IsFound profile s None = IsFaultless profile s
IsFound profile s (Some n) = IsFirstFault profile s n

pub found : (profile : Profile) (s : Doc) → IsFound profile s (first_fault profile s)
unfolding first_fault
found profile s = by (is_too_large profile s) (is_malformed profile s) (is_marred profile LeftOut s) (is_marred profile Reference s) (is_looped s) (large profile s) (malformed_is profile s) (marred profile LeftOut s) (marred profile Reference s) (looping s)
  where
    by : (a b c d e : Bool) → Decides a (IsTooLarge profile s) → Decides b (IsMalformed profile s) → Decides c (HasDefect profile LeftOut s) → Decides d (HasDefect profile Reference s) → Decides e (HasSchemaLoop s)
        → IsFound profile s (first_number ((a, SCHEMA_SIZE) ∷ (b, SCHEMA_FORM) ∷ (c, SCHEMA_KEYWORD) ∷ (d, SCHEMA_REF) ∷ (e, SCHEMA_LOOP) ∷ []))
    by true b c d e p q r t u = too_large refl (p.0 refl)
    by false true c d e p q r t u = malformed refl (refuted false p refl) (q.0 refl)
    by false false true d e p q r t u = left_out refl (refuted false p refl) (refuted false q refl) (r.0 refl)
    by false false false true e p q r t u = dangling refl (refuted false p refl) (refuted false q refl) (refuted false r refl) (t.0 refl)
    by false false false false true p q r t u = looped refl (refuted false p refl) (refuted false q refl) (refuted false r refl) (refuted false t refl) (u.0 refl)
    by false false false false false p q r t u = record { size = refuted false p refl; form = refuted false q refl; keywords = refuted false r refl; references = refuted false t refl; loops = refuted false u refl }

pub told_first : (profile : Profile) (s : Doc) (n : ℕ) → first_fault profile s ≡ Some n → IsFirstFault profile s n
told_first profile s n e = subst (IsFound profile s) e (found profile s)

pub told_faultless : (profile : Profile) (s : Doc) → first_fault profile s ≡ None → IsFaultless profile s
told_faultless profile s e = subst (IsFound profile s) e (found profile s)

-- what is so is found
pub first_told : (profile : Profile) (s : Doc) (n : ℕ) → IsFirstFault profile s n → first_fault profile s ≡ Some n
unfolding first_fault
first_told profile s n (too_large e h) = rw ((large profile s).1 h) (ap Some (sym e))
first_told profile s n (malformed e a h) = rw (off _ (large profile s) a, (malformed_is profile s).1 h) (ap Some (sym e))
first_told profile s n (left_out e a b h) = rw (off _ (large profile s) a, off _ (malformed_is profile s) b, (marred profile LeftOut s).1 h) (ap Some (sym e))
first_told profile s n (dangling e a b c h) = rw (off _ (large profile s) a, off _ (malformed_is profile s) b, off _ (marred profile LeftOut s) c, (marred profile Reference s).1 h) (ap Some (sym e))
first_told profile s n (looped e a b c d h) =
    rw (off _ (large profile s) a, off _ (malformed_is profile s) b, off _ (marred profile LeftOut s) c, off _ (marred profile Reference s) d, (looping s).1 h) (ap Some (sym e))

pub faultless_told : (profile : Profile) (s : Doc) → IsFaultless profile s → first_fault profile s ≡ None
unfolding first_fault
faultless_told profile s f =
    rw (off _ (large profile s) f.size, off _ (malformed_is profile s) f.form, off _ (marred profile LeftOut s) f.keywords, off _ (marred profile Reference s) f.references, off _ (looping s) f.loops) refl
