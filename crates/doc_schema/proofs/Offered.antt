-- A schema without a fault in a profile has none in the profile that offers all keywords: no keyword in it is left out.
use Rattle.std.proofs.Common.{◌≡◌, ◌⊎◌, inl, inr, ⊎_elim, ℕ, suc, map, List, [], ◌∷◌, ◌++◌, Bool, true, false, ◌&&◌, ◌||◌, Option, None, codes, refl, sym, ap, ap₂, subst, ◌∙◌}
use Rattle.std.specs.Prelude.{⊤}
use Rattle.doc_tree.specs.Doc.{Doc, null, boolean, int, text, list, object, Elements, no_elements, element, Members, no_members, member, get_member, Place, name, index}
use Rattle.schema_graph.specs.Walks.{In, first, later}
use Rattle.schema_graph.proofs.Among.{In-left, In-right}
use Rattle.schema_rules.specs.Forms.{is_left_out}
use Rattle.schema_rules.specs.Keywords.{keyword_of, shape_of}
use Rattle.schema_rules.specs.Parts.{members_in}
use Rattle.schema_pattern.specs.Tables.{are_patterns}
use Rattle.schema_rules.specs.Anchors.{anchors_of, are_different, offered_anchors}
use Rattle.schema_rules.specs.Fragments.{text_in}
use Rattle.std.specs.Option.{option_to_list}
use Rattle.doc_tree.proofs.Members.{get_member-later}
use Rattle.schema_nodes.proofs.KeywordNames.{anchor_is}
use Rattle.schema_rules.specs.PatternTexts.{offered_texts, pattern_texts, texts_by, texts_in, texts_of}
use Rattle.schema_rules.specs.Profiles.{offered}
use Rattle.schema_rules.specs.References.{is_dangling}
use Rattle.schema_references.proofs.Kept.{none_dangles}
use Rattle.schema_rules.specs.Subschemas as alone
use Rattle.schema_rules.specs.declared.keyword.Keyword.{Keyword}
use Rattle.schema_rules.specs.declared.keyword.Keyword.TheVariants.{Pattern, PatternProperties, DependentSchemas, Anchor, LeftOut}
use Rattle.schema_rules.specs.declared.keyword.Shape.{Shape}
use Rattle.schema_rules.specs.declared.keyword.Shape.TheVariants.{One, Several, Named}
use Rattle.schema_rules.specs.declared.profile.Profile.{Profile}
use Rattle.schema_rules.specs.declared.profile.Profile.TheVariants.{Two, Three}
use Rattle.doc_schema.specs.Checked.{IsChecked}
use Rattle.doc_schema.specs.Defects.{is_root, is_wrong, lacks_form, some_member, has_defect, HasDefect}
use Rattle.doc_schema.specs.Faults.{IsFaultless, IsMalformed, IsTooLarge, are_too_large, texts_fit}
use Rattle.doc_schema.specs.Positions.{Position, position, positions, positions_in, positions_each, positions_named, positions_below, offered_in, offered_each, offered_named, offered_below, offered_positions}
use Rattle.doc_schema.specs.declared.defects.Defect.{Defect}
use Rattle.doc_schema.specs.declared.defects.Defect.TheVariants.{Form, LeftOut as Omitted, Reference, ByPointer}
use Rattle.doc_schema.proofs.Closed.{offered_are, schema_of, schemas_are}

-- ---- members whose keywords the profile offers

stays : (profile : Profile) (k : Keyword) → (offered profile k ≡ LeftOut → ⊥) → offered profile k ≡ k
stays Two Pattern h = absurd (h refl)
stays Two PatternProperties h = absurd (h refl)
stays Two DependentSchemas h = absurd (h refl)
stays Two Anchor h = absurd (h refl)
stays Two _ h = refl
stays Three _ h = refl

module _ (profile : Profile) (root : Doc) where
  -- the keyword is offered, and a reference names a schema
  abbrev Kept : Members → Type 0
  Kept no_members = ⊤
  Kept (member k v ms) = (offered profile (keyword_of k) ≡ keyword_of k) × (is_dangling profile root (keyword_of k) v ≡ false) × Kept ms

  abbrev AllKept : List Position → Type 0
  AllKept ps = (p : Position) → In p ps → Kept (members_in p.schema)

  neither : (a b : Bool) → (a || b) ≡ false → (a ≡ false) × (b ≡ false)
  neither false b e = (refl, e)
  neither true b e = absurd cc

  kept_members : (at_root : Bool) (ms : Members) → some_member profile (is_wrong profile Omitted root at_root) ms ≡ false → some_member profile (is_wrong profile Reference root at_root) ms ≡ false → Kept ms
  kept_members at_root no_members e f = tt
  kept_members at_root (member k v ms) e f =
      let parts = neither (is_left_out at_root (offered profile (keyword_of k)) v) (some_member profile (is_wrong profile Omitted root at_root) ms) e in
      let parts' = neither (is_dangling profile root (offered profile (keyword_of k)) v) (some_member profile (is_wrong profile Reference root at_root) ms) f in
      let same = stays profile (keyword_of k) (λ out. (let is : true ≡ false = sym (ap (λ w. is_left_out at_root w v) out) ∙ parts.0 in absurd cc)) in
      (same, sym (ap (λ w. is_dangling profile root w v) same) ∙ parts'.0, kept_members at_root ms parts.1 parts'.1)

  kept_at : (HasDefect profile Omitted root → ⊥) → (HasDefect profile Reference root → ⊥) → AllKept (offered_positions profile root)
  kept_at none named p i = by_defect (has_defect profile Omitted root p) (has_defect profile Reference root p) refl refl
    where
      by_defect : (b c : Bool) → has_defect profile Omitted root p ≡ b → has_defect profile Reference root p ≡ c → Kept (members_in p.schema)
      by_defect true c e f = absurd (none (p, i, e))
      by_defect false true e f = absurd (named (p, i, f))
      by_defect false false e f = kept_members (is_root p.location) (members_in p.schema) (neither (lacks_form Omitted p.schema) _ e).1 (neither (lacks_form Reference p.schema) _ f).1

  -- ---- the same positions

  mutual
    same_in : (h : Shape) (here : List Place) (v : Doc) → AllKept (offered_in profile h here v) → offered_in profile h here v ≡ positions_in h here v
    same_in One here (object ms) f = ap (λ l. position here (object ms) ∷ l) (same_below here ms (f (position here (object ms)) first) (λ p i. f p (later i)))
    same_in One here null f = refl
    same_in One here (boolean b) f = refl
    same_in One here (int z) f = refl
    same_in One here (text s) f = refl
    same_in One here (list ds) f = refl
    same_in Several here (list ds) f = same_each here 0 ds f
    same_in Named here (object ms) f = same_named here ms f
    same_in _ here _ f = refl

    same_each : (here : List Place) (n : ℕ) (ds : Elements) → AllKept (offered_each profile here n ds) → offered_each profile here n ds ≡ positions_each here n ds
    same_each here n no_elements f = refl
    same_each here n (element d ds) f =
        ap₂ (λ a b. a ++ b) (same_in One (here ++ index n ∷ []) d (λ p i. f p (In-left p _ _ i))) (same_each here (suc n) ds (λ p i. f p (In-right p (offered_in profile One (here ++ index n ∷ []) d) _ i)))

    same_named : (here : List Place) (ms : Members) → AllKept (offered_named profile here ms) → offered_named profile here ms ≡ positions_named here ms
    same_named here no_members f = refl
    same_named here (member k d ms) f =
        ap₂ (λ a b. a ++ b) (same_in One (here ++ name k ∷ []) d (λ p i. f p (In-left p _ _ i))) (same_named here ms (λ p i. f p (In-right p (offered_in profile One (here ++ name k ∷ []) d) _ i)))

    same_below : (here : List Place) (ms : Members) → Kept ms → AllKept (offered_below profile here ms) → offered_below profile here ms ≡ positions_below here ms
    same_below here no_members kept f = refl
    same_below here (member k v ms) kept f =
        let there = here ++ name k ∷ [] in
        let shape : shape_of (offered profile (keyword_of k)) ≡ shape_of (keyword_of k) = ap shape_of kept.0 in
        let held : AllKept (offered_in profile (shape_of (keyword_of k)) there v) = subst (λ h. AllKept (offered_in profile h there v)) shape (λ p i. f p (In-left p _ _ i)) in
        ap (λ h. offered_in profile h there v ++ offered_below profile here ms) shape
        ∙ ap₂ (λ a b. a ++ b) (same_in (shape_of (keyword_of k)) there v held) (same_below here ms kept.2 (λ p i. f p (In-right p (offered_in profile (shape_of (offered profile (keyword_of k))) there v) _ i)))

  -- ---- the same faults

  wrong_same : (d : Defect) (at_root : Bool) (k : Keyword) (v : Doc) → is_dangling profile root k v ≡ false → is_wrong profile d root at_root k v ≡ is_wrong Three d root at_root k v
  wrong_same Form at_root k v e = refl
  wrong_same Omitted at_root k v e = refl
  wrong_same Reference at_root k v e = e ∙ sym (none_dangles profile root k v e)
  wrong_same ByPointer at_root k v e = refl

  some_same : (d : Defect) (at_root : Bool) (ms : Members) → Kept ms → some_member profile (is_wrong profile d root at_root) ms ≡ some_member Three (is_wrong Three d root at_root) ms
  some_same d at_root no_members kept = refl
  some_same d at_root (member k v ms) kept = ap₂ (λ a b. a || b) (ap (λ w. is_wrong profile d root at_root w v) kept.0 ∙ wrong_same d at_root (keyword_of k) v kept.1) (some_same d at_root ms kept.2)

  texts_same_by : (ms : Members) → Kept ms → texts_by profile ms ≡ texts_by Three ms
  texts_same_by no_members kept = refl
  texts_same_by (member k v ms) kept = ap₂ (λ a b. a ++ b) (ap (λ w. texts_of w v) kept.0) (texts_same_by ms kept.2)

  texts_kept : (ps : List Position) → AllKept ps → texts_in profile (map schema_of ps) ≡ texts_in Three (map schema_of ps)
  texts_kept [] f = refl
  texts_kept (p ∷ ps) f = ap₂ (λ a b. a ++ b) (texts_same_by (members_in p.schema) (f p first)) (texts_kept ps (λ q i. f q (later i)))

  -- profile 2 offers no anchor
  no_anchor : profile ≡ Two → (ms : Members) → Kept ms → get_member (codes "$anchor") ms ≡ None
  no_anchor two no_members kept = refl
  no_anchor two (member k v ms) kept =
      get_member-later (codes "$anchor") k v ms (λ same. (let is : keyword_of k ≡ Anchor = ap keyword_of (sym same) ∙ anchor_is in let out : LeftOut ≡ Anchor = sym (ap (λ p. offered p Anchor) two) ∙ sym (ap (offered profile) is) ∙ kept.0 ∙ is in absurd cc))
      ∙ no_anchor two ms kept.2

  none_anchored : profile ≡ Two → (ps : List Position) → AllKept ps → anchors_of (map schema_of ps) ≡ []
  none_anchored two [] f = refl
  none_anchored two (p ∷ ps) f = ap (λ o. option_to_list (text_in o) ++ anchors_of (map schema_of ps)) (no_anchor two (members_in p.schema) (f p first)) ∙ none_anchored two ps (λ q i. f q (later i))

  module _ (none : HasDefect profile Omitted root → ⊥) (named : HasDefect profile Reference root → ⊥) where
    same_positions : offered_positions profile root ≡ positions root
    same_positions = same_in One [] root (kept_at none named)

    defect_same : (d : Defect) → HasDefect Three d root → HasDefect profile d root
    defect_same d h =
        let at = subst (λ l. In h.0 l) (sym same_positions) h.1 in
        (h.0, at, ap (λ b. lacks_form d h.0.schema || b) (some_same d (is_root h.0.location) (members_in h.0.schema) (kept_at none named h.0 at)) ∙ h.2)

    defect_back : (d : Defect) → HasDefect profile d root → HasDefect Three d root
    defect_back d h =
        (h.0, subst (λ l. In h.0 l) same_positions h.1, sym (ap (λ b. lacks_form d h.0.schema || b) (some_same d (is_root h.0.location) (members_in h.0.schema) (kept_at none named h.0 h.1))) ∙ h.2)

    pub texts_same : offered_texts profile root ≡ pattern_texts root
    texts_same =
        let ps = offered_positions profile root in
        let same : texts_in profile (map schema_of ps) ≡ texts_in Three (map schema_of ps) = texts_kept ps (kept_at none named) in
        ap (texts_in profile) (sym (offered_are profile root)) ∙ same ∙ ap (λ l. texts_in Three (map schema_of l)) same_positions ∙ ap (texts_in Three) (schemas_are root)

anchors_same : (profile : Profile) (root : Doc) → (HasDefect profile Omitted root → ⊥) → (HasDefect profile Reference root → ⊥) → offered_anchors profile root ≡ offered_anchors Three root
anchors_same Three root none named = refl
anchors_same Two root none named =
    let ps = offered_positions Two root in
    sym (ap anchors_of (sym (schemas_are root)) ∙ ap (λ l. anchors_of (map schema_of l)) (sym (same_positions Two root none named)) ∙ none_anchored Two root refl ps (kept_at Two root none named))

fit_same : (profile : Profile) (root : Doc) → (HasDefect profile Omitted root → ⊥) → (HasDefect profile Reference root → ⊥) → texts_fit profile root ≡ texts_fit Three root
fit_same profile root none named = ap₂ (λ ps names. are_patterns ps && are_different names) (texts_same profile root none named) (anchors_same profile root none named)

-- ---- the law

module _ (profile : Profile) (s : Doc) (none : HasDefect profile Omitted s → ⊥) (named : HasDefect profile Reference s → ⊥) where
  large_stays : IsTooLarge Three s → IsTooLarge profile s
  large_stays h = ⊎_elim (λ a. inl a) (λ b. inr (ap are_too_large (texts_same profile s none named) ∙ b)) h

  malformed_stays : IsMalformed Three s → IsMalformed profile s
  malformed_stays h = ⊎_elim (λ a. inl (defect_same profile s none named Form a)) (λ b. inr (fit_same profile s none named ∙ b)) h

  large_back : IsTooLarge profile s → IsTooLarge Three s
  large_back h = ⊎_elim (λ a. inl a) (λ b. inr (sym (ap are_too_large (texts_same profile s none named)) ∙ b)) h

  malformed_back : IsMalformed profile s → IsMalformed Three s
  malformed_back h = ⊎_elim (λ a. inl (defect_back profile s none named Form a)) (λ b. inr (sym (fit_same profile s none named) ∙ b)) h

pub checked_stays : (profile : Profile) (s : Doc) → IsChecked profile s → IsChecked Three s
checked_stays profile s c = record {
  size = λ h. c.size (large_stays profile s c.keywords c.references h);
  form = λ h. c.form (malformed_stays profile s c.keywords c.references h);
  keywords = λ h. c.keywords (defect_same profile s c.keywords c.references Omitted h);
  references = λ h. c.references (defect_same profile s c.keywords c.references Reference h);
}

pub faultless_stays : (profile : Profile) (s : Doc) → IsFaultless profile s → IsFaultless Three s
faultless_stays profile s f = record {
  size = λ h. f.size (large_stays profile s f.keywords f.references h);
  form = λ h. f.form (malformed_stays profile s f.keywords f.references h);
  keywords = λ h. f.keywords (defect_same profile s f.keywords f.references Omitted h);
  references = λ h. f.references (defect_same profile s f.keywords f.references Reference h);
  loops = f.loops;
}

-- and back, if the profile leaves out none of its keywords, and each reference names a schema there
pub faultless_back : (profile : Profile) (s : Doc) → IsFaultless Three s → (HasDefect profile Omitted s → ⊥) → (HasDefect profile Reference s → ⊥) → IsFaultless profile s
faultless_back profile s f none named = record {
  size = λ h. f.size (large_back profile s none named h);
  form = λ h. f.form (malformed_back profile s none named h);
  keywords = none;
  references = named;
  loops = f.loops;
}

-- ---- profile 2 has no patterns

none_of : (k : Keyword) (v : Doc) → texts_of (offered Two k) v ≡ []
none_of Pattern v = refl
none_of PatternProperties v = refl
none_of DependentSchemas v = refl
none_of Anchor v = refl
none_of _ v = refl

none_by : (ms : Members) → texts_by Two ms ≡ []
none_by no_members = refl
none_by (member k v ms) = ap₂ (λ a b. a ++ b) (none_of (keyword_of k) v) (none_by ms)

none_in : (ds : List Doc) → texts_in Two ds ≡ []
none_in [] = refl
none_in (d ∷ ds) = ap₂ (λ a b. a ++ b) (none_by (members_in d)) (none_in ds)

pub no_patterns : (s : Doc) → IsFaultless Two s → pattern_texts s ≡ []
no_patterns s f = sym (texts_same Two s f.keywords f.references) ∙ none_in (alone.offered_in Two One s)
