-- A schema without a fault of profile 1 has none in later profiles and says the same, since no name in it became a keyword.
use Rattle.std.proofs.Common.{◌≡◌, ⊎_elim, map, ℕ, zero, suc, ◌+◌, ◌*◌, ◌≤◌, List, [], ◌∷◌, ◌++◌, length, codes, Bool, true, false, not, ◌&&◌, ◌||◌, Option, Some, None, option_map, refl, sym, ap, ap₂, subst, ◌∙◌}
use Rattle.std.specs.Prelude.{⊤}
use Rattle.doc_tree.specs.Doc.{Doc, null, boolean, int, text, list, object, Elements, no_elements, element, Members, no_members, member, get_member, height, Place, name, index}
use Rattle.schema_graph.specs.Loops.{HasLoop, AreJoined}
use Rattle.schema_graph.specs.Walks.{In, first, later}
use Rattle.schema_graph.proofs.Among.{In-left, In-right}
use Rattle.schema_rules.specs.Keywords.{keyword_of, shape_of}
use Rattle.schema_rules.specs.Parts.{members_in, beside as with_name}
use Rattle.doc_tree.specs.Lists.{names_list}
use Rattle.schema_pattern.specs.Tables.{are_patterns}
use Rattle.schema_rules.specs.Anchors.{anchors_of, are_different, offered_anchors}
use Rattle.schema_rules.specs.Fragments.{text_in}
use Rattle.std.specs.Option.{option_to_list}
use Rattle.doc_tree.proofs.Members.{get_member-later}
use Rattle.schema_nodes.proofs.KeywordNames.{anchor_is}
use Rattle.schema_rules.specs.PatternTexts.{offered_texts, texts_by, texts_in, texts_of}
use Rattle.schema_rules.specs.Profiles.{offered}
use Rattle.schema_rules.specs.References.{is_dangling}
use Rattle.schema_references.proofs.Kept.{none_dangles}
use Rattle.schema_rules.specs.Rules.{Ask, asks, joins}
use Rattle.schema_rules.specs.declared.keyword.Keyword.{Keyword}
use Rattle.schema_rules.specs.declared.keyword.Keyword.TheVariants.{DependentRequired, PropertyNames, Contains, MinContains, MaxContains, If, Then, Else, Pattern, PatternProperties, DependentSchemas, Anchor, LeftOut}
use Rattle.schema_rules.specs.declared.keyword.Shape.{Shape}
use Rattle.schema_rules.specs.declared.keyword.Shape.TheVariants.{One, Several, Named}
use Rattle.schema_rules.specs.declared.profile.Profile.{Profile}
use Rattle.schema_rules.specs.declared.profile.Profile.TheVariants.{Two, Three}
use Rattle.doc_schema.specs.Defects.{is_root, is_wrong, lacks_form, some_member, HasDefect}
use Rattle.doc_schema.specs.Faults.{IsFaultless, are_too_large}
use Rattle.doc_schema.specs.Judge.{both, answers, all_say, judge, enough}
use Rattle.doc_schema.specs.Loops.{led_by_members, leads, HasSchemaLoop}
use Rattle.doc_schema.specs.Positions.{Position, position, positions, offered_in, offered_each, offered_named, offered_below, offered_positions}
use Rattle.doc_schema.specs.Schemas.{schemas, IsLoopedSchema}
use Rattle.doc_schema.specs.Profile1Forms.{is_dangling_1, is_left_out_1}
use Rattle.doc_schema.specs.Profile1Keywords.{keyword_1, shape_1}
use Rattle.doc_schema.specs.Profile1Rules.{joins_1, led_by_1}
use Rattle.doc_schema.specs.Profile1.{is_wrong_1, lacks_form_1, positions_1, positions_in_1, positions_each_1, positions_named_1, positions_below_1, some_member_1, has_defect_1, HasDefect_1, led_by_members_1, leads_1, IsFaultless_1, says_1, all_say_1, judge_1}
use Rattle.doc_schema.specs.declared.defects.Defect.{Defect}
use Rattle.doc_schema.specs.declared.defects.Defect.TheVariants.{Form, LeftOut as Omitted, Reference, ByPointer}
use Rattle.doc_schema.proofs.Closed.{offered_are, own, schema_of, schemas_are, to_position}
use Rattle.doc_schema.proofs.Fuel.{asked_by, part_in}
use Rattle.doc_schema.proofs.Searchless.{unpatterned}
use Rattle.doc_schema.proofs.Lifted.{loop_above}
use Rattle.doc_schema.proofs.ProfileRows.{demoted, named, WasOne, same_shape, same_form, same_left_out, same_dangling, same_asks, same_joins, same_led}

-- ---- names that are the keywords that they were

stays : (k : Keyword) → (demoted k ≡ LeftOut → ⊥) → demoted k ≡ k
stays DependentRequired h = absurd (h refl)
stays PropertyNames h = absurd (h refl)
stays Contains h = absurd (h refl)
stays MinContains h = absurd (h refl)
stays MaxContains h = absurd (h refl)
stays If h = absurd (h refl)
stays Then h = absurd (h refl)
stays Else h = absurd (h refl)
stays Pattern h = absurd (h refl)
stays PatternProperties h = absurd (h refl)
stays DependentSchemas h = absurd (h refl)
stays Anchor h = absurd (h refl)
stays _ h = refl

-- and references that name schemas
abbrev Kept : Doc → Members → Type 0
Kept root no_members = ⊤
Kept root (member k v ms) = (keyword_1 k ≡ keyword_of k) × (is_dangling_1 root (keyword_of k) v ≡ false) × Kept root ms

abbrev AllKept : Doc → List Position → Type 0
AllKept root ps = (p : Position) → In p ps → Kept root (members_in p.schema)

-- a keyword of profile 1 is offered by each
still : (profile : Profile) (k : Keyword) → WasOne k → offered profile k ≡ k
still Two Pattern w = absurd cc
still Two PatternProperties w = absurd cc
still Two DependentSchemas w = absurd cc
still Two Anchor w = absurd cc
still Two _ w = refl
still Three _ w = refl

was : (k : List ℕ) → keyword_1 k ≡ keyword_of k → WasOne (keyword_of k)
was k kept = sym (named k) ∙ kept

neither : (a b : Bool) → (a || b) ≡ false → (a ≡ false) × (b ≡ false)
neither false b e = (refl, e)
neither true b e = absurd cc

kept_members : (root : Doc) (at_root : Bool) (ms : Members) → some_member_1 (is_wrong_1 Omitted root at_root) ms ≡ false → some_member_1 (is_wrong_1 Reference root at_root) ms ≡ false → Kept root ms
kept_members root at_root no_members e f = tt
kept_members root at_root (member k v ms) e f =
    let parts = neither (is_left_out_1 at_root (keyword_1 k) v) (some_member_1 (is_wrong_1 Omitted root at_root) ms) e in
    let parts' = neither (is_dangling_1 root (keyword_1 k) v) (some_member_1 (is_wrong_1 Reference root at_root) ms) f in
    let same = named k ∙ stays (keyword_of k) (λ out. (let is : true ≡ false = sym (ap (λ w. is_left_out_1 at_root w v) (named k ∙ out)) ∙ parts.0 in absurd cc)) in
    (same, sym (ap (λ w. is_dangling_1 root w v) same) ∙ parts'.0, kept_members root at_root ms parts.1 parts'.1)

kept_at : (root : Doc) → (HasDefect_1 Omitted root → ⊥) → (HasDefect_1 Reference root → ⊥) → AllKept root (positions_1 root)
kept_at root none sure p i = by_defect (has_defect_1 Omitted root p) (has_defect_1 Reference root p) refl refl
  where
    by_defect : (b c : Bool) → has_defect_1 Omitted root p ≡ b → has_defect_1 Reference root p ≡ c → Kept root (members_in p.schema)
    by_defect true c e f = absurd (none (p, i, e))
    by_defect false true e f = absurd (sure (p, i, f))
    by_defect false false e f = kept_members root (is_root p.location) (members_in p.schema) (neither (lacks_form_1 Omitted p.schema) _ e).1 (neither (lacks_form_1 Reference p.schema) _ f).1

-- ---- the same positions

module _ (profile : Profile) (root : Doc) where
  mutual
    pub same_in : (h : Shape) (here : List Place) (v : Doc) → AllKept root (positions_in_1 h here v) → positions_in_1 h here v ≡ offered_in profile h here v
    same_in One here (object ms) f = ap (λ l. position here (object ms) ∷ l) (same_below here ms (f (position here (object ms)) first) (λ p i. f p (later i)))
    same_in One here null f = refl
    same_in One here (boolean b) f = refl
    same_in One here (int z) f = refl
    same_in One here (text s) f = refl
    same_in One here (list ds) f = refl
    same_in Several here (list ds) f = same_each here 0 ds f
    same_in Named here (object ms) f = same_named here ms f
    same_in _ here _ f = refl

    same_each : (here : List Place) (n : ℕ) (ds : Elements) → AllKept root (positions_each_1 here n ds) → positions_each_1 here n ds ≡ offered_each profile here n ds
    same_each here n no_elements f = refl
    same_each here n (element d ds) f =
        ap₂ (λ a b. a ++ b) (same_in One (here ++ index n ∷ []) d (λ p i. f p (In-left p _ _ i))) (same_each here (suc n) ds (λ p i. f p (In-right p (positions_in_1 One (here ++ index n ∷ []) d) _ i)))

    same_named : (here : List Place) (ms : Members) → AllKept root (positions_named_1 here ms) → positions_named_1 here ms ≡ offered_named profile here ms
    same_named here no_members f = refl
    same_named here (member k d ms) f =
        ap₂ (λ a b. a ++ b) (same_in One (here ++ name k ∷ []) d (λ p i. f p (In-left p _ _ i))) (same_named here ms (λ p i. f p (In-right p (positions_in_1 One (here ++ name k ∷ []) d) _ i)))

    same_below : (here : List Place) (ms : Members) → Kept root ms → AllKept root (positions_below_1 here ms) → positions_below_1 here ms ≡ offered_below profile here ms
    same_below here no_members kept f = refl
    same_below here (member k v ms) kept f =
        let there = here ++ name k ∷ [] in
        let shape : shape_1 (keyword_1 k) ≡ shape_of (offered profile (keyword_of k)) = ap shape_1 kept.0 ∙ same_shape (keyword_of k) (was k kept.0) ∙ ap shape_of (sym (still profile (keyword_of k) (was k kept.0))) in
        let held : AllKept root (positions_in_1 (shape_of (offered profile (keyword_of k))) there v) = subst (λ h. AllKept root (positions_in_1 h there v)) shape (λ p i. f p (In-left p _ _ i)) in
        ap (λ h. positions_in_1 h there v ++ positions_below_1 here ms) shape
        ∙ ap₂ (λ a b. a ++ b) (same_in (shape_of (offered profile (keyword_of k))) there v held) (same_below here ms kept.2 (λ p i. f p (In-right p (positions_in_1 (shape_1 (keyword_1 k)) there v) _ i)))

-- ---- the same faults

-- what names a schema does so in each profile
none_later : (profile : Profile) (root : Doc) (k : Keyword) (v : Doc) → is_dangling_1 root k v ≡ false → is_dangling profile root k v ≡ false
none_later Two root k v e = sym (same_dangling root k v) ∙ e
none_later Three root k v e = none_dangles Two root k v (sym (same_dangling root k v) ∙ e)

same_wrong : (profile : Profile) (d : Defect) (root : Doc) (at_root : Bool) (k : Keyword) (v : Doc) → WasOne k → is_dangling_1 root k v ≡ false → is_wrong_1 d root at_root k v ≡ is_wrong profile d root at_root k v
same_wrong profile Form root at_root k v w e = ap not (same_form at_root k v w)
same_wrong profile Omitted root at_root k v w e = same_left_out at_root k v
same_wrong profile Reference root at_root k v w e = e ∙ sym (none_later profile root k v e)
same_wrong profile ByPointer root at_root k v w e = e ∙ sym (none_later Two root k v e)

same_lack : (d : Defect) (s : Doc) → lacks_form_1 d s ≡ lacks_form d s
same_lack Form _ = refl
same_lack Omitted _ = refl
same_lack Reference _ = refl
same_lack ByPointer _ = refl

some_same : (profile : Profile) (d : Defect) (root : Doc) (at_root : Bool) (ms : Members) → Kept root ms → some_member_1 (is_wrong_1 d root at_root) ms ≡ some_member profile (is_wrong profile d root at_root) ms
some_same profile d root at_root no_members kept = refl
some_same profile d root at_root (member k v ms) kept =
    ap₂ (λ a b. a || b)
    (ap (λ w. is_wrong_1 d root at_root w v) kept.0 ∙ same_wrong profile d root at_root (keyword_of k) v (was k kept.0) kept.1 ∙ ap (λ w. is_wrong profile d root at_root w v) (sym (still profile (keyword_of k) (was k kept.0))))
    (some_same profile d root at_root ms kept.2)

led_same : (root : Doc) (here : List Place) (ms : Members) → Kept root ms → led_by_members_1 root here ms ≡ led_by_members root here ms
led_same root here no_members kept = refl
led_same root here (member k v ms) kept =
    let there = here ++ name k ∷ [] in
    ap₂ (λ a b. a ++ b) (ap (λ w. led_by_1 root there w v) kept.0 ∙ same_led root there (keyword_of k) v (was k kept.0) kept.1) (led_same root here ms kept.2)

joined_same : (f g : Position → List Position) (walk : List Position) → ((p : Position) → In p walk → f p ≡ g p) → AreJoined f walk → AreJoined g walk
joined_same f g [] h j = tt
joined_same f g (p ∷ []) h j = tt
joined_same f g (p ∷ q ∷ walk) h j = (subst (λ l. In q l) (h p first) j.0, joined_same f g (q ∷ walk) (λ r i. h r (later i)) j.1)

joined_alike : (ms : Members) (k : Keyword) (v t : Doc) → WasOne k → (o : Option (List Bool)) → option_map (joins_1 k v t) o ≡ option_map (joins ms k v t) o
joined_alike ms k v t w None = refl
joined_alike ms k v t w (Some bs) = ap (λ b. Some b) (same_joins ms k v t bs w)

-- ---- no patterns

no_text : (profile : Profile) (k : Keyword) (v : Doc) → WasOne k → texts_of (offered profile k) v ≡ []
no_text profile Pattern v w = absurd cc
no_text profile PatternProperties v w = absurd cc
no_text Two _ v w = refl
no_text Three _ v w = refl

no_text_by : (profile : Profile) (root : Doc) (ms : Members) → Kept root ms → texts_by profile ms ≡ []
no_text_by profile root no_members kept = refl
no_text_by profile root (member k v ms) kept = ap₂ (λ a b. a ++ b) (no_text profile (keyword_of k) v (was k kept.0)) (no_text_by profile root ms kept.2)

none_searched : (profile : Profile) (root : Doc) (ps : List Position) → AllKept root ps → texts_in profile (map schema_of ps) ≡ []
none_searched profile root [] f = refl
none_searched profile root (p ∷ ps) f = ap₂ (λ a b. a ++ b) (no_text_by profile root (members_in p.schema) (f p first)) (none_searched profile root ps (λ q i. f q (later i)))

-- ---- no anchors

no_anchor : (root : Doc) (ms : Members) → Kept root ms → get_member (codes "$anchor") ms ≡ None
no_anchor root no_members kept = refl
no_anchor root (member k v ms) kept =
    get_member-later (codes "$anchor") k v ms (λ same. (let is : keyword_of k ≡ Anchor = ap keyword_of (sym same) ∙ anchor_is in let w : WasOne Anchor = subst WasOne is (was k kept.0) in absurd cc))
    ∙ no_anchor root ms kept.2

none_anchored : (root : Doc) (ps : List Position) → AllKept root ps → anchors_of (map schema_of ps) ≡ []
none_anchored root [] f = refl
none_anchored root (p ∷ ps) f = ap (λ o. option_to_list (text_in o) ++ anchors_of (map schema_of ps)) (no_anchor root (members_in p.schema) (f p first)) ∙ none_anchored root ps (λ q i. f q (later i))

module _ (root : Doc) (none : HasDefect_1 Omitted root → ⊥) (sure : HasDefect_1 Reference root → ⊥) where
  same_offered : (profile : Profile) → positions_1 root ≡ offered_positions profile root
  same_offered profile = same_in profile root One [] root (kept_at root none sure)

  same_positions : positions_1 root ≡ positions root
  same_positions = same_offered Three

  kept_in : AllKept root (positions root)
  kept_in p i = kept_at root none sure p (subst (λ l. In p l) (sym same_positions) i)

  defect_same : (profile : Profile) (d : Defect) → HasDefect profile d root → HasDefect_1 d root
  defect_same profile d h =
      let at = subst (λ l. In h.0 l) (sym (same_offered profile)) h.1 in
      (h.0, at, ap₂ (λ a b. a || b) (same_lack d h.0.schema) (some_same profile d root (is_root h.0.location) (members_in h.0.schema) (kept_at root none sure h.0 at)) ∙ h.2)

  -- there are no patterns
  no_texts : (profile : Profile) → offered_texts profile root ≡ []
  no_texts profile =
      let ps = offered_positions profile root in
      ap (texts_in profile) (sym (offered_are profile root)) ∙ none_searched profile root ps (λ p i. kept_at root none sure p (subst (λ l. In p l) (sym (same_offered profile)) i))

  -- and no anchors
  no_anchors : (profile : Profile) → offered_anchors profile root ≡ []
  no_anchors Two = refl
  no_anchors Three = ap anchors_of (sym (schemas_are root)) ∙ none_anchored root (positions root) kept_in

  loop_same : HasSchemaLoop root → HasLoop (leads_1 root) (positions_1 root)
  loop_same l = (
    l.0,
    record {
      at_least = l.1.at_least;
      at_most = subst (λ ps. length l.0 ≤ length ps + 1) (sym same_positions) l.1.at_most;
      among = λ p i. subst (λ ps. In p ps) (sym same_positions) (l.1.among p i);
      comes_back = l.1.comes_back;
      joined = joined_same (leads root) (leads_1 root) l.0 (λ p i. sym (led_same root p.location (members_in p.schema) (kept_in p (l.1.among p i)))) l.1.joined;
    },
  )

  -- ---- the same judgement

  kept_schema : (s : Doc) → In s (schemas root) → Kept root (members_in s)
  kept_schema s i = let p = to_position root s i in subst (λ d. Kept root (members_in d)) p.2 (kept_in p.0 p.1)

  module _ (n : ℕ) (same : (s t : Doc) → In s (schemas root) → judge_1 root n s t ≡ judge root n s t) where
    answers_same : (xs : List Ask) → ((a : Ask) → In a xs → In a.schema (schemas root)) → answers (judge_1 root n) xs ≡ answers (judge root n) xs
    answers_same [] h = refl
    answers_same (a ∷ xs) h = rw (same a.schema a.instance (h a first), answers_same xs (λ b i. h b (later i))) refl

    all_same : (beside ms : Members) (t : Doc) → names_list (members_in (with_name (codes "patternProperties") beside)) ≡ [] → Kept root ms → ((a : Ask) → In a (asked_by root beside ms t) → In a.schema (schemas root)) → all_say_1 (judge_1 root n) root beside ms t ≡ all_say (judge root n) root beside ms t
    all_same beside no_members t bare kept h = refl
    all_same beside (member k v ms) t bare kept h =
        ap₂ both
        (ap (λ w. says_1 (judge_1 root n) root beside w v t) kept.0
        ∙ ap (λ xs. option_map (joins_1 (keyword_of k) v t) (answers (judge_1 root n) xs)) (same_asks root beside (keyword_of k) v t bare (was k kept.0) kept.1)
        ∙ ap (option_map (joins_1 (keyword_of k) v t)) (answers_same (asks root beside (keyword_of k) v t) (λ a i. h a (In-left a _ _ i)))
        ∙ joined_alike beside (keyword_of k) v t (was k kept.0) (answers (judge root n) (asks root beside (keyword_of k) v t)))
        (all_same beside ms t bare kept.2 (λ a i. h a (In-right a (asks root beside (keyword_of k) v t) _ i)))

  judge_same : (IsLoopedSchema root → ⊥) → (n : ℕ) (s t : Doc) → In s (schemas root) → judge_1 root n s t ≡ judge root n s t
  judge_same no_loop zero s t i = refl
  judge_same no_loop (suc n) (object ms) t i = all_same n (judge_same no_loop n) ms ms t (unpatterned ms (no_text_by Three root ms (kept_schema (object ms) i))) (kept_schema (object ms) i) (λ a j. part_in root no_loop (object ms) t a i j)
  judge_same no_loop (suc n) (boolean b) t i = refl
  judge_same no_loop (suc n) null t i = refl
  judge_same no_loop (suc n) (int z) t i = refl
  judge_same no_loop (suc n) (text s) t i = refl
  judge_same no_loop (suc n) (list ds) t i = refl

-- ---- the law

pub faultless_stays : (profile : Profile) (s : Doc) → IsFaultless_1 s → IsFaultless profile s
faultless_stays profile s f = record {
  size = λ h. ⊎_elim (λ a. f.size a) (λ b. (let none : false ≡ true = sym (ap are_too_large (no_texts s f.keywords f.references profile)) ∙ b in absurd cc)) h;
  form = λ h. ⊎_elim (λ a. f.form (defect_same s f.keywords f.references profile Form a)) (λ b. (let all : true ≡ false = sym (ap₂ (λ ps names. are_patterns ps && are_different names) (no_texts s f.keywords f.references profile) (no_anchors s f.keywords f.references profile)) ∙ b in absurd cc)) h;
  keywords = λ h. f.keywords (defect_same s f.keywords f.references profile Omitted h);
  references = λ h. f.references (defect_same s f.keywords f.references profile Reference h);
  loops = λ l. f.loops (loop_same s f.keywords f.references l);
}

pub judged_alike : (s : Doc) → IsFaultless_1 s → (t : Doc) → judge_1 s ((height t + 1) * (length (positions_1 s) + 1)) s t ≡ judge s (enough s t) s t
judged_alike s f t =
    ap (λ ps. judge_1 s ((height t + 1) * (length ps + 1)) s t) (same_positions s f.keywords f.references)
    ∙ judge_same s f.keywords f.references (λ l. f.loops (loop_same s f.keywords f.references (loop_above s l))) (enough s t) s t (own s)
