-- Defects of positions, told of their schemas alone.
use Rattle.std.proofs.Common.{◌≡◌, ℕ, suc, Bool, true, false, ◌||◌, List, [], ◌∷◌, ◌++◌, refl, sym, ap, ap₂, ◌∙◌}
use Rattle.std.specs.List.{list_any}
use Rattle.std.proofs.lemmas.List.Folds.{list_any-append}
use Rattle.doc_tree.specs.Doc.{Doc, null, boolean, int, text, list, object, Elements, no_elements, element, Members, no_members, member, Place, name, index}
use Rattle.schema_graph.specs.Walks.{In, first, later}
use Rattle.schema_graph.proofs.Among.{none_in}
use Rattle.schema_rules.specs.Keywords.{keyword_of, shape_of}
use Rattle.schema_rules.specs.declared.keyword.Shape.{Shape}
use Rattle.schema_rules.specs.declared.keyword.Shape.TheVariants.{One, Several, Named}
use Rattle.doc_schema.specs.Positions.{Position, position, offered_in, offered_each, offered_named, offered_below, offered_positions}
use Rattle.doc_schema.specs.Defects.{has_defect, is_defective, is_root, HasDefect}
use Rattle.schema_rules.specs.Profiles.{offered}
use Rattle.schema_rules.specs.Subschemas as alone
use Rattle.schema_rules.specs.declared.profile.Profile.{Profile}
use Rattle.doc_schema.specs.declared.defects.Defect.{Defect}

pub any_append : (p : Doc → Bool) (xs ys : List Doc) → list_any p (xs ++ ys) ≡ (list_any p xs || list_any p ys)
any_append p xs ys = list_any-append p xs ys

-- ---- a test that passes some element

by_first : {A : Type 0} (p : A → Bool) (x : A) (xs : List A) (b : Bool) → p x ≡ b → (b || list_any p xs) ≡ true → (list_any p xs ≡ true → (y : A) × In y xs × (p y ≡ true)) → (y : A) × In y (x ∷ xs) × (p y ≡ true)
by_first p x xs true h e more = (x, first, h)
by_first p x xs false h e more = let r = more e in (r.0, later r.1, r.2)

pub some_passes : {A : Type 0} (p : A → Bool) (xs : List A) → list_any p xs ≡ true → (x : A) × In x xs × (p x ≡ true)
some_passes p [] e = absurd cc
some_passes p (x ∷ xs) e = by_first p x xs (p x) refl e (λ h. some_passes p xs h)

pub none_passes : {A : Type 0} (p : A → Bool) (xs : List A) → list_any p xs ≡ false → (x : A) → In x xs → p x ≡ true → ⊥
none_passes p [] e x i h = none_in x i
none_passes p (y ∷ xs) e _ first h = by_first (p y) h e
  where
    by_first : (b : Bool) → b ≡ true → (b || list_any p xs) ≡ false → ⊥
    by_first true h e = absurd cc
    by_first false h e = absurd cc
none_passes p (y ∷ xs) e x (later i) h = none_passes p xs (by_rest (p y) (list_any p xs) e) x i h
  where
    by_rest : (a b : Bool) → (a || b) ≡ false → b ≡ false
    by_rest true b e = absurd cc
    by_rest false b e = e

-- ---- below the root

below_root : (here : List Place) (p : Place) → is_root (here ++ p ∷ []) ≡ false
below_root [] p = refl
below_root (q ∷ here) p = refl

module _ (profile : Profile) (defect : Defect) (root : Doc) where
  pub at : Position → Bool
  at = has_defect profile defect root

  pub by : Doc → Bool
  by = is_defective profile defect root false

  itself : (here : List Place) (d : Doc) → is_root here ≡ false → at (position here d) ≡ by d
  unfolding at by
  itself here d e = ap (λ b. is_defective profile defect root b d) e

  two : (xs ys : List Position) (ds es : List Doc) → list_any at xs ≡ list_any by ds → list_any at ys ≡ list_any by es → list_any at (xs ++ ys) ≡ list_any by (ds ++ es)
  two xs ys ds es e f = list_any-append at xs ys ∙ ap₂ (λ a b. a || b) e f ∙ sym (list_any-append by ds es)

  mutual
    below_in : (h : Shape) (here : List Place) (v : Doc) → is_root here ≡ false → list_any at (offered_in profile h here v) ≡ list_any by (alone.offered_in profile h v)
    below_in One here (object ms) e = ap₂ (λ a b. a || b) (itself here (object ms) e) (below_members here ms)
    below_in One here null e = ap (λ a. a || false) (itself here null e)
    below_in One here (boolean b) e = ap (λ a. a || false) (itself here (boolean b) e)
    below_in One here (int z) e = ap (λ a. a || false) (itself here (int z) e)
    below_in One here (text s) e = ap (λ a. a || false) (itself here (text s) e)
    below_in One here (list ds) e = ap (λ a. a || false) (itself here (list ds) e)
    below_in Several here (list ds) e = below_each here 0 ds
    below_in Named here (object ms) e = below_named here ms
    below_in _ here _ e = refl

    below_each : (here : List Place) (n : ℕ) (ds : Elements) → list_any at (offered_each profile here n ds) ≡ list_any by (alone.offered_each profile ds)
    below_each here n no_elements = refl
    below_each here n (element d ds) = two _ _ _ _ (below_in One (here ++ index n ∷ []) d (below_root here (index n))) (below_each here (suc n) ds)

    below_named : (here : List Place) (ms : Members) → list_any at (offered_named profile here ms) ≡ list_any by (alone.offered_named profile ms)
    below_named here no_members = refl
    below_named here (member k d ms) = two _ _ _ _ (below_in One (here ++ name k ∷ []) d (below_root here (name k))) (below_named here ms)

    pub below_members : (here : List Place) (ms : Members) → list_any at (offered_below profile here ms) ≡ list_any by (alone.offered_below profile ms)
    below_members here no_members = refl
    below_members here (member k d ms) = two _ _ _ _ (below_in (shape_of (offered profile (keyword_of k))) (here ++ name k ∷ []) d (below_root here (name k))) (below_members here ms)

-- of a whole schema: by its own members, or below it
pub of_object : (profile : Profile) (defect : Defect) (root : Doc) (ms : Members) → list_any (has_defect profile defect root) (offered_positions profile (object ms)) ≡ (is_defective profile defect root true (object ms) || list_any (is_defective profile defect root false) (alone.offered_below profile ms))
unfolding at by
of_object profile defect root ms = ap (λ b. is_defective profile defect root true (object ms) || b) (below_members profile defect root [] ms)

pub told : (profile : Profile) (defect : Defect) (root : Doc) → true ≡ list_any (has_defect profile defect root) (offered_positions profile root) → HasDefect profile defect root
told profile defect root e = some_passes (has_defect profile defect root) (offered_positions profile root) (sym e)

pub untold : (profile : Profile) (defect : Defect) (root : Doc) → false ≡ list_any (has_defect profile defect root) (offered_positions profile root) → HasDefect profile defect root → ⊥
untold profile defect root e h = none_passes (has_defect profile defect root) (offered_positions profile root) (sym e) h.0 h.1 h.2
