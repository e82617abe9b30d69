-- Schemas by their anchors.
use Rattle.std.proofs.Common.{◌≡◌, ℕ, zero, suc, ◌+◌, ◌<◌, ◌≤◌, ◌⊎◌, inl, inr, ⊎_elim, List, [], ◌∷◌, ◌++◌, Bool, true, false, not, ◌&&◌, ◌||◌, cond, if◌then◌else◌, Option, Some, None, option_map, String, Global, Bor, Vec, slice_get, length, bytes_eq, refl, sym, ap, subst, ◌∙◌, arith}
use Rattle.std.specs.List.{list_any}
use Rattle.std.specs.Option.{option_to_list}
use Rattle.std.proofs.lemmas.Slice.Eq.{bytes_eq-Decides}
use Rattle.doc_tree.specs.Doc.{Doc, null, boolean, int, text, list, object, Elements, no_elements, element, Members, no_members, member}
use Rattle.doc_tree.specs.Lists.{elements_list, values_list}
use Rattle.doc_tree.specs.TreeView.{view}
use Rattle.schema_graph.specs.Walks.{In, first, later}
use Rattle.schema_graph.proofs.Among.{In-parts, none_in}
use Rattle.schema_levels.specs.Below.{number_named}
use Rattle.schema_rules.specs.Anchors.{anchor_of, anchors_of, are_different, is_this, with_anchor}
use Rattle.schema_rules.specs.Keywords.{keyword_of, shape_of}
use Rattle.schema_rules.specs.Parts.{members_in}
use Rattle.schema_rules.specs.Schemas.{schemas, schemas_in, schemas_each, schemas_named, schemas_below, held_in}
use Rattle.schema_rules.specs.declared.keyword.Shape.{Shape}
use Rattle.schema_rules.specs.declared.keyword.Shape.TheVariants.{Plain, One, Several, Named}
use Rattle.schema_nodes.specs.Anchored.{AddsAnchor, AreAnchors, HasAnchor}
use Rattle.schema_nodes.specs.Entries.{doc_at, StandFor, AreRows, AreEntries}
use Rattle.schema_nodes.specs.Reaching.{Reached}
use Rattle.schema_nodes.specs.declared.entries.Entry.{Entry}
use Rattle.schema_nodes.proofs.RuleKinds.{doc_is, entry_at, placed_at, rows_at, within_entries}

same_some : (a b : Doc) → Some a ≡ Some b → a ≡ b
same_some a b e = cc

-- ---- the loop over the entries

pub record Anchoring (es : List Entry) (names : List (String Global × ℕ)) (i : ℕ) : Type 0 where
  pub has : (s : List ℕ) (n : ℕ) → number_named s names ≡ Some n → HasAnchor es s n
  pub all : (s : List ℕ) (n : ℕ) → n < i → HasAnchor es s n → number_named s names ≡ None → ⊥

pub anchoring : (es : List Entry) (names : List (String Global × ℕ)) → names ≡ [] → Anchoring es names 0
anchoring es names e = record {
  has = λ s n f. (let no : None ≡ Some n = sym (ap (number_named s) e) ∙ f in absurd cc);
  all = λ s n less. absurd (omega (arith, less));
}

-- before this entry, or this entry
before_or : (i n : ℕ) → n < i + 1 → (n < i) ⊎ (n ≡ i)
before_or zero zero less = inr refl
before_or zero (suc n) less = absurd (omega (arith, less))
before_or (suc i) zero less = inl (omega arith)
before_or (suc i) (suc n) less = ⊎_elim (λ a. inl (omega (arith, a))) (λ e. inr (ap suc e)) (before_or i n (omega (arith, less)))

-- the anchor of an entry is that of its schema
its_anchor : (es : List Entry) (i : ℕ) (e : Entry) (s : List ℕ) → slice_get es i ≡ Some e → HasAnchor es s i → anchor_of (view e.schema.now) ≡ Some s
its_anchor es i e s found h =
    let same = same_some h.0 (view e.schema.now) (sym h.1 ∙ doc_is es i e found) in
    ap anchor_of (sym same) ∙ h.2

with_none : (es : List Entry) (names : List (String Global × ℕ)) (i : ℕ) (e : Entry) → Anchoring es names i → slice_get es i ≡ Some e → anchor_of (view e.schema.now) ≡ None → Anchoring es names (i + 1)
with_none es names i e a found none = record {
  has = a.has;
  all = λ s n less h f. ⊎_elim
      (λ lt. a.all s n lt h f)
      (λ same. (let no : None ≡ Some s = sym none ∙ its_anchor es i e s found (subst (HasAnchor es s) same h) in absurd cc))
      (before_or i n less);
}

with_one : (es : List Entry) (names names' : List (String Global × ℕ)) (i : ℕ) (e : Entry) (anchor : List ℕ) → Anchoring es names i → slice_get es i ≡ Some e → anchor_of (view e.schema.now) ≡ Some anchor
    → ((s : List ℕ) → number_named s names' ≡ cond (bytes_eq anchor s) (Some i) (number_named s names)) → Anchoring es names' (i + 1)
with_one es names names' i e anchor a found one is = record {
  has = λ s n f. by_name s n (bytes_eq anchor s) refl (sym (is s) ∙ f);
  all = λ s n less h f. by_none s n (bytes_eq anchor s) refl (sym (is s) ∙ f) (before_or i n less) h;
}
  where
    by_name : (s : List ℕ) (n : ℕ) (b : Bool) → bytes_eq anchor s ≡ b → cond b (Some i) (number_named s names) ≡ Some n → HasAnchor es s n
    by_name s n true t f =
        let same : i ≡ n = cc in
        let it : anchor ≡ s = (bytes_eq-Decides anchor s).0 t in
        subst (λ m. HasAnchor es s m) same (view e.schema.now, doc_is es i e found, one ∙ ap Some it)
    by_name s n false t f = a.has s n f

    by_none : (s : List ℕ) (n : ℕ) (b : Bool) → bytes_eq anchor s ≡ b → cond b (Some i) (number_named s names) ≡ None → (n < i) ⊎ (n ≡ i) → HasAnchor es s n → ⊥
    by_none s n true t f l h = absurd cc
    by_none s n false t f (inl lt) h = a.all s n lt h f
    by_none s n false t f (inr same) h =
        let both : Some anchor ≡ Some s = sym one ∙ its_anchor es i e s found (subst (HasAnchor es s) same h) in
        let it : anchor ≡ s = cc in
        let yes : bytes_eq anchor s ≡ true = (bytes_eq-Decides anchor s).1 it in
        absurd cc

pub anchoring_on : (es : List Entry) (names names' : List (String Global × ℕ)) (i : ℕ) (e : Entry) → Anchoring es names i → slice_get es i ≡ Some e → AddsAnchor (anchor_of (view e.schema.now)) i names names' → Anchoring es names' (i + 1)
anchoring_on es names names' i e a found adds = by_anchor (anchor_of (view e.schema.now)) refl adds
  where
    by_anchor : (o : Option (List ℕ)) → anchor_of (view e.schema.now) ≡ o → AddsAnchor o i names names' → Anchoring es names' (i + 1)
    by_anchor None none same = subst (λ l. Anchoring es l (i + 1)) (sym same) (with_none es names i e a found none)
    by_anchor (Some s) one is = with_one es names names' i e s a found one is

-- the anchor that was read is that of the schema
pub is_some_anchor : (r : Option (Bor (List ℕ))) (o : Option (List ℕ)) (x : Bor (List ℕ)) → option_map (λ s. s.now) r ≡ o → r ≡ Some x → Some x.now ≡ o
is_some_anchor r o x e f = sym (ap (option_map (λ s. s.now)) f) ∙ e

pub is_no_anchor : (r : Option (Bor (List ℕ))) (o : Option (List ℕ)) → option_map (λ s. s.now) r ≡ o → r ≡ None → None ≡ o
is_no_anchor r o e f = sym (ap (option_map (λ s. s.now)) f) ∙ e

pub anchored_all : (es : List Entry) (names : List (String Global × ℕ)) (i : ℕ) → Anchoring es names i → ((n : ℕ) (d : Doc) → doc_at es n ≡ Some d → n < i) → AreAnchors es names
anchored_all es names i a past = record { has = a.has; all = λ s n h f. a.all s n (past n h.0 h.1) h f }

pub whole_list : (es : List Entry) (names : List (String Global × ℕ)) (i : ℕ) → Anchoring es names i → length es ≤ i → AreAnchors es names
whole_list es names i a all = anchored_all es names i a (λ n d h. omega (arith, within_entries es n d h, all))

-- ---- every schema has a number

module _ (root : Doc) (es : List Entry) (are : AreEntries root es) where
  abbrev IsThere : Doc → Type 0
  IsThere d = (n : ℕ) × (doc_at es n ≡ Some d)

  mutual
    there_in : (shape : Shape) (v : Doc) (row : List ℕ) → StandFor (doc_at es) row (held_in shape v) → (d : Doc) → In d (schemas_in shape v) → IsThere d
    there_in Plain v row h d i = none_in d i
    there_in One (object ms) [] h d i = absurd h
    there_in One (object ms) (n ∷ row) h _ first = (n, h.0)
    there_in One (object ms) (n ∷ row) h d (later i) =
        let x = entry_at es n (object ms) h.0 in
        there_below ms x.0.rows.items (subst (λ c. AreRows (doc_at es) (members_in c) x.0.rows.items) x.2 (rows_at root (doc_at es) es n x.0 are x.1)) d i
    there_in One null [] h d i = absurd h
    there_in One null (n ∷ row) h _ first = (n, h.0)
    there_in One null (n ∷ row) h d (later i) = none_in d i
    there_in One (boolean b) [] h d i = absurd h
    there_in One (boolean b) (n ∷ row) h _ first = (n, h.0)
    there_in One (boolean b) (n ∷ row) h d (later i) = none_in d i
    there_in One (int z) [] h d i = absurd h
    there_in One (int z) (n ∷ row) h _ first = (n, h.0)
    there_in One (int z) (n ∷ row) h d (later i) = none_in d i
    there_in One (text s) [] h d i = absurd h
    there_in One (text s) (n ∷ row) h _ first = (n, h.0)
    there_in One (text s) (n ∷ row) h d (later i) = none_in d i
    there_in One (list ds) [] h d i = absurd h
    there_in One (list ds) (n ∷ row) h _ first = (n, h.0)
    there_in One (list ds) (n ∷ row) h d (later i) = none_in d i
    there_in Several null row h d i = none_in d i
    there_in Several (boolean b) row h d i = none_in d i
    there_in Several (int z) row h d i = none_in d i
    there_in Several (text s) row h d i = none_in d i
    there_in Several (list ds) row h d i = there_each ds row h d i
    there_in Several (object ms) row h d i = none_in d i
    there_in Named null row h d i = none_in d i
    there_in Named (boolean b) row h d i = none_in d i
    there_in Named (int z) row h d i = none_in d i
    there_in Named (text s) row h d i = none_in d i
    there_in Named (list ds) row h d i = none_in d i
    there_in Named (object ms) row h d i = there_named ms row h d i

    there_below : (ms : Members) (rows : List (Vec ℕ Global)) → AreRows (doc_at es) ms rows → (d : Doc) → In d (schemas_below ms) → IsThere d
    there_below no_members rows h d i = none_in d i
    there_below (member k v ms) [] h d i = absurd h
    there_below (member k v ms) (row ∷ rows) h d i = ⊎_elim (λ j. there_in (shape_of (keyword_of k)) v row.items h.0 d j) (λ j. there_below ms rows h.1 d j) (In-parts d (schemas_in (shape_of (keyword_of k)) v) (schemas_below ms) i)

    there_each : (ds : Elements) (row : List ℕ) → StandFor (doc_at es) row (elements_list ds) → (d : Doc) → In d (schemas_each ds) → IsThere d
    there_each no_elements row h d i = none_in d i
    there_each (element c ds) [] h d i = absurd h
    there_each (element c ds) (n ∷ row) h d i = ⊎_elim (λ j. there_in One c (n ∷ []) (h.0, tt) d j) (λ j. there_each ds row h.1 d j) (In-parts d (schemas_in One c) (schemas_each ds) i)

    there_named : (ms : Members) (row : List ℕ) → StandFor (doc_at es) row (values_list ms) → (d : Doc) → In d (schemas_named ms) → IsThere d
    there_named no_members row h d i = none_in d i
    there_named (member k c ms) [] h d i = absurd h
    there_named (member k c ms) (n ∷ row) h d i = ⊎_elim (λ j. there_in One c (n ∷ []) (h.0, tt) d j) (λ j. there_named ms row h.1 d j) (In-parts d (schemas_in One c) (schemas_named ms) i)

-- ---- the schema that has an anchor

or_true : (b : Bool) → (b || true) ≡ true
or_true true = refl
or_true false = refl

itself : (s : List ℕ) → bytes_eq s s ≡ true
itself s = (bytes_eq-Decides s s).1 refl

-- the anchor of one of these is one of theirs
listed : (s : List ℕ) (ds : List Doc) (d : Doc) → In d ds → anchor_of d ≡ Some s → list_any (bytes_eq s) (anchors_of ds) ≡ true
listed s [] d i h = none_in d i
listed s (c ∷ ds) _ first h = ap (λ o. list_any (bytes_eq s) (option_to_list o ++ anchors_of ds)) h ∙ ap (λ b. b || list_any (bytes_eq s) (anchors_of ds)) (itself s)
listed s (c ∷ ds) d (later i) h = by_anchor (anchor_of c) (listed s ds d i h)
  where
    by_anchor : (o : Option (List ℕ)) → list_any (bytes_eq s) (anchors_of ds) ≡ true → list_any (bytes_eq s) (option_to_list o ++ anchors_of ds) ≡ true
    by_anchor None e = e
    by_anchor (Some a) e = ap (λ b. bytes_eq s a || b) e ∙ or_true (bytes_eq s a)

both_true : (a b : Bool) → (not a && b) ≡ true → (a ≡ false) × (b ≡ true)
both_true false true e = (refl, refl)
both_true false false e = absurd cc
both_true true b e = absurd cc

-- the first of these is found by its anchor
first_found : (s : List ℕ) (c : Doc) (ds : List Doc) → anchor_of c ≡ Some s → with_anchor s (c ∷ ds) ≡ Some c
first_found s c ds h = ap (λ o. if is_this s o then Some c else with_anchor s ds) h ∙ ap (λ b. if b then Some c else with_anchor s ds) (itself s)

-- among schemas of which no two have the same anchor, the one that has it is found
only_one : (s : List ℕ) (ds : List Doc) (d : Doc) → are_different (anchors_of ds) ≡ true → In d ds → anchor_of d ≡ Some s → with_anchor s ds ≡ Some d
only_one s [] d different i h = none_in d i
only_one s (c ∷ ds) _ different first h = first_found s c ds h
only_one s (c ∷ ds) d different (later i) h = by_anchor (anchor_of c) different (listed s ds d i h) (λ diff. only_one s ds d diff i h)
  where
    by_test : (a : List ℕ) (b : Bool) → bytes_eq s a ≡ b → are_different (a ∷ anchors_of ds) ≡ true → list_any (bytes_eq s) (anchors_of ds) ≡ true → (are_different (anchors_of ds) ≡ true → with_anchor s ds ≡ Some d) → (if b then Some c else with_anchor s ds) ≡ Some d
    by_test a true t diff among rest =
        let same : s ≡ a = (bytes_eq-Decides s a).0 t in
        let no = (both_true (list_any (bytes_eq a) (anchors_of ds)) (are_different (anchors_of ds)) diff).0 in
        let yes = subst (λ x. list_any (bytes_eq x) (anchors_of ds) ≡ true) same among in
        absurd cc
    by_test a false t diff among rest = rest (both_true (list_any (bytes_eq a) (anchors_of ds)) (are_different (anchors_of ds)) diff).1

    by_anchor : (o : Option (List ℕ)) → are_different (option_to_list o ++ anchors_of ds) ≡ true → list_any (bytes_eq s) (anchors_of ds) ≡ true → (are_different (anchors_of ds) ≡ true → with_anchor s ds ≡ Some d) → (if is_this s o then Some c else with_anchor s ds) ≡ Some d
    by_anchor None diff among rest = rest diff
    by_anchor (Some a) diff among rest = by_test a (bytes_eq s a) refl diff among rest

none_found : (s : List ℕ) (ds : List Doc) → ((d : Doc) → In d ds → anchor_of d ≡ Some s → ⊥) → with_anchor s ds ≡ None
none_found s [] h = refl
none_found s (c ∷ ds) h = by_anchor (anchor_of c) refl (none_found s ds (λ d i. h d (later i)))
  where
    by_test : (a : List ℕ) (b : Bool) → anchor_of c ≡ Some a → bytes_eq s a ≡ b → with_anchor s ds ≡ None → (if b then Some c else with_anchor s ds) ≡ None
    by_test a true e t rest = absurd (h c first (e ∙ ap Some (sym ((bytes_eq-Decides s a).0 t))))
    by_test a false e t rest = rest

    by_anchor : (o : Option (List ℕ)) → anchor_of c ≡ o → with_anchor s ds ≡ None → (if is_this s o then Some c else with_anchor s ds) ≡ None
    by_anchor None e rest = rest
    by_anchor (Some a) e rest = by_test a (bytes_eq s a) e refl rest

pub found_by : (root : Doc) (es : List Entry) → AreEntries root es → (whole : ℕ) → doc_at es whole ≡ Some root → are_different (anchors_of (schemas root)) ≡ true
    → (names : List (String Global × ℕ)) → AreAnchors es names → (s : List ℕ) → Reached (doc_at es) (number_named s names) (with_anchor s (schemas root))
found_by root es are whole here different names a s = by_number (number_named s names) refl
  where
    by_number : (o : Option ℕ) → number_named s names ≡ o → Reached (doc_at es) o (with_anchor s (schemas root))
    by_number None e = subst (Reached (doc_at es) None) (sym (none_found s (schemas root) (λ d i h. (let n = there_in root es are One root (whole ∷ []) (here, tt) d i in a.all s n.0 (d, n.1, h) e)))) tt
    by_number (Some n) e =
        let h = a.has s n e in
        let x = entry_at es n h.0 h.1 in
        let among : In h.0 (schemas root) = subst (λ d. In d (schemas root)) x.2 (placed_at root (doc_at es) es n x.0 are x.1) in
        subst (Reached (doc_at es) (Some n)) (sym (only_one s (schemas root) h.0 different among h.2)) h.1
