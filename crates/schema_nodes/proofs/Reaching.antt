-- The number that is found is that of the schema at the end of the tokens.
use Rattle.std.proofs.Common.{◌≡◌, ◌≢◌, ◌⊎◌, inl, inr, ℕ, zero, suc, ◌+◌, ◌<◌, ◌≤◌, ◌^◌, List, [], ◌∷◌, map, length, Bool, true, false, if◌then◌else◌, Option, Some, None, option_map, option_and_then, option_to_list, slice_get, decimal, bytes_eq, Vec, Global, String, refl, sym, ap, subst, ◌∙◌, arith, add-zero}
use Rattle.std.specs.Prelude.{⊤}
use Rattle.std.proofs.lemmas.Fmt.{decimal_injective}
use Rattle.std.proofs.lemmas.Bool.{false_from_ne_true}
use Rattle.std.proofs.lemmas.Slice.Eq.{bytes_eq-Decides}
use Rattle.doc_pointer.specs.Place.{element_named}
use Rattle.doc_tree.specs.Doc.{Doc, null, boolean, int, text, list, object, Elements, no_elements, element, Members, no_members, member, get_member}
use Rattle.doc_tree.specs.Lists.{elements_list, values_list}
use Rattle.doc_tree.specs.TreeView.{view}
use Rattle.doc_tree.proofs.Members.{get_member-first, get_member-later}
use Rattle.schema_rules.specs.Keywords.{keyword_of, shape_of}
use Rattle.schema_rules.specs.Parts.{elements_in, members_in}
use Rattle.schema_rules.specs.Pointers.{held_at, shape_at, walk}
use Rattle.schema_rules.specs.Schemas.{held_in}
use Rattle.schema_rules.specs.declared.keyword.Shape.{Shape}
use Rattle.schema_rules.specs.declared.keyword.Shape.TheVariants.{Plain, One, Several, Named}
use Rattle.schema_references.proofs.Walked.{walk_step}
use Rattle.schema_nodes.specs.Entries.{doc_at, StandFor, AreRows, AreEntries}
use Rattle.schema_nodes.proofs.RuleKinds.{rows_at, entry_at}
use Rattle.schema_levels.specs.Below.{number_named}
use Rattle.schema_nodes.specs.Holding.{AreHeld, Holds}
use Rattle.schema_nodes.specs.Nodes.{AreNamed, or_else}
use Rattle.schema_nodes.specs.Reaching.{Reached, held_from, held_named, names_at, names_of, number_at, number_to, row_at, row_of}
use Rattle.schema_nodes.proofs.Holding.{FoundAt, Here, held_at_entry, member_held}
use Rattle.schema_nodes.specs.declared.held.Held.{Held}
use Rattle.schema_nodes.specs.declared.entries.Entry.{Entry}

same_text : (a b : List ℕ) → a ≡ b → bytes_eq a b ≡ true
same_text a b e = (bytes_eq-Decides a b).1 e

other_text : (a b : List ℕ) → a ≢ b → bytes_eq a b ≡ false
other_text a b n = false_from_ne_true _ (λ e. n ((bytes_eq-Decides a b).0 e))

-- ---- by an index

pub number_at_at : (n i : ℕ) (k : List ℕ) (row : List ℕ) → n + i < 2 ^ 64 → decimal (n + i) ≡ k → number_at n k row ≡ slice_get row i
number_at_at n i k [] small e = refl
number_at_at n zero k (j ∷ row) small e = rw (same_text (decimal n) k (ap decimal (sym (add-zero n)) ∙ e)) refl
number_at_at n (suc i) k (j ∷ row) small e =
    let other : decimal n ≢ k = λ f. absurd (let same : n ≡ n + suc i = decimal_injective n (n + suc i) (omega arith) small (f ∙ sym e) in omega (arith, same)) in
    rw (other_text (decimal n) k other) (number_at_at (suc n) i k row (omega arith) (ap decimal (omega arith) ∙ e))

pub number_at_none : (n : ℕ) (k : List ℕ) (row : List ℕ) → n + length row ≤ 2 ^ 64 → ((i : ℕ) → i < 2 ^ 64 → decimal i ≢ k) → number_at n k row ≡ None
number_at_none n k [] small none = refl
number_at_none n k (j ∷ row) small none = rw (other_text (decimal n) k (none n (omega arith))) (number_at_none (suc n) k row (omega arith) none)

element_row : (at : ℕ → Option Doc) (i : ℕ) (k : List ℕ) (ds : Elements) (row : List ℕ) (v : Doc) → StandFor at row (elements_list ds) → element_named i k ds ≡ Some v → StandFor at (option_to_list (number_at i k row)) (v ∷ [])
element_row at i k no_elements row v h e = absurd cc
element_row at i k (element d ds) [] v h e = absurd h
element_row at i k (element d ds) (j ∷ row) v h e = by_test (bytes_eq (decimal i) k) e (λ f. element_row at (suc i) k ds row v h.1 f)
  where
    by_test : (b : Bool) → (if b then Some d else element_named (suc i) k ds) ≡ Some v → (element_named (suc i) k ds ≡ Some v → StandFor at (option_to_list (number_at (suc i) k row)) (v ∷ [])) → StandFor at (option_to_list (if b then Some j else number_at (suc i) k row)) (v ∷ [])
    by_test true f rest = (h.0 ∙ f, tt)
    by_test false f rest = rest f

-- ---- by a name

named_row : (at : ℕ → Option Doc) (k : List ℕ) (ms : Members) (names : List (String Global × ℕ)) (v : Doc) → ((x : Doc) → AreNamed (λ n. or_else x (at n)) names ms) → get_member k ms ≡ Some v → StandFor at (option_to_list (number_named k names)) (v ∷ [])
named_row at k ms names v h g = by_number (number_named k names) (λ x. h x k ∙ g)
  where
    by_number : (o : Option ℕ) → ((x : Doc) → option_map (λ n. or_else x (at n)) o ≡ Some v) → StandFor at (option_to_list o) (v ∷ [])
    by_number None f = absurd (let e = f null in cc)
    by_number (Some n) f = (by_doc (at n) (λ x. f x), tt)
      where
        by_doc : (o : Option Doc) → ((x : Doc) → Some (or_else x o) ≡ Some v) → o ≡ Some v
        by_doc None f = absurd (let a = f null in let b = f (boolean true) in cc)
        by_doc (Some d) f = f null

-- ---- along the tokens

step : (all : List (Vec Held Global)) (h : Shape) (k : List ℕ) (ks : List (List ℕ)) (d : Doc) (row : List ℕ) (names : List (String Global × ℕ)) → number_to all h (k ∷ ks) d row names ≡ option_and_then (λ v. number_to all (shape_at h k) ks v (row_at all h k row names) (names_at all h k row names)) (held_at h k d)
step all One k ks d row names = refl
step all Several k ks d row names = refl
step all Named k ks d row names = refl
step all Plain k ks d row names = refl

by_found : (at : ℕ → Option Doc) (s : Shape) (v : Doc) (o : Option Held) (names : List (String Global × ℕ)) → FoundAt at s v o → Here at s v (row_of o) (names_of o names)
by_found at Plain v o names f = tt
by_found at One v o names (h, e, is) = subst (λ p. Here at One v (row_of p) (names_of p names)) (sym e) is
by_found at Several v o names (h, e, is) = subst (λ p. Here at Several v (row_of p) (names_of p names)) (sym e) is
by_found at Named v o names (h, e, is) = subst (λ p. Here at Named v (row_of p) (names_of p names)) (sym e) is

module _ (root : Doc) (es : List Entry) (are : AreEntries root es) (all : List (Vec Held Global)) (held : AreHeld es all) where
  goes_on : (h : Shape) (k : List ℕ) (d v : Doc) (row : List ℕ) (names : List (String Global × ℕ)) → Here (doc_at es) h d row names → held_at h k d ≡ Some v → Here (doc_at es) (shape_at h k) v (row_at all h k row names) (names_at all h k row names)
  goes_on One k d v [] names is e = absurd is
  goes_on One k (object ms) v (n ∷ row) names is e =
      let x = entry_at es n (object ms) is.0 in
      let rows = subst (λ d. AreRows (doc_at es) (members_in d) x.0.rows.items) x.2 (rows_at root (doc_at es) es n x.0 are x.1) in
      let t = held_at_entry es all n x.0 held x.1 in
      let holds = subst (λ d. Holds (members_in d) x.0.rows.items t.0.items) x.2 t.2 in
      let found = member_held (doc_at es) k ms x.0.rows.items t.0.items v rows holds e in
      by_found (doc_at es) (shape_of (keyword_of k)) v (held_from all k (n ∷ row)) names (subst (λ o. FoundAt (doc_at es) (shape_of (keyword_of k)) v (option_and_then (λ hs. held_named k hs.items) o)) (sym t.1) found)
  goes_on Several k (list ds) v row names is e = element_row (doc_at es) 0 k ds row v is e
  goes_on Named k (object ms) v row names is e = named_row (doc_at es) k ms names v is e
  goes_on One k null v (n ∷ row) names is e = absurd cc
  goes_on One k (boolean b) v (n ∷ row) names is e = absurd cc
  goes_on One k (int z) v (n ∷ row) names is e = absurd cc
  goes_on One k (text s) v (n ∷ row) names is e = absurd cc
  goes_on One k (list ds) v (n ∷ row) names is e = absurd cc
  goes_on Several k null v row names is e = absurd cc
  goes_on Several k (boolean b) v row names is e = absurd cc
  goes_on Several k (int z) v row names is e = absurd cc
  goes_on Several k (text s) v row names is e = absurd cc
  goes_on Several k (object ms) v row names is e = absurd cc
  goes_on Named k null v row names is e = absurd cc
  goes_on Named k (boolean b) v row names is e = absurd cc
  goes_on Named k (int z) v row names is e = absurd cc
  goes_on Named k (text s) v row names is e = absurd cc
  goes_on Named k (list ds) v row names is e = absurd cc
  goes_on Plain k d v row names is e = absurd cc

  ends : (row : List ℕ) (d : Doc) → StandFor (doc_at es) row (d ∷ []) → Reached (doc_at es) (slice_get row 0) (Some d)
  ends [] d h = absurd h
  ends (c ∷ row) d h = h.0

  reaches : (ks : List (List ℕ)) (h : Shape) (d : Doc) (row : List ℕ) (names : List (String Global × ℕ)) → Here (doc_at es) h d row names → Reached (doc_at es) (number_to all h ks d row names) (walk h ks d)
  reaches [] One d row names is = ends row d is
  reaches [] Several d row names is = tt
  reaches [] Named d row names is = tt
  reaches [] Plain d row names is = tt
  reaches (k ∷ ks) h d row names is = subst (λ o. Reached (doc_at es) o (walk h (k ∷ ks) d)) (sym (step all h k ks d row names)) (subst (λ o. Reached (doc_at es) (option_and_then (λ v. number_to all (shape_at h k) ks v (row_at all h k row names) (names_at all h k row names)) (held_at h k d)) o) (sym (walk_step h k ks d)) (by_held (held_at h k d) refl (λ v. reaches ks (shape_at h k) v (row_at all h k row names) (names_at all h k row names))))
    where
      by_held : (o : Option Doc) → held_at h k d ≡ o → ((v : Doc) → Here (doc_at es) (shape_at h k) v (row_at all h k row names) (names_at all h k row names) → Reached (doc_at es) (number_to all (shape_at h k) ks v (row_at all h k row names) (names_at all h k row names)) (walk (shape_at h k) ks v)) → Reached (doc_at es) (option_and_then (λ v. number_to all (shape_at h k) ks v (row_at all h k row names) (names_at all h k row names)) o) (option_and_then (walk (shape_at h k) ks) o)
      by_held None e rest = tt
      by_held (Some v) e rest = rest v (goes_on h k d v row names is e)

  pub reached : (names : List (String Global × ℕ)) (tokens : Option (List (List ℕ))) (whole : ℕ) → doc_at es whole ≡ Some root → Reached (doc_at es) (option_and_then (λ ks. number_to all One ks root (whole ∷ []) names) tokens) (option_and_then (λ ks. walk One ks root) tokens)
  reached names None whole is = tt
  reached names (Some ks) whole is = reaches ks One root (whole ∷ []) names (is, tt)

pub by_schema : (schema : ℕ → Doc) (at : ℕ → Option Doc) (o : Option ℕ) (t : Option Doc) → ((n : ℕ) (d : Doc) → at n ≡ Some d → schema n ≡ d) → Reached at o t → option_map schema o ≡ t
by_schema schema at None None agree h = refl
by_schema schema at (Some n) (Some d) agree h = ap (λ x. Some x) (agree n d h)
by_schema schema at None (Some d) agree h = absurd h
by_schema schema at (Some n) None agree h = absurd h
