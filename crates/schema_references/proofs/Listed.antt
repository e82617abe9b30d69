-- Texts are kept one by one.
use Rattle.std.proofs.Common.{◌≡◌, ℕ, suc, ◌<◌, List, [], ◌∷◌, ◌++◌, map, length, drop, drop-cons, get_or, Bool, true, false, not, ◌&&◌, ◌||◌, cond, if◌then◌else◌, is_some, is_none, Option, Some, None, option_map, String, Global, Bor, string_bytes, nat_cmp, bytes_eq, refl, sym, ap, ap₂, subst, ◌∙◌}
use Rattle.std.specs.BTreeSet.{BTreeSet, contains_text}
use Rattle.std.specs.BTreeMap.{is_at}
use Rattle.std.proofs.lemmas.Cmp.{nat_list_eq_equiv}
use Rattle.std.specs.Cmp.Lexicographic.{slice_cmp}
use Rattle.std.specs.List.{list_any, list_all}
use Rattle.std.specs.Option.{option_to_list}
use Rattle.doc_tree.specs.Doc.{Doc}
use Rattle.doc_tree.specs.TreeView.{view}
use Rattle.doc_tree.specs.declared.tree.Tree.{Tree}
use Rattle.schema_rules.specs.Anchors.{anchor_of, anchors_of, are_different, is_this, with_anchor}
use Rattle.schema_references.specs.Listed.{HasAll, is_among}

-- none of these is kept
abbrev pub are_new : BTreeSet (String Global) → List (List ℕ) → Bool
are_new kept names = list_all (λ s. not (contains_text kept s)) names

pub record Listing (all : List (List ℕ)) (kept : BTreeSet (String Global)) (different : Bool) (rest : List (List ℕ)) : Type 0 where
  pub same : (s : List ℕ) → (contains_text kept s || is_among rest s) ≡ is_among all s
  pub known : (different && (are_new kept rest && are_different rest)) ≡ are_different all

new_all : (kept : BTreeSet (String Global)) → ((s : List ℕ) → contains_text kept s ≡ false) → (names : List (List ℕ)) → are_new kept names ≡ true
new_all kept none [] = refl
new_all kept none (n ∷ names) = ap₂ (λ a b. not a && b) (none n) (new_all kept none names)

pub listing : (all : List (List ℕ)) (kept : BTreeSet (String Global)) → kept.keys ≡ [] → Listing all kept true all
listing all kept e =
    let none : (s : List ℕ) → contains_text kept s ≡ false = λ s. none_of s kept e in record {
      same = λ s. ap (λ b. b || is_among all s) (none s);
      known = ap (λ b. b && are_different all) (new_all kept none all);
    }
  where
    none_of : (s : List ℕ) (k : BTreeSet (String Global)) → k.keys ≡ [] → contains_text k s ≡ false
    none_of s k e = ap (list_any (is_at (λ x. slice_cmp nat_cmp s (string_bytes x)))) e

turned : (a b : List ℕ) → bytes_eq a b ≡ bytes_eq b a
turned a b = nat_list_eq_equiv.symm a b

now_kept : (e c r : Bool) → (c || (e || r)) ≡ (cond e true c || r)
now_kept true true r = refl
now_kept true false r = refl
now_kept false c r = refl

-- those left are new after a text if they were before it, and it isn't among them
still_new : (kept kept' : BTreeSet (String Global)) (n : List ℕ) → ((s : List ℕ) → contains_text kept' s ≡ cond (bytes_eq n s) true (contains_text kept s))
    → (rest : List (List ℕ)) → are_new kept' rest ≡ (not (is_among rest n) && are_new kept rest)
still_new kept kept' n is [] = refl
still_new kept kept' n is (m ∷ rest) = ap₂ (λ a b. not a && b) (is m) (still_new kept kept' n is rest) ∙ by (bytes_eq n m) (contains_text kept m) (is_among rest n) (are_new kept rest)
  where
    by : (e c r a : Bool) → (not (cond e true c) && (not r && a)) ≡ (not (e || r) && (not c && a))
    by true c r a = refl
    by false true true a = refl
    by false true false a = refl
    by false false r a = refl

in_turn : (f c r a d : Bool) → (f && ((not c && a) && (not r && d))) ≡ ((f && not c) && ((not r && a) && d))
in_turn false c r a d = refl
in_turn true true r a d = refl
in_turn true false true true d = refl
in_turn true false true false d = refl
in_turn true false false a d = refl

pub listing_on : (all : List (List ℕ)) (kept kept' : BTreeSet (String Global)) (different different' : Bool) (n : List ℕ) (left rest : List (List ℕ)) → Listing all kept different left → left ≡ n ∷ rest
    → ((s : List ℕ) → contains_text kept' s ≡ cond (bytes_eq n s) true (contains_text kept s)) → different' ≡ (different && not (contains_text kept n)) → Listing all kept' different' rest
listing_on all kept kept' different different' n left rest l e is new =
    let same = subst (λ x. (s : List ℕ) → (contains_text kept s || is_among x s) ≡ is_among all s) e l.same in
    let known = subst (λ x. (different && (are_new kept x && are_different x)) ≡ are_different all) e l.known in record {
      same = λ s. ap (λ b. b || is_among rest s) (is s) ∙ sym (now_kept (bytes_eq n s) (contains_text kept s) (is_among rest s)) ∙ ap (λ b. contains_text kept s || (b || is_among rest s)) (turned n s) ∙ same s;
      known =
          ap (λ b. b && (are_new kept' rest && are_different rest)) new
          ∙ ap (λ b. (different && not (contains_text kept n)) && (b && are_different rest)) (still_new kept kept' n is rest)
          ∙ sym (in_turn different (contains_text kept n) (is_among rest n) (are_new kept rest) (are_different rest)) ∙ known;
    }

or_false : (b : Bool) → (b || false) ≡ b
or_false true = refl
or_false false = refl

and_true : (b : Bool) → (b && true) ≡ b
and_true true = refl
and_true false = refl

pub listed_all : (all : List (List ℕ)) (kept : BTreeSet (String Global)) (different : Bool) (left : List (List ℕ)) → Listing all kept different left → left ≡ [] → HasAll all kept different
listed_all all kept different left l e =
    let same = subst (λ x. (s : List ℕ) → (contains_text kept s || is_among x s) ≡ is_among all s) e l.same in
    let known = subst (λ x. (different && (are_new kept x && are_different x)) ≡ are_different all) e l.known in record {
      same = λ s. sym (or_false (contains_text kept s)) ∙ same s;
      known = sym (and_true different) ∙ known;
    }

-- ---- what is left of a slice

pub next_left : (i : ℕ) (names : List (Bor (List ℕ))) (other : Bor (List ℕ)) → i < length names → map (λ s. s.now) (drop i names) ≡ (get_or names i other).now ∷ map (λ s. s.now) (drop (suc i) names)
next_left i names other less = ap (map (λ s. s.now)) (drop-cons names i other less)

-- ---- an anchor among those of schemas

pub named_is : (s : List ℕ) (ds : List Doc) → is_among (anchors_of ds) s ≡ is_some (with_anchor s ds)
named_is s [] = refl
named_is s (d ∷ ds) = by_anchor (anchor_of d) (named_is s ds)
  where
    by_test : (b : Bool) → is_among (anchors_of ds) s ≡ is_some (with_anchor s ds) → (b || is_among (anchors_of ds) s) ≡ is_some (if b then Some d else with_anchor s ds)
    by_test true e = refl
    by_test false e = e

    by_anchor : (o : Option (List ℕ)) → is_among (anchors_of ds) s ≡ is_some (with_anchor s ds) → is_among (option_to_list o ++ anchors_of ds) s ≡ is_some (if is_this s o then Some d else with_anchor s ds)
    by_anchor None e = e
    by_anchor (Some a) e = by_test (bytes_eq s a) e

pub not_some : (o : Option Doc) → not (is_some o) ≡ is_none o
not_some None = refl
not_some (Some d) = refl

pub none_read : (r : Option (Bor Tree)) (b : Bool) (o : Option Doc) → is_some r ≡ not b → option_map (λ t. view t.now) r ≡ o → b ≡ is_none o
none_read None true o e f = ap is_none f
none_read None false o e f = absurd cc
none_read (Some t) false o e f = ap is_none f
none_read (Some t) true o e f = absurd cc
