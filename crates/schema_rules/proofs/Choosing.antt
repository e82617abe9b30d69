-- A binary search of values in order tells whether one of them is equal to a document.
use Rattle.std.proofs.Common.{◌≡◌, ◌<◌, ℕ, List, [], ◌∷◌, length, slice_index_or, Bool, true, false, ◌||◌, Result, Ok, Err, is_ok, Ordering, Less, Equal, Greater, refl, sym, ap, ◌∙◌, subst, ⊎_elim, arith}
use Rattle.std.proofs.lemmas.Bool.{cases_lt}
use Rattle.std.proofs.lemmas.List.Elements.{All-from_get_or}
use Rattle.std.proofs.lemmas.List.Folds.{list_any_at, list_any_none}
use Rattle.std.proofs.lemmas.List.Sorted.{list_any-IsPermutation, searchable_from_sorted}
use Rattle.std.specs.List.{list_any}
use Rattle.std.specs.List.Sorted.{IsPermutation, IsSortedBy, IsSearchInRange, IsBinarySearchResult}
use Rattle.std.specs.Ordering.{is_lt}
use Rattle.doc_tree.specs.Doc.{Doc}
use Rattle.doc_tree.specs.Lists.{elements_list}
use Rattle.doc_tree.specs.Same.{same}
use Rattle.doc_tree.specs.TreeView.{view, elements_view}
use Rattle.doc_tree.specs.declared.tree.Tree.{Tree}
use Rattle.doc_tree.proofs.Sameness.{same-Decides}
use Rattle.schema_rules.specs.Order.{doc_cmp}
use Rattle.schema_rules.proofs.Ordered.{doc_total, doc_exact, doc_tied}

is_same : (d t : Doc) → doc_cmp d t ≡ Equal → same d t ≡ true
is_same d t h = (same-Decides d t).1 (doc_exact d t h)

differs_at : (d t : Doc) (b : Bool) → same d t ≡ b → (doc_cmp d t ≡ Equal → ⊥) → b ≡ false
differs_at d t true is h = absurd (h (subst (λ (x : Doc). doc_cmp d x ≡ Equal) ((same-Decides d t).0 is) (doc_tied d)))
differs_at d t false is h = refl

is_less : (o : Ordering) → o ≡ Less → o ≡ Equal → ⊥
is_less o is h = absurd (cc)

is_greater : (o : Ordering) → o ≡ Greater → o ≡ Equal → ⊥
is_greater o is h = absurd (cc)

among_is : (ts : List Tree) (t : Doc) → list_any (λ d. same d t) (elements_list (elements_view ts)) ≡ list_any (λ y. same (view y) t) ts
among_is [] t = refl
among_is (y ∷ ts) t = ap (λ b. same (view y) t || b) (among_is ts t)

pub searched : (ts : List Tree) (t : Doc) (r : Result ℕ ℕ) → IsSortedBy (λ a b. is_lt (doc_cmp (view a) (view b))) ts → IsSearchInRange r (length ts)
    → IsBinarySearchResult (λ y. doc_cmp (view y) t) ts r → is_ok r ≡ list_any (λ d. same d t) (elements_list (elements_view ts))
searched [] t (Ok i) sorted range found = absurd (omega arith)
searched (y ∷ ts) t (Ok i) sorted range found = sym (among_is (y ∷ ts) t ∙ list_any_at (λ x. same (view x) t) (y ∷ ts) i y range (is_same _ t (found y)))
searched [] t (Err i) sorted range found = refl
searched (y ∷ ts) t (Err i) sorted range found =
    let parted = found (searchable_from_sorted doc_total view (y ∷ ts) t sorted) in
    let other : (k : ℕ) → k < length (y ∷ ts) → same (view (slice_index_or (y ∷ ts) k y)) t ≡ false = λ k lt. differs_at _ t _ refl (⊎_elim
    (λ l. is_less _ (parted.0 k y (omega arith) l))
    (λ l. is_greater _ (parted.1 k y l lt)) (cases_lt k i)) in
    sym (among_is (y ∷ ts) t ∙ list_any_none (λ x. same (view x) t) (y ∷ ts) (All-from_get_or (λ x. same (view x) t ≡ false) (y ∷ ts) y other))

-- in another order they hold the same
pub alike : (ts us : List Tree) (t : Doc) → IsPermutation ts us → list_any (λ d. same d t) (elements_list (elements_view us)) ≡ list_any (λ d. same d t) (elements_list (elements_view ts))
alike ts us t moved = among_is us t ∙ (sym (list_any-IsPermutation (λ y. same (view y) t) ts us moved) ∙ sym (among_is ts t))
