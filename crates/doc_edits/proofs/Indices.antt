-- The index that a token names.
use Rattle.std.proofs.Common.{◌≡◌, ◌≢◌, ℕ, zero, suc, ◌+◌, ◌<◌, ◌≤◌, ◌^◌, List, [], ◌∷◌, length, Bool, true, false, if◌then◌else◌, Option, Some, None, option_map, option_and_then, decimal, refl, sym, ap, ◌∙◌, arith, add-zero}
use Rattle.std.proofs.lemmas.Bool.{false_from_ne_true}
use Rattle.std.proofs.lemmas.Fmt.{decimal_injective}
use Rattle.std.proofs.lemmas.Slice.Eq.{bytes_eq-Decides}
use Rattle.std.specs.Str.{bytes_eq}
use Rattle.doc_tree.specs.Doc.{Doc, list, Elements, no_elements, element, get_element}
use Rattle.doc_tree.specs.TreeView.{elements_view}
use Rattle.doc_tree.specs.declared.tree.Tree.{Tree}
use Rattle.doc_pointer.specs.Place.{child_named, element_named}
use Rattle.doc_edits.specs.Edit.{Token, elements_len, number_named, index_below}

same_text : (a b : List ℕ) → a ≡ b → bytes_eq a b ≡ true
same_text a b e = (bytes_eq-Decides a b).1 e

other_text : (a b : List ℕ) → a ≢ b → bytes_eq a b ≡ false
other_text a b n = false_from_ne_true _ (λ e. n ((bytes_eq-Decides a b).0 e))

-- the token is the text of the number that is i after n
number_named_at : (n i count : ℕ) (t : Token) → n + count ≤ 2 ^ 64 → i < count → decimal (n + i) ≡ t → number_named n count t ≡ Some i
number_named_at n i zero t small h e = absurd (omega arith)
number_named_at n zero (suc count) t small h e = rw (same_text (decimal n) t (ap decimal (sym (add-zero n)) ∙ e)) refl
number_named_at n (suc i) (suc count) t small h e =
    let other : decimal n ≢ t = λ f. absurd (let same : n ≡ n + suc i = decimal_injective n (n + suc i) (omega arith) (omega arith) (f ∙ sym e) in omega (arith, same)) in
    rw (other_text (decimal n) t other) (ap (option_map (λ j. suc j)) (number_named_at (suc n) i count t (omega arith) (omega arith) (ap decimal (omega arith) ∙ e)))

-- the token is the text of none of the numbers
number_named_none : (n count : ℕ) (t : Token) → ((i : ℕ) → i < count → decimal (n + i) ≢ t) → number_named n count t ≡ None
number_named_none n zero t none = refl
number_named_none n (suc count) t none =
    let first : decimal n ≢ t = λ e. none 0 (omega arith) (ap decimal (add-zero n) ∙ e) in
    rw (other_text (decimal n) t first) (ap (option_map (λ j. suc j)) (number_named_none (suc n) count t (λ i less e. none (suc i) (omega arith) (ap decimal (omega arith) ∙ e))))

pub index_below_at : (i bound : ℕ) (t : Token) → bound ≤ 2 ^ 64 → i < bound → decimal i ≡ t → index_below bound t ≡ Some i
index_below_at i bound t small h e = number_named_at 0 i bound t (omega arith) h (ap decimal (omega arith) ∙ e)

pub index_below_none : (bound : ℕ) (t : Token) → ((i : ℕ) → i < bound → decimal i ≢ t) → index_below bound t ≡ None
index_below_none bound t none = number_named_none 0 bound t (λ i less e. none i less (ap decimal (omega arith) ∙ e))

pub index_below_past : (i bound : ℕ) (t : Token) → i < 2 ^ 64 → bound ≤ i → decimal i ≡ t → index_below bound t ≡ None
index_below_past i bound t small h e = index_below_none bound t (λ j less f. absurd (let same : j ≡ i = decimal_injective j i (omega arith) small (f ∙ sym e) in omega (arith, same)))

below_by : (b : Bool) (o : Option ℕ) (count i : ℕ) → ((j : ℕ) → o ≡ Some j → j < count) → (if b then Some 0 else option_map (λ j. suc j) o) ≡ Some i → i < suc count
below_by true o count i h e = let same : 0 ≡ i = cc in omega (arith, same)
below_by false None count i h e = absurd cc
below_by false (Some j) count i h e = let same : suc j ≡ i = cc in let less = h j refl in omega (arith, same, less)

number_named-below : (n count : ℕ) (t : Token) (i : ℕ) → number_named n count t ≡ Some i → i < count
number_named-below n zero t i e = absurd cc
number_named-below n (suc count) t i e = below_by (bytes_eq (decimal n) t) (number_named (suc n) count t) count i (number_named-below (suc n) count t) e

pub index_below-below : (bound : ℕ) (t : Token) (i : ℕ) → index_below bound t ≡ Some i → i < bound
index_below-below bound t i e = number_named-below 0 bound t i e

pub element_at : (i : ℕ) (ds : Elements) → i < elements_len ds → (d : Doc) × (get_element i ds ≡ Some d)
element_at i no_elements h = absurd (omega arith)
element_at zero (element d ds) h = (d, refl)
element_at (suc i) (element d ds) h = element_at i ds (omega arith)

-- ---- beside the elements

element_by : (b : Bool) (d : Doc) (ds : Elements) (p : Option Doc) (o : Option ℕ) → p ≡ option_and_then (λ i. get_element i ds) o
    → (if b then Some d else p) ≡ option_and_then (λ i. get_element i (element d ds)) (if b then Some 0 else option_map (λ i. suc i) o)
element_by true d ds p o e = refl
element_by false d ds p None e = e
element_by false d ds p (Some i) e = e

element_named-number : (n : ℕ) (t : Token) (ds : Elements) → element_named n t ds ≡ option_and_then (λ i. get_element i ds) (number_named n (elements_len ds) t)
element_named-number n t no_elements = refl
element_named-number n t (element d ds) = element_by (bytes_eq (decimal n) t) d ds (element_named (suc n) t ds) (number_named (suc n) (elements_len ds) t) (element_named-number (suc n) t ds)

-- the child of an array is the element at the index that the token names
pub child_named-list : (t : Token) (ds : Elements) → child_named t (list ds) ≡ option_and_then (λ i. get_element i ds) (index_below (elements_len ds) t)
child_named-list t ds = element_named-number 0 t ds

pub elements_len-view : (ts : List Tree) → elements_len (elements_view ts) ≡ length ts
elements_len-view [] = refl
elements_len-view (t ∷ ts) = ap (λ n. suc n) (elements_len-view ts)

-- as the code finds it, by the length of the vector
pub index_in : (t : Token) (ts : List Tree) (n : ℕ) (o : Option ℕ) → n ≡ length ts → o ≡ index_below n t → index_below (elements_len (elements_view ts)) t ≡ o
index_in t ts n o e f = ap (λ m. index_below m t) (elements_len-view ts ∙ sym e) ∙ sym f

pub index_to_end : (t : Token) (ts : List Tree) (n : ℕ) (o : Option ℕ) → n ≡ suc (length ts) → o ≡ index_below n t → index_below (suc (elements_len (elements_view ts))) t ≡ o
index_to_end t ts n o e f = ap (λ m. index_below m t) (ap (λ m. suc m) (elements_len-view ts) ∙ sym e) ∙ sym f
