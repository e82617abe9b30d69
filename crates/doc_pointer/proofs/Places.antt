-- Where tokens lead.
use Rattle.std.proofs.Common.{◌≡◌, ◌≢◌, ℕ, zero, suc, ◌+◌, ◌/◌, ◌%◌, ◌==◌, ◌<◌, ◌≤◌, ◌^◌, nat_lt, List, [], ◌∷◌, ◌++◌, length, get_or, Bool, true, false, if◌then◌else◌, Option, Some, None, option_and_then, decimal, refl, sym, ap, ◌∙◌, arith, add-zero}
use Rattle.std.proofs.lemmas.Fmt.{decimal_injective}
use Rattle.std.proofs.lemmas.Slice.Eq.{bytes_eq-Decides}
use Rattle.std.proofs.lemmas.Bool.{false_from_ne_true}
use Rattle.std.specs.Fmt.{digits, digits_onto, digit_glyph}
use Rattle.std.specs.Str.{bytes_eq}
use Rattle.doc_tree.specs.Doc.{Doc, Elements, no_elements, element, get_element}
use Rattle.doc_tree.specs.TreeView.{elements_view}
use Rattle.doc_tree.specs.declared.tree.Tree.{Tree}
use Rattle.doc_pointer.specs.Place.{element_named, child_named, resolve}

same_text : (a b : List ℕ) → a ≡ b → bytes_eq a b ≡ true
same_text a b e = (bytes_eq-Decides a b).1 e

other_text : (a b : List ℕ) → a ≢ b → bytes_eq a b ≡ false
other_text a b n = false_from_ne_true _ (λ e. n ((bytes_eq-Decides a b).0 e))

-- the token is the text of the index that is i after n
pub element_named_at : (n i : ℕ) (k : List ℕ) (ds : Elements) → n + i < 2 ^ 64 → decimal (n + i) ≡ k → element_named n k ds ≡ get_element i ds
element_named_at n i k no_elements small e = refl
element_named_at n zero k (element d ds) small e = rw (same_text (decimal n) k (ap decimal (sym (add-zero n)) ∙ e)) refl
element_named_at n (suc i) k (element d ds) small e =
    let other : decimal n ≢ k = λ f. absurd (let same : n ≡ n + suc i = decimal_injective n (n + suc i) (omega arith) small (f ∙ sym e) in omega (arith, same)) in
    rw (other_text (decimal n) k other) (element_named_at (suc n) i k ds (omega arith) (ap decimal (omega arith) ∙ e))

-- the token is no index's text
pub element_named_none : (n : ℕ) (k : List ℕ) (ts : List Tree) → n + length ts ≤ 2 ^ 64 → ((i : ℕ) → i < 2 ^ 64 → decimal i ≢ k) → element_named n k (elements_view ts) ≡ None
element_named_none n k [] small none = refl
element_named_none n k (t ∷ ts) small none = rw (other_text (decimal n) k (none n (omega arith))) (element_named_none (suc n) k ts (omega arith) none)

-- ---- a token that is no decimal text

pick : (b : Bool) (xs ys : List ℕ) (z : List ℕ) → xs ≢ z → ys ≢ z → (if b then xs else ys) ≢ z
pick true xs ys z p q = p
pick false xs ys z p q = q

glyph_by : (b : Bool) (d : ℕ) → (if b then 48 + d else 87 + d) ≢ 45
glyph_by true d e = omega (arith, e)
glyph_by false d e = omega (arith, e)

glyph_is_no_dash : (d : ℕ) (rest : List ℕ) → digit_glyph false d ∷ rest ≢ 45 ∷ []
glyph_is_no_dash d rest e = glyph_by (nat_lt d 10) d (ap (λ l. get_or l 0 0) e)

digits_are_no_dash : (k n m : ℕ) (acc : List ℕ) → digits_onto k 10 false n (digit_glyph false m ∷ acc) ≢ 45 ∷ []
digits_are_no_dash zero n m acc = glyph_is_no_dash m acc
digits_are_no_dash (suc k) n m acc = pick (n / 10 == 0) _ _ (45 ∷ []) (glyph_is_no_dash (n % 10) _) (digits_are_no_dash k (n / 10) (n % 10) (digit_glyph false m ∷ acc))

decimal_is_no_dash : (n : ℕ) → decimal n ≢ 45 ∷ []
unfolding digits
decimal_is_no_dash n = pick (n / 10 == 0) _ _ (45 ∷ []) (glyph_is_no_dash (n % 10) []) (digits_are_no_dash 63 (n / 10) (n % 10) [])

pub element_named_dash : (n : ℕ) (ds : Elements) → element_named n (45 ∷ []) ds ≡ None
element_named_dash n no_elements = refl
element_named_dash n (element d ds) = rw (other_text (decimal n) (45 ∷ []) (decimal_is_no_dash n)) (element_named_dash (suc n) ds)

-- ---- tokens after tokens

and_then_twice : (o : Option Doc) (f g h : Doc → Option Doc) → ((d : Doc) → f d ≡ option_and_then h (g d)) → option_and_then f o ≡ option_and_then h (option_and_then g o)
and_then_twice None f g h same = refl
and_then_twice (Some d) f g h same = same d

pub resolve-append : (ks ls : List (List ℕ)) (d : Doc) → resolve (ks ++ ls) d ≡ option_and_then (resolve ls) (resolve ks d)
resolve-append [] ls d = refl
resolve-append (k ∷ ks) ls d = and_then_twice (child_named k d) (resolve (ks ++ ls)) (resolve ks) (resolve ls) (resolve-append ks ls)
