-- Room for the members and elements of a document.
use Rattle.std.proofs.Common.{◌≡◌, ℕ, suc, ◌<◌, ◌≤◌, List, [], ◌∷◌, length, true, false, nat_lt, Option, Some, None, Result, Ok, Err, IfOk, MatchOption, refl, sym, ap, subst, ◌∙◌, arith}
use Rattle.std.proofs.lemmas.Bool.Decides.{nat_tests}
use Rattle.doc_tree.specs.Doc.{Doc, Elements, Members, put, get_member}
use Rattle.doc_tree.specs.TreeView.{members_view}
use Rattle.doc_edits.specs.Edit.{Token, Tokens, at_last, elements_len, index_below, insert_element, remove_here}
use Rattle.doc_edits.specs.Spare.{count, IsSpareIn, IsSpareAt, item_back, member_back}
use Rattle.doc_edits.specs.declared.spare.Spare.{Spare}
use Rattle.doc_edits.specs.declared.spare.Spare.TheVariants.{Members as in_object, Elements as in_list}
use Rattle.doc_edits.proofs.Views.{Entry}

pub count-view : (es : List Entry) → count (members_view es) ≡ length es
count-view [] = refl
count-view (e ∷ es) = ap (λ n. suc n) (count-view es)

above : (m n : ℕ) → n ≤ m → nat_lt m n ≡ false
above m n h = grind (arith, nat_tests, h)

below : (m n : ℕ) → m < n → nat_lt m n ≡ true
below m n h = grind (arith, nat_tests, h)

-- ---- members

pub member_full : (s : Spare) (n : ℕ) (v : Doc) (t : Token) (ms : Members) → s ≡ in_object n → n ≤ count ms → member_back s v t ms ≡ None
member_full s n v t ms is full = rw (is, above (count ms) n full) refl

pub member_there : (s : Spare) (n : ℕ) (v c : Doc) (t : Token) (ms : Members) → s ≡ in_object n → count ms < n → get_member t ms ≡ Some c → member_back s v t ms ≡ None
member_there s n v c t ms is room there = rw (is, below (count ms) n room, there) refl

pub member_fits : (s : Spare) (n : ℕ) (v : Doc) (t : Token) (ms : Members) → s ≡ in_object n → count ms < n → get_member t ms ≡ None → member_back s v t ms ≡ Some (put t v ms)
member_fits s n v t ms is room absent = rw (is, below (count ms) n room, absent) refl

-- ---- elements

pub item_full : (s : Spare) (n : ℕ) (v : Doc) (t : Token) (ds : Elements) → s ≡ in_list n → n ≤ elements_len ds → item_back s v t ds ≡ None
item_full s n v t ds is full = rw (is, above (elements_len ds) n full) refl

pub item_nowhere : (s : Spare) (n : ℕ) (v : Doc) (t : Token) (ds : Elements) → s ≡ in_list n → elements_len ds < n → index_below (suc (elements_len ds)) t ≡ None → item_back s v t ds ≡ None
item_nowhere s n v t ds is room none = rw (is, below (elements_len ds) n room, none) refl

pub item_fits : (s : Spare) (n i : ℕ) (v : Doc) (t : Token) (ds es : Elements) → s ≡ in_list n → elements_len ds < n → index_below (suc (elements_len ds)) t ≡ Some i → insert_element i v ds ≡ Some es → item_back s v t ds ≡ Some es
item_fits s n i v t ds es is room at made = rw (is, below (elements_len ds) n room, at) made

-- ---- at the place

pub spare_here : {E : Type 0} (r : Result (Option Spare) E) (t : Token) (ts : Tokens) (d : Doc) → ts ≡ [] → IfOk r (λ found. MatchOption found ((token : Token) → remove_here token d ≡ None) (λ s. IsSpareIn s d))
    → IfOk r (λ found. MatchOption found (at_last remove_here t ts d ≡ None) (λ s. IsSpareAt s t ts d))
spare_here (Ok None) t ts d is h = ap (λ (x : Tokens). at_last remove_here t x d) is ∙ h t
spare_here (Ok (Some s)) t ts d is h = subst (λ (x : Tokens). IsSpareAt s t x d) (sym is) h
spare_here (Err e) t ts d is h = tt
