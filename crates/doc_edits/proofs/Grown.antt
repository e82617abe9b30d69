-- What each change adds to the text and takes from it.
use Rattle.std.proofs.Common.{◌≡◌, ℕ, suc, ◌+◌, ◌≤◌, List, [], ◌∷◌, length, Option, Some, None, IfOk, Result, Ok, Err, option_map, option_and_then, Bool, true, false, true≢false, cond, refl, sym, ap, ◌∙◌, arith, not, ◌==◌}
use Rattle.std.specs.Str.{bytes_eq}
use Rattle.json.specs.Print.{quoted}
use Rattle.doc_tree.specs.Doc.{Doc, list, object, Elements, Members, put, get_member, get_element}
use Rattle.doc_tree.specs.TreeView.{elements_view, members_view}
use Rattle.doc_tree.specs.declared.tree.Tree.{Tree}
use Rattle.doc_edits.specs.Size.{size, comma_beside, comma_beside_members}
use Rattle.doc_pointer.specs.Place.{child_named}
use Rattle.doc_edits.specs.Edit.{Token, Tokens, elements_len, index_below}
use Rattle.doc_edits.proofs.Indices.{child_named-list}
use Rattle.doc_edits.specs.Edit.{member_at, put_or_set, add_member, remove_member, replace_member, add_item, remove_item, replace_item, append_element, insert_element, remove_element, set_element, cut, set_member, with_child, dash}
use Rattle.doc_edits.specs.Change.{Takes, value_at}
use Rattle.doc_edits.specs.SizeChange.{Grows}
use Rattle.doc_edits.specs.declared.change.Change.{Change}
use Rattle.doc_edits.specs.declared.change.Change.TheVariants.{Add, Remove, Replace, Return}
use Rattle.doc_edits.specs.declared.change.Made.{Made}
use Rattle.doc_edits.specs.declared.fault.Unmade.{Unmade}
use Rattle.doc_edits.proofs.Sizes.{size-with_child, size-put, size-cut, size-inserted, size-appended, size-removed}
use Rattle.doc_edits.proofs.Views.{Entry}

grown_by : (c : Change) (m : Made) (a b x y : ℕ) → y + a ≡ x + b → a ≤ x → Grows c m a b → Grows c m x y
grown_by (Add v) m a b x y e low h = (h.0, h.1, omega (arith, h.2), omega (arith, h.3))
grown_by Remove m a b x y e low h = (h.0, h.1, omega (arith, h.2))
grown_by (Replace v) m a b x y e low h = (omega (arith, h.0), omega (arith, h.1))
grown_by (Return name spare v) m a b x y e low h = tt

pub stepped_sized : (c : Change) (t : Token) (d child new after : Doc) → child_named t d ≡ Some child → after ≡ with_child t new d
    → (r : Result Made Unmade) → IfOk r (λ m. Grows c m (size child) (size new)) → IfOk r (λ m. Grows c m (size d) (size after))
stepped_sized c t d child new after e w (Ok m) h =
    let s = size-with_child t new d child e in
    let sum : size after + size child ≡ size d + size new = ap (λ (x : Doc). size x + size child) w ∙ s.0 in
    grown_by c m (size child) (size new) (size d) (size after) sum (s.1) h
stepped_sized c t d child new after e w (Err f) h = tt

-- what a change deep inside takes is what stood there
pub stepped_taken : (c : Change) (t u : Token) (us ts : Tokens) (d child : Doc) → ts ≡ u ∷ us → child_named t d ≡ Some child
    → (r : Result Made Unmade) → IfOk r (λ m. Takes c u us child m.old) → IfOk r (λ m. Takes c t ts d m.old)
stepped_taken (Add v) t u us ts d child same e (Ok m) h = h ∙ sym (ap (λ (x : Tokens). member_at t x d) same ∙ ap (option_and_then (member_at u us)) e)
stepped_taken Remove t u us ts d child same e (Ok m) h = h ∙ sym (ap (λ (x : Tokens). value_at t x d) same ∙ ap (option_and_then (value_at u us)) e)
stepped_taken (Replace v) t u us ts d child same e (Ok m) h = h ∙ sym (ap (λ (x : Tokens). value_at t x d) same ∙ ap (option_and_then (value_at u us)) e)
stepped_taken (Return name spare v) t u us ts d child same e (Ok m) h = tt
stepped_taken c t u us ts d child same e (Err f) h = tt

-- ---- members

pub replaced_member_size : (t : Token) (v old : Doc) (ms ns : Members) → replace_member v t ms ≡ Some ns → get_member t ms ≡ Some old → (size (object ns) + size old ≡ size (object ms) + size v) × (size old ≤ size (object ms))
replaced_member_size t v old ms ns made found =
    let whole : Some (set_member t v ms) ≡ Some ns = sym (ap (option_map (λ _. set_member t v ms)) found) ∙ made in
    let same : set_member t v ms ≡ ns = cc in
    rw (sym same) (size-with_child t v (object ms) old found)

pub set_member_size : (t : Token) (v old : Doc) (ms ns : Members) → add_member v t ms ≡ Some ns → get_member t ms ≡ Some old → (size (object ns) + size old ≡ size (object ms) + size v + 0) × (size old ≤ size (object ms))
set_member_size t v old ms ns made found =
    let whole : Some (set_member t v ms) ≡ Some ns = sym (ap (λ o. Some (put_or_set o v t ms)) found) ∙ made in
    let same : set_member t v ms ≡ ns = cc in
    let s = size-with_child t v (object ms) old found in
    rw (sym same) (omega (arith, s.0), s.1)

pub new_member_size : (t : Token) (v : Doc) (ms ns : Members) (comma : ℕ) → add_member v t ms ≡ Some ns → get_member t ms ≡ None → comma_beside_members ms ≡ comma → (size (object ns) + 0 ≡ size (object ms) + size v + (length (quoted t) + 1 + comma)) × (0 ≤ size (object ms))
new_member_size t v ms ns comma made absent c =
    let whole : Some (put t v ms) ≡ Some ns = sym (ap (λ o. Some (put_or_set o v t ms)) absent) ∙ made in
    let same : put t v ms ≡ ns = cc in
    let s = size-put t v ms absent in
    rw (sym same) (omega (arith, s, c), omega arith)

pub removed_member_size : (t : Token) (old : Doc) (ms ns : Members) (comma : ℕ) → remove_member t ms ≡ Some ns → get_member t ms ≡ Some old → comma_beside_members ns ≡ comma
    → size (object ns) + size old + (length (quoted t) + 1 + comma) ≡ size (object ms)
removed_member_size t old ms ns comma made found c =
    let whole : Some (cut t ms) ≡ Some ns = sym (ap (option_map (λ _. cut t ms)) found) ∙ made in
    let same : cut t ms ≡ ns = cc in
    let s = size-cut t old ms found in
    let d : comma_beside_members (cut t ms) ≡ comma = ap comma_beside_members same ∙ c in
    rw (sym same) (omega (arith, s, d))

-- ---- elements

pub replaced_item_size : (t : Token) (i : ℕ) (v old : Doc) (ds es : Elements) → replace_item v t ds ≡ Some es → index_below (elements_len ds) t ≡ Some i → get_element i ds ≡ Some old
    → (size (list es) + size old ≡ size (list ds) + size v) × (size old ≤ size (list ds))
replaced_item_size t i v old ds es made at found =
    let whole : Some (set_element i v ds) ≡ Some es = sym (ap (option_map (λ j. set_element j v ds)) at) ∙ made in
    let same : set_element i v ds ≡ es = cc in
    let here : child_named t (list ds) ≡ Some old = child_named-list t ds ∙ ap (option_and_then (λ j. get_element j ds)) at ∙ found in
    let s : (size (with_child t v (list ds)) + size old ≡ size (list ds) + size v) × (size old ≤ size (list ds)) = size-with_child t v (list ds) old here in
    let w : with_child t v (list ds) ≡ list es = rw at (ap list same) in
    (sym (ap (λ (x : Doc). size x + size old) w) ∙ s.0, s.1)

pub removed_item_size : (t : Token) (i : ℕ) (old : Doc) (ds es : Elements) (comma : ℕ) → remove_item t ds ≡ Some es → index_below (elements_len ds) t ≡ Some i → get_element i ds ≡ Some old → comma_beside es ≡ comma
    → size (list es) + size old + comma ≡ size (list ds)
removed_item_size t i old ds es comma made at found c =
    let whole : remove_element i ds ≡ Some es = sym (ap (option_and_then (λ j. remove_element j ds)) at) ∙ made in
    let s = size-removed i old ds es whole found in
    omega (arith, s, c)

inserted_size : (o : Option ℕ) (v : Doc) (ds es : Elements) → option_and_then (λ i. insert_element i v ds) o ≡ Some es → size (list es) ≡ size (list ds) + size v + comma_beside ds
inserted_size None v ds es h = absurd (cc)
inserted_size (Some i) v ds es h = size-inserted i v ds es h

either_size : (b : Bool) (o : Option ℕ) (v : Doc) (ds es : Elements) → cond b (Some (append_element v ds)) (option_and_then (λ i. insert_element i v ds) o) ≡ Some es → size (list es) ≡ size (list ds) + size v + comma_beside ds
either_size true o v ds es h = let same : append_element v ds ≡ es = cc in rw (sym same) (size-appended v ds)
either_size false o v ds es h = inserted_size o v ds es h

pub added_item_size : (t : Token) (v : Doc) (ds es : Elements) (comma : ℕ) → add_item v t ds ≡ Some es → comma_beside ds ≡ comma → (size (list es) + 0 ≡ size (list ds) + size v + comma) × (0 ≤ size (list ds))
added_item_size t v ds es comma made c = let s = either_size (bytes_eq t dash) (index_below (suc (elements_len ds)) t) v ds es made in (omega (arith, s, c), omega arith)

-- ---- commas

absurd_length : (n : ℕ) → suc n ≡ 0 → ⊥
absurd_length n e = omega arith

pub comma_of_some : (ts : List Tree) (n : ℕ) → n ≡ length ts → (n == 0) ≡ false → 1 ≡ comma_beside (elements_view ts)
comma_of_some [] n e f = absurd (true≢false (sym (ap (λ k. k == 0) e) ∙ f))
comma_of_some (t ∷ ts) n e f = refl

name_comma_by : (es : List Entry) (b : Bool) → (b ≡ true → length es ≡ 0) × (length es ≡ 0 → b ≡ true) → comma_beside_members (members_view es) ≡ cond (not b) 1 0
name_comma_by [] b h = rw (h.1 refl)
name_comma_by (t ∷ ts) true h = absurd (absurd_length (length ts) (h.0 refl))
name_comma_by (t ∷ ts) false h = refl

pub comma_of_members : (es : List Entry) (b : Bool) → (b ≡ true → length es ≡ 0) × (length es ≡ 0 → b ≡ true) → comma_beside_members (members_view es) ≡ cond (not b) 1 0
comma_of_members es b h = name_comma_by es b h
