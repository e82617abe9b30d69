-- Changes at a place of a document, by recursion on the tokens that lead there (RFC 6902, sections 4.1 to 4.3).
use Rattle.std.specs.Prelude.{ℕ, suc, zero, List, [], ◌∷◌, Bool, false, Option, Some, None, option_and_then, option_map, if◌then◌else◌, codes, decimal}
use Rattle.std.specs.Ordering.{nat_cmp, match_ordering}
use Rattle.std.specs.Cmp.Lexicographic.{slice_cmp}
use Rattle.std.specs.Str.{bytes_eq}
use Rattle.doc_tree.specs.Doc.{Doc, list, object, Elements, no_elements, element, Members, no_members, member, put, get_member}
use Rattle.doc_pointer.specs.Place.{child_named}

-- a decoded token of a pointer, as its bytes
abbrev pub Token : Type 0
Token = List ℕ

-- the tokens of a pointer, the first at the root
abbrev pub Tokens : Type 0
Tokens = List (List ℕ)

-- ---- indices

-- how many elements there are
abbrev pub elements_len : Elements → ℕ
elements_len no_elements = 0
elements_len (element d ds) = suc (elements_len ds)

-- the first of `count` numbers from n on whose decimal text is the token, as how far it is from n
abbrev pub number_named : ℕ → ℕ → Token → Option ℕ
number_named n zero t = None
number_named n (suc count) t = if bytes_eq (decimal n) t then Some 0 else option_map (λ i. suc i) (number_named (suc n) count t)

-- the index below the bound that the token names (RFC 6901, section 4)
abbrev pub index_below : ℕ → Token → Option ℕ
index_below bound t = number_named 0 bound t

-- `-` names the place after the last element
abbrev pub dash : Token
dash = codes "-"

-- the last token is `-`, which in an array names the place after its last element (RFC 6901, section 4)
abbrev pub ends_in_dash : Tokens → Bool
ends_in_dash [] = false
ends_in_dash (t ∷ []) = bytes_eq t dash
ends_in_dash (t ∷ u ∷ us) = ends_in_dash (u ∷ us)

-- ---- elements and members

-- the first i elements, v, and the others; none if there are fewer than i
abbrev pub insert_element : ℕ → Doc → Elements → Option Elements
insert_element zero v ds = Some (element v ds)
insert_element (suc i) v no_elements = None
insert_element (suc i) v (element d ds) = option_map (element d) (insert_element i v ds)

-- the elements, and v
abbrev pub append_element : Doc → Elements → Elements
append_element v no_elements = element v no_elements
append_element v (element d ds) = element d (append_element v ds)

-- the first i elements, and those after the next; none if there is no next
abbrev pub remove_element : ℕ → Elements → Option Elements
remove_element i no_elements = None
remove_element zero (element d ds) = Some ds
remove_element (suc i) (element d ds) = option_map (element d) (remove_element i ds)

-- the elements with v in place of the one at i
abbrev pub set_element : ℕ → Doc → Elements → Elements
set_element i v no_elements = no_elements
set_element zero v (element d ds) = element v ds
set_element (suc i) v (element d ds) = element d (set_element i v ds)

-- the members without the one of that name
abbrev pub cut : List ℕ → Members → Members
cut k no_members = no_members
cut k (member l d ms) = match_ordering (slice_cmp nat_cmp k l) (member l d (cut k ms)) ms (member l d (cut k ms))

-- the members with v in place of the value of that name
abbrev pub set_member : List ℕ → Doc → Members → Members
set_member k v no_members = no_members
set_member k v (member l d ms) = match_ordering (slice_cmp nat_cmp k l) (member l d (set_member k v ms)) (member l v ms) (member l d (set_member k v ms))

-- ---- on the way to the place

-- v in place of the element at the index, if the token names one
abbrev pub set_at : Option ℕ → Doc → Elements → Elements
set_at None v ds = ds
set_at (Some i) v ds = set_element i v ds

-- v in place of the child that the token names
abbrev pub with_child : Token → Doc → Doc → Doc
with_child t v (object ms) = object (set_member t v ms)
with_child t v (list ds) = list (set_at (index_below (elements_len ds) t) v ds)
with_child t v d = d

-- what f makes of the child that the token names, in its place
abbrev pub in_child : Token → (Doc → Option Doc) → Doc → Option Doc
in_child t f d = option_and_then (λ e. option_map (λ new. with_child t new d) (f e)) (child_named t d)

-- what f makes, with the last token, of the object or array that the tokens before it lead to
abbrev pub at_last : (Token → Doc → Option Doc) → Token → Tokens → Doc → Option Doc
at_last f t [] d = f t d
at_last f t (u ∷ us) d = in_child t (at_last f u us) d

-- the member that an addition replaces
abbrev pub member_at : Token → Tokens → Doc → Option Doc
member_at t [] (object ms) = get_member t ms
member_at t [] d = None
member_at t (u ∷ us) d = option_and_then (member_at u us) (child_named t d)

-- ---- in the object or array that holds the place

-- members as f makes them, or elements as g does; what is neither holds nothing
abbrev pub in_holder : (Members → Option Members) → (Elements → Option Elements) → Doc → Option Doc
in_holder f g (object ms) = option_map object (f ms)
in_holder f g (list ds) = option_map list (g ds)
in_holder f g _ = None

-- a new member is added, and one that is there is replaced
abbrev pub put_or_set : Option Doc → Doc → Token → Members → Members
put_or_set None v t ms = put t v ms
put_or_set (Some old) v t ms = set_member t v ms

-- a member of the last token's name is added or replaced (section 4.1)
abbrev pub add_member : Doc → Token → Members → Option Members
add_member v t ms = Some (put_or_set (get_member t ms) v t ms)

-- before an index of at most the length, or at the end
abbrev pub add_item : Doc → Token → Elements → Option Elements
add_item v t ds = if bytes_eq t dash then Some (append_element v ds) else option_and_then (λ i. insert_element i v ds) (index_below (suc (elements_len ds)) t)

-- the member of that name goes; none if there is no such member (section 4.2)
abbrev pub remove_member : Token → Members → Option Members
remove_member t ms = option_map (λ _. cut t ms) (get_member t ms)

-- the element at the index goes; none if there is no such element (section 4.2)
abbrev pub remove_item : Token → Elements → Option Elements
remove_item t ds = option_and_then (λ i. remove_element i ds) (index_below (elements_len ds) t)

-- v replaces the value of the member of that name; none if there is no such member (section 4.3)
abbrev pub replace_member : Doc → Token → Members → Option Members
replace_member v t ms = option_map (λ _. set_member t v ms) (get_member t ms)

-- v replaces the element at the index; none if there is no such element (section 4.3)
abbrev pub replace_item : Doc → Token → Elements → Option Elements
replace_item v t ds = option_map (λ i. set_element i v ds) (index_below (elements_len ds) t)

-- v is added in the object or array that holds the place
abbrev pub add_here : Doc → Token → Doc → Option Doc
add_here v t d = in_holder (add_member v t) (add_item v t) d

-- what the last token names goes from the object or array that holds the place
abbrev pub remove_here : Token → Doc → Option Doc
remove_here t d = in_holder (remove_member t) (remove_item t) d

-- v replaces what the last token names in the object or array that holds the place
abbrev pub replace_here : Doc → Token → Doc → Option Doc
replace_here v t d = in_holder (replace_member v t) (replace_item v t) d

-- ---- the changes

-- the document with v added at the place; none if the place can't be (section 4.1)
abbrev pub add : Tokens → Doc → Doc → Option Doc
add [] v d = Some v
add (t ∷ ts) v d = at_last (add_here v) t ts d

-- the document without what is at the place; none if nothing is, and none for the root (section 4.2)
abbrev pub remove : Tokens → Doc → Option Doc
remove [] d = None
remove (t ∷ ts) d = at_last remove_here t ts d

-- the document with v in place of what is at the place; none if nothing is (section 4.3)
abbrev pub replace : Tokens → Doc → Doc → Option Doc
replace [] v d = Some v
replace (t ∷ ts) v d = at_last (replace_here v) t ts d
