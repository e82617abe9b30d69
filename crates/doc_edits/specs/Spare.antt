-- Room in the object or array that holds a place.
use Rattle.std.specs.Prelude.{ℕ, suc, ◌≤◌, nat_lt, is_none, ◌&&◌, if◌then◌else◌, [], ◌∷◌, Option, Some, None, option_and_then}
use Rattle.std.specs.Option.{ForSome}
use Rattle.doc_tree.specs.Doc.{Doc, Members, no_members, member, get_member, put, object, list, Elements}
use Rattle.doc_pointer.specs.Place.{child_named}
use Rattle.doc_edits.specs.Edit.{Token, Tokens, elements_len, index_below, insert_element}
use Rattle.doc_edits.specs.declared.spare.Spare.{Spare}
use Rattle.doc_edits.specs.declared.spare.Spare.TheVariants as spare

-- how many members there are
abbrev pub count : Members → ℕ
count no_members = 0
count (member k d ms) = suc (count ms)

-- room for as many as there are in the object or array
abbrev pub IsSpareIn : Spare → Doc → Type 0
IsSpareIn (spare.Members n) (object ms) = count ms ≤ n
IsSpareIn (spare.Elements n) (list ds) = elements_len ds ≤ n
IsSpareIn _ _ = ⊥

-- the same at the place that the token and those after it lead to
abbrev pub IsSpareAt : Spare → Token → Tokens → Doc → Type 0
IsSpareAt s t [] d = IsSpareIn s d
IsSpareAt s t (u ∷ us) d = ForSome (child_named t d) (IsSpareAt s u us)

-- the members with a new one, if the room is for more than there are
abbrev pub put_within : ℕ → Doc → Token → Members → Option Members
put_within n v t ms = if nat_lt (count ms) n && is_none (get_member t ms) then Some (put t v ms) else None

-- the elements with one more before the index, if the room is for more than there are
abbrev pub insert_within : ℕ → Doc → Token → Elements → Option Elements
insert_within n v t ds = if nat_lt (elements_len ds) n then option_and_then (λ i. insert_element i v ds) (index_below (suc (elements_len ds)) t) else None

-- a new member of that name, if the room is one for members
abbrev pub member_back : Spare → Doc → Token → Members → Option Members
member_back (spare.Members n) v t ms = put_within n v t ms
member_back (spare.Elements n) v t ms = None

-- one more element, if the room is one for elements
abbrev pub item_back : Spare → Doc → Token → Elements → Option Elements
item_back (spare.Members n) v t ds = None
item_back (spare.Elements n) v t ds = insert_within n v t ds
