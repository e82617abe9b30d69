-- The effect of a `Change` at the last token of its place.
use Rattle.std.specs.Prelude.{◌≡◌, List, [], ◌∷◌, map, String, string_bytes, Option, None, Some, option_map, option_and_then, ⊤}
use Rattle.std.specs.declared.alloc.Global.{Global}
use Rattle.doc_tree.specs.Doc.{Doc, Members, Elements}
use Rattle.doc_tree.specs.TreeView.{view}
use Rattle.doc_tree.specs.declared.tree.Tree.{Tree}
use Rattle.refusals.specs.declared.numbers.TheConstants.{PATCH_MISSING}
use Rattle.doc_pointer.specs.Place.{child_named}
use Rattle.doc_edits.specs.Edit.{Token, Tokens, member_at, add_member, remove_member, replace_member, add_item, remove_item, replace_item, in_holder}
use Rattle.doc_edits.specs.Spare.{member_back, item_back}
use Rattle.doc_edits.specs.declared.change.Change.{Change}
use Rattle.doc_edits.specs.declared.fault.OperationFault.{OperationFault}
use Rattle.doc_edits.specs.declared.change.Change.TheVariants.{Add, Remove, Replace, Return}

-- the bytes of each name
abbrev pub tokens_of : List (String Global) → Tokens
tokens_of names = map string_bytes names

-- what the change makes of the members that hold the place
abbrev pub members_changed : Change → Token → Members → Option Members
members_changed (Add v) t ms = add_member (view v) t ms
members_changed Remove t ms = remove_member t ms
members_changed (Replace v) t ms = replace_member (view v) t ms
members_changed (Return name spare v) t ms = member_back spare (view v) (string_bytes name) ms

-- what it makes of the elements that hold the place
abbrev pub items_changed : Change → Token → Elements → Option Elements
items_changed (Add v) t ds = add_item (view v) t ds
items_changed Remove t ds = remove_item t ds
items_changed (Replace v) t ds = replace_item (view v) t ds
items_changed (Return name spare v) t ds = item_back spare (view v) t ds

-- what it makes of the object or array that holds the place
abbrev pub here : Change → Token → Doc → Option Doc
here c t d = in_holder (members_changed c t) (items_changed c t) d

-- the value at the place
abbrev pub value_at : Token → Tokens → Doc → Option Doc
value_at t [] d = child_named t d
value_at t (u ∷ us) d = option_and_then (value_at u us) (child_named t d)

-- what a change took is the value that was at the place
abbrev pub Takes : Change → Token → Tokens → Doc → Option Tree → Type 0
Takes (Add v) t ts d old = option_map view old ≡ member_at t ts d
Takes Remove t ts d old = option_map view old ≡ value_at t ts d
Takes (Replace v) t ts d old = option_map view old ≡ value_at t ts d
Takes (Return name spare v) t ts d old = ⊤

-- the value that a change puts at the place
abbrev pub value_of : Change → Option Doc
value_of (Add v) = Some (view v)
value_of Remove = None
value_of (Replace v) = Some (view v)
value_of (Return name spare v) = Some (view v)

-- a change that takes no memory fails only if its place isn't there
abbrev pub Fails : Change → OperationFault → Type 0
Fails (Add v) fault = ⊤
Fails Remove fault = fault.number ≡ PATCH_MISSING
Fails (Replace v) fault = fault.number ≡ PATCH_MISSING
Fails (Return name spare v) fault = fault.number ≡ PATCH_MISSING
