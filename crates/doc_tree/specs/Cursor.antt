-- A walk over the members of an object.
use Rattle.std.specs.Prelude.{◌≡◌, ℕ, List}
use Rattle.doc_tree.specs.Doc.{Members, member, no_members}
use Rattle.doc_tree.specs.TreeView.{members_view}
use Rattle.doc_tree.specs.declared.cursor.MemberCursor.{MemberCursor}

-- the members that it hasn't come to yet
abbrev pub ahead : MemberCursor → Members
ahead cursor = members_view cursor.left.entries

-- the next member has that name
abbrev pub IsNext : List ℕ → Members → Type 0
IsNext name no_members = ⊥
IsNext name (member k d ms) = k ≡ name
