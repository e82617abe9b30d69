-- Changes: what a command asks for, and the object that spells it.
use Rattle.std.specs.Prelude.{◌≡◌, ℕ, ◌<◌, ◌^◌, pos, List, Option, Some, None, string_bytes, codes, max, ⊤}
use Rattle.doc_tree.specs.Doc.{Doc, int, text, object, Members, member, no_members, height}
use Rattle.doc_tree.specs.TreeView.{view}
use Rattle.record_text.specs.declared.command.Command.{Command}
use Rattle.record_text.specs.declared.command.Command.TheVariants.{Create, Patch, Schema, Delete}

-- a command, without its place in memory; a patch may ask that the document has a revision
pub data Change : Type 0 where
  create : (name : List ℕ) → (schema doc : Doc) → Change
  patch : (name : List ℕ) → (ops : Doc) → (if_rev : Option ℕ) → Change
  set_schema : (name : List ℕ) → (schema : Doc) → Change
  delete : (name : List ℕ) → Change

-- the change that the command is
abbrev pub change_of : Command → Change
change_of (Create name schema doc) = create (string_bytes name) (view schema) (view doc)
change_of (Patch name ops if_rev) = patch (string_bytes name) (view ops) if_rev
change_of (Schema name schema) = set_schema (string_bytes name) (view schema)
change_of (Delete name) = delete (string_bytes name)

-- the word by which the change's command is called
abbrev pub word_of : Change → List ℕ
word_of (create name schema doc) = codes "create"
word_of (patch name ops if_rev) = codes "patch"
word_of (set_schema name schema) = codes "schema"
word_of (delete name) = codes "delete"

-- a name, and one more member
abbrev pub name_and : List ℕ → List ℕ → Doc → Members
name_and name k d = member (codes "name") (text name) (member k d no_members)

-- these members after `if_rev`, if a revision is asked for
abbrev pub with_revision : Option ℕ → Members → Members
with_revision None ms = ms
with_revision (Some r) ms = member (codes "if_rev") (int (pos r)) ms

-- the members of its object beside `cmd`, in byte order of their names
abbrev pub others_of : Change → Members
others_of (create name schema doc) = member (codes "doc") doc (name_and name (codes "schema") schema)
others_of (patch name ops if_rev) = with_revision if_rev (name_and name (codes "ops") ops)
others_of (set_schema name schema) = name_and name (codes "schema") schema
others_of (delete name) = member (codes "name") (text name) no_members

-- the object of a command of that word with these other members
abbrev pub command_object : List ℕ → Members → Doc
command_object word others = object (member (codes "cmd") (text word) others)

-- the object that spells a change
abbrev pub object_of : Change → Doc
object_of c = command_object (word_of c) (others_of c)

-- the height of the highest tree in the change
abbrev pub trees_height : Change → ℕ
trees_height (create name schema doc) = max (height schema) (height doc)
trees_height (patch name ops if_rev) = height ops
trees_height (set_schema name schema) = height schema
trees_height (delete name) = 0

-- the revision that it asks for, if it asks for one, can be spelled: it is at most 2^63 - 1
abbrev pub IsSpelled : Change → Type 0
IsSpelled (patch name ops (Some r)) = r < 2 ^ 63
IsSpelled _ = ⊤

-- it asks for no revision
abbrev pub AsksNone : Change → Type 0
AsksNone (patch name ops if_rev) = if_rev ≡ None
AsksNone _ = ⊤
