-- Marks in lines: the members by which a line of changes speaks of one.
use Rattle.std.specs.Prelude.{List, ℕ, Option, None, Some, codes}
use Rattle.doc_tree.specs.Doc.{Doc, Members, member, no_members, null, object, put, text}
use Rattle.doc_machine.specs.Marking as markings
use Rattle.doc_machine.specs.Marking.{Asked, Marking}

-- the value at `mark`: the key and the value of the mark that is set
abbrev pub mark_object : (key value : List ℕ) → Doc
mark_object key value = object (member (codes "key") (text key) (member (codes "value") (text value) no_members))

-- the value at `if_mark`: none if the mark may be anything before, null if it must not be there, or the text that it must have
abbrev pub asked_value : Asked → Option Doc
asked_value markings.anything = None
asked_value markings.absence = Some null
asked_value (markings.value v) = Some (text v)

-- members with that value at the name, if there is one
abbrev pub put_some : List ℕ → Option Doc → Members → Members
put_some name None ms = ms
put_some name (Some d) ms = put name d ms

-- the members of a line, in byte order of their names, with those that speak of the mark
abbrev pub with_marking : Marking → Members → Members
with_marking m ms = put (codes "mark") (mark_object m.key m.value) (put_some (codes "if_mark") (asked_value m.asked) ms)
