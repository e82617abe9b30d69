-- The words of a program on the slots of a store.
use Rattle.std.specs.Prelude.{ℕ, List, [], Bool, Option, codes, pos, true, if◌then◌else◌}
use Rattle.doc_tree.specs.Doc.{Doc, Members, boolean, int, text, object, member, no_members}
use Rattle.doc_store.specs.Formats.{status_of}
use Rattle.doc_store.specs.declared.opening.Strictness.{Strictness}
use Rattle.doc_store.specs.declared.opening.Strictness.TheVariants.{AnyState, RefusesCutOff}
use Rattle.doc_store.specs.declared.status.Status.{Status}
use Rattle.protocol.specs.Reply.{line_of}
use Rattle.status_lines.specs.Status.{id_of, status_reply, with_id}
use Rattle.slot_commits.specs.declared.found.Notice.{Notice}
use Rattle.slot_commits.specs.declared.found.Notice.TheVariants.{Whole, Mended, CutOff}
use Rattle.store_commits.specs.Account.{Account}

-- how strictly a store is opened, by the flag
abbrev pub strictness_of : Bool → Strictness
strictness_of strict = if strict then RefusesCutOff else AnyState

-- its word
abbrev pub word_of : Notice → List ℕ
word_of Whole = codes "whole"
word_of Mended = codes "mended"
word_of CutOff = codes "cut-off"

-- the line of it on standard error
abbrev pub worded_slots : List ℕ → Doc
worded_slots word = object (member (codes "slots") (text word) no_members)

abbrev pub slots_reply : Notice → Doc
slots_reply notice = worded_slots (word_of notice)

-- what is said at an opening: nothing if all is whole
abbrev pub note_of : Notice → List ℕ
note_of Whole = []
note_of Mended = line_of (slots_reply Mended)
note_of CutOff = line_of (slots_reply CutOff)

-- the members of a status after `id`, with that word of the slots
abbrev pub members_worded : Status → List ℕ → Members
members_worded s word =
    member (codes "ok") (boolean true)
    (member (codes "opens") (int (pos s.opens))
    (member (codes "sectors") (int (pos s.sectors))
    (member (codes "seq") (int (pos s.seq))
    (member (codes "slots") (text word)
    (member (codes "used") (int (pos s.used)) no_members)))))

-- the status of a store with that word, and this text as `id`
abbrev pub worded_status : Status → List ℕ → Option (List ℕ) → Doc
worded_status s word id =
    object (member (codes "broken") (boolean s.broken)
    (member (codes "capacity") (int (pos s.capacity))
    (member (codes "documents") (int (pos s.documents))
    (member (codes "half") (int (pos s.half)) (with_id id (members_worded s word))))))

-- what `check` shows: in formats 1 and 2 the reply to `status`
abbrev pub checked_reply : Account → Notice → Doc
checked_reply account notice = if account.rides then worded_status (status_of account) (word_of notice) (id_of (status_of account)) else status_reply (status_of account)

abbrev pub checked_line : Account → Notice → List ℕ
checked_line account notice = line_of (checked_reply account notice)
